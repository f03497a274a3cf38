-- The rows of a child in its form: what the lookups give, and what is written above its root.
-- Assumes nothing.
use Prim.Native.Nat.{ℕ, ◌+◌, ◌≤◌, ◌<◌}
use mathlib.Core.Path.{◌≡◌, refl, sym, ap, ap₂, ◌∙◌}
use mathlib.Core.Bool.{Bool, true, false, cond}
use mathlib.Core.Option.{some, none as nothing}
use mathlib.Core.List.{List, [], ◌∷◌, ◌++◌, map, append_assoc}
use native.Mathlib.Nat.{add-zero}
use native.Mathlib.Omega.{arith}
use lib.Dec.{eqb}
use lib.ListN.{length, get_or, set, replicate, length-append}
use lib.Seq.{sets}
use borrow.Author.Tests.{eq-eqb, ne_eqb}
use Rattle.exchange.specs.declared.row.Node.{Node}
use Rattle.exchange.specs.Trees.{node, trees, Operator, Plans}
use Rattle.exchange.specs.Forms.{Form, form_number, form_of, split_form}
use Rattle.exchange.specs.Settings.{is_set}
use Rattle.exchange.specs.Facts.{Row}
use Rattle.exchange.specs.Operators.{above, new_exchange}
use Rattle.exchange.specs.Step.{split_operator}
use Rattle.exchange.specs.Rows.{packed, node_of, operator_of, row_of, flatten, flattens}
use Rattle.exchange.specs.Found.{row_for}
use Rattle.exchange.specs.FactRows.{fact_row}
use Rattle.exchange.specs.Built.{or_blank, row_in, before_relationship, top_operator, built_root, built_top, under_relationship, built_relationship, topped, related, top_rows, new_rows, built_rows, built, Put}
use Rattle.exchange.proofs.Stored.{then}
use Rattle.exchange.proofs.TreeRows.{flatten_node, flattens_one, operator_held, row_packed}
use Rattle.exchange.proofs.Forms.{form_apart, form_whole}
use Rattle.exchange.proofs.FactRows.{row_none, row_placed, row_some}

module _ (rows : List (List ℕ)) (child form : ℕ) (small : form ≤ 15) where
  sixteen : form_number (form_of form) ≡ form
  sixteen = form_whole form (omega arith)

  pub row_blank : nothing ≡ row_for rows child form → fact_row (replicate 13 0) ≡ row_in (map fact_row rows) child (form_of form)
  unfolding row_in
  row_blank e = sym (ap or_blank (row_none rows child (form_of form) (rw sixteen e)))

  pub row_there : (p : ℕ) → some p ≡ row_for rows child form → fact_row (get_or rows p []) ≡ row_in (map fact_row rows) child (form_of form)
  unfolding row_in
  row_there p e = sym (ap or_blank (row_some rows child (form_of form) p (rw sixteen e)))

  pub row_within : (p : ℕ) → some p ≡ row_for rows child form → p < length rows
  row_within p e = row_placed rows child (form_of form) p (rw sixteen e)

-- ---- the operators

module _ (rows : List Row) (child : ℕ) (f : Form) where
  pub root_kept : (n : Node) → node_of (operator_of n) ≡ n → is_set f.split ≡ false → n ≡ node_of (built_root rows child f (operator_of n))
  unfolding built_root
  root_kept n legal h = rw h (sym legal)

  pub root_split : (n r : Node) (x : Row) → is_set f.split ≡ true → x ≡ row_in rows child split_form → r ≡ node_of (split_operator x (operator_of n))
      → r ≡ node_of (built_root rows child f (operator_of n))
  unfolding built_root
  root_split n r x h e g = rw h (g ∙ ap (λ (y : Row). node_of (split_operator y (operator_of n))) e)

  pub top_built : (top : ℕ) (x : Row) (n r : Node) → top ≡ f.top → x ≡ row_in rows child (before_relationship f) → r ≡ node_of (top_operator top x (operator_of n))
      → r ≡ node_of (built_top rows child f (operator_of n))
  unfolding built_top
  top_built top x n r t e g = g ∙ ap₂ (λ (k : ℕ) (y : Row). node_of (top_operator k y (operator_of n))) t e

  pub under_kept : (n : Node) → node_of (operator_of n) ≡ n → f.top ≡ 0 → n ≡ node_of (under_relationship rows child f (operator_of n))
  unfolding under_relationship
  under_kept n legal h = rw (eq-eqb _ _ h) (sym legal)

  pub under_built : (n r : Node) → (f.top ≡ 0 → ⊥) → r ≡ node_of (built_top rows child f (operator_of n))
      → r ≡ node_of (under_relationship rows child f (operator_of n))
  unfolding under_relationship
  under_built n r h g = rw (ne_eqb _ _ h) g

  pub relationship_built : (x : Row) (n under r : Node) → x ≡ row_in rows child f → under ≡ node_of (under_relationship rows child f (operator_of n))
      → r ≡ node_of (new_exchange 12 x (operator_of under)) → r ≡ node_of (built_relationship rows child f (operator_of n))
  unfolding built_relationship
  relationship_built x n under r e u g =
      g
      ∙ ap₂ (λ (y : Row) (m : Node). node_of (new_exchange 12 y (operator_of m))) e u
      ∙ ap (λ (o : Operator). node_of (new_exchange 12 (row_in rows child f) o)) (operator_held (under_relationship rows child f (operator_of n)))

  -- ---- the rows written

  pub top_none : (o : Operator) → f.top ≡ 0 → top_rows rows child f o ≡ []
  unfolding top_rows
  top_none o h = rw (eq-eqb _ _ h)

  pub top_one : (o : Operator) → (f.top ≡ 0 → ⊥) → top_rows rows child f o ≡ row_of (built_top rows child f o) 1 ∷ []
  unfolding top_rows
  top_one o h = rw (ne_eqb _ _ h)

  pub new_none : (o : Operator) → is_set f.relationship ≡ false → new_rows rows child f o ≡ top_rows rows child f o
  unfolding new_rows
  new_none o h = rw h

  pub new_one : (o : Operator) → is_set f.relationship ≡ true → new_rows rows child f o ≡ row_of (built_relationship rows child f o) 1 ∷ top_rows rows child f o
  unfolding new_rows
  new_one o h = rw h

-- the form before its relationship exchange, put together and taken apart
pub before_apart : (form split top before : ℕ) → form ≤ 15 → split ≡ (form_of form).split → top ≡ (form_of form).top
    → before ≡ form_number (record { split = split; top = top; relationship = 0 }) → form_of before ≡ before_relationship (form_of form)
before_apart form split top before small s t b =
    ap form_of (b ∙ ap₂ (λ (x y : ℕ). form_number (record { split = x; top = y; relationship = 0 })) s t)
    ∙ form_apart (before_relationship (form_of form)) (omega arith) (omega arith) (omega arith)

-- ---- the rows of the whole

module _ (rows : List Row) (child : ℕ) (f : Form) where
  under : (o p : Operator) (ts : Plans) → flatten (above p (node o ts)) ≡ row_of p 1 ∷ row_of o (trees ts) ∷ flattens ts
  under o p ts = flatten_node p _ ∙ ap (λ (l : List (List ℕ)). row_of p 1 ∷ l) (flattens_one _ ∙ flatten_node o ts)

  topped_rows : (o : Operator) (ts : Plans) → flatten (topped rows child f (node o ts)) ≡ top_rows rows child f o ++ row_of o (trees ts) ∷ flattens ts
  unfolding top_rows
  topped_rows o ts = go (eqb f.top 0)
    where
      go : (b : Bool) → flatten (cond b (node o ts) (above (built_top rows child f o) (node o ts)))
          ≡ cond b [] (row_of (built_top rows child f o) 1 ∷ []) ++ row_of o (trees ts) ∷ flattens ts
      go true = flatten_node o ts
      go false = under o (built_top rows child f o) ts

  related_rows : (o : Operator) (ts : Plans) → flatten (related rows child f (node o ts)) ≡ new_rows rows child f o ++ row_of o (trees ts) ∷ flattens ts
  unfolding new_rows
  related_rows o ts = go (is_set f.relationship)
    where
      go : (b : Bool) → flatten (cond b (above (built_relationship rows child f o) (topped rows child f (node o ts))) (topped rows child f (node o ts)))
          ≡ cond b (row_of (built_relationship rows child f o) 1 ∷ top_rows rows child f o) (top_rows rows child f o) ++ row_of o (trees ts) ∷ flattens ts
      go true = flatten_node (built_relationship rows child f o) _ ∙ ap (λ (l : List (List ℕ)). row_of (built_relationship rows child f o) 1 ∷ l) (flattens_one _ ∙ topped_rows o ts)
      go false = topped_rows o ts

  pub built_rows_lem : (o : Operator) (ts : Plans) → flatten (built rows child f (node o ts)) ≡ built_rows rows child f o (trees ts) ++ flattens ts
  unfolding built built_rows
  built_rows_lem o ts =
      related_rows (built_root rows child f o) ts
      ∙ sym (append_assoc (new_rows rows child f (built_root rows child f o)) (row_of (built_root rows child f o) (trees ts) ∷ []) (flattens ts))

-- ---- what is written

module _ (to : ℕ) (d : List (List ℕ)) (out : List (List ℕ)) where
  pub put_nothing : out ≡ [] → Put to out d d to
  put_nothing e = rw e (sym (add-zero to), refl)

stored_row : (d d₁ : List (List ℕ)) (to k : ℕ) (m : Node) (o : Operator) → m ≡ node_of o → d₁ ≡ set d to (packed m k) → d₁ ≡ sets d to (row_of o k ∷ [])
stored_row d d₁ to k m o n s = s ∙ ap (λ (x : Node). set d to (packed x k)) n ∙ ap (λ (r : List ℕ). set d to r) (row_packed o k)

module _ (to : ℕ) (d d₁ d₂ : List (List ℕ)) (m : Node) (o : Operator) (is : m ≡ node_of o) where
  -- a row, and then others
  pub put_more : (out others : List (List ℕ)) (r : ℕ) → out ≡ row_of o 1 ∷ others → d₁ ≡ set d to (packed m 1) → Put (to + 1) others d₁ d₂ r → Put to out d d₂ r
  put_more out others r e s p =
      rw e (omega (arith, p.0), then d d₁ d₂ to (to + 1) (row_of o 1 ∷ []) others refl (stored_row d d₁ to 1 m o is s) p.1)

  -- rows, and then one
  put_last : (others : List (List ℕ)) (next k : ℕ) → Put to others d d₁ next → d₂ ≡ set d₁ next (packed m k) → Put to (others ++ row_of o k ∷ []) d d₂ (next + 1)
  put_last others next k p s =
      let last : d₂ ≡ sets d₁ next (row_of o k ∷ []) = stored_row d₁ d₂ next k m o is s in
      (omega (arith, p.0, length-append others (row_of o k ∷ [])), then d d₁ d₂ to next others (row_of o k ∷ []) p.0 p.1 last)

-- a row of an operator says it
pub said : (m : Node) (o : Operator) → m ≡ node_of o → operator_of m ≡ o
said m o is = ap operator_of is ∙ operator_held o

pub said_again : (m : Node) (o : Operator) → m ≡ node_of o → node_of (operator_of m) ≡ m
said_again m o is = ap node_of (said m o is) ∙ sym is

pub built_long : (rows : List Row) (child : ℕ) (f : Form) (o : Operator) (k : ℕ) → length (built_rows rows child f o k) ≡ length (new_rows rows child f (built_root rows child f o)) + 1
unfolding built_rows
built_long rows child f o k = length-append (new_rows rows child f (built_root rows child f o)) _

pub built_put : (rows : List Row) (child : ℕ) (f : Form) (o : Operator) (k to next : ℕ) (d d₁ d₂ : List (List ℕ)) (m : Node) → m ≡ node_of (built_root rows child f o)
    → Put to (new_rows rows child f (operator_of m)) d d₁ next → d₂ ≡ set d₁ next (packed m k) → Put to (built_rows rows child f o k) d d₂ (next + 1)
unfolding built_rows
built_put rows child f o k to next d d₁ d₂ m is p s =
    put_last to d d₁ d₂ m (built_root rows child f o) is (new_rows rows child f (built_root rows child f o)) next k (rw (said m (built_root rows child f o) is) at p) s

-- at most two new operators
module _ (rows : List Row) (child : ℕ) (f : Form) (o : Operator) where
  top_long : length (top_rows rows child f o) ≤ 1
  unfolding top_rows
  top_long = go (eqb f.top 0)
    where
      go : (b : Bool) → length (cond b [] (row_of (built_top rows child f o) 1 ∷ [])) ≤ 1
      go true = omega arith
      go false = omega arith

  pub new_long : length (new_rows rows child f o) ≤ 2
  unfolding new_rows
  new_long = go (is_set f.relationship)
    where
      go : (b : Bool) → length (cond b (row_of (built_relationship rows child f o) 1 ∷ top_rows rows child f o) (top_rows rows child f o)) ≤ 2
      go true = omega (arith, top_long)
      go false = omega (arith, top_long)
