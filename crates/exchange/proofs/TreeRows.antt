-- The rows of a tree and of a run of trees, clause by clause, and the row that is read at a place (`next`).
-- Assumes nothing.
use mathlib.Core.Path.{◌≡◌, refl, sym, ap, ◌∙◌}
use mathlib.Core.Option.{Option, none as absent, some}
use mathlib.Core.List.{List, [], ◌∷◌, ◌++◌, append_assoc, append-nil}
use Prim.Native.Nat.{ℕ, ◌+◌, ◌-◌, ◌≤◌}
use native.Mathlib.Omega.{arith}
use lib.ListN.{length, drop, get_or, length-append}
use Rattle.exchange.specs.declared.row.Node.{Node}
use Rattle.exchange.specs.Trees.{node, none, ◌∷ᶠ◌, ◌++ᶠ◌, trees, root, Operator, Plan, Plans}
use Rattle.exchange.specs.Rows.{packed, unpacked, children_of, children_at, limit_mark, limit_number, limit_of, node_of, operator_of, row_of, flatten, flattens}
use Rattle.exchange.proofs.Stored.{past, within, first_at}

-- ---- clause by clause

pub flatten_node : (o : Operator) (ts : Plans) → flatten (node o ts) ≡ row_of o (trees ts) ∷ flattens ts
unfolding flatten
flatten_node o ts = refl

pub flattens_none : flattens none ≡ []
unfolding flatten
flattens_none = refl

pub flattens_cons : (t : Plan) (ts : Plans) → flattens (t ∷ᶠ ts) ≡ flatten t ++ flattens ts
unfolding flatten
flattens_cons t ts = refl

pub flattens_one : (t : Plan) → flattens (t ∷ᶠ none) ≡ flatten t
flattens_one t = flattens_cons t none ∙ simp (flattens_none, append-nil)

pub flattens_append : (ts us : Plans) → flattens (ts ++ᶠ us) ≡ flattens ts ++ flattens us
flattens_append none us = rw flattens_none
flattens_append (t ∷ᶠ ts) us = simp (flattens_cons, flattens_append ts us, append_assoc)

-- the first row of several trees, and the trees after it: its children and its siblings
pub first_row : (o : Operator) (cs ts : Plans) → flattens (node o cs ∷ᶠ ts) ≡ row_of o (trees cs) ∷ flattens (cs ++ᶠ ts)
first_row o cs ts = rw (flattens_cons, flatten_node, flattens_append)

-- ---- counts

pub trees_append : (ts us : Plans) → trees (ts ++ᶠ us) ≡ trees ts + trees us
trees_append none us = omega arith
trees_append (t ∷ᶠ ts) us = omega (arith, trees_append ts us)

pub tree_long : (t : Plan) → 1 ≤ length (flatten t)
tree_long (node o ts) = rw flatten_node (omega arith)

pub trees_long : (ts : Plans) → trees ts ≤ length (flattens ts)
trees_long none = omega arith
trees_long (t ∷ᶠ ts) = omega (arith, trees_long ts, tree_long t, ap length (flattens_cons t ts), length-append (flatten t) (flattens ts))

-- ---- a row says its operator and its count of children

pub limit_held : (l : Option ℕ) → limit_of (limit_mark l) (limit_number l) ≡ l
limit_held absent = refl
limit_held (some l) = refl

pub operator_held : (o : Operator) → operator_of (node_of o) ≡ o
operator_held o = λ i. record { id = o.id; kind = o.kind; count = o.count; keeps = o.keeps; limit = limit_held o.limit i; order = o.order; mask = o.mask; tracked = o.tracked; need = o.need }

pub row_node : (o : Operator) (k : ℕ) → unpacked (row_of o k) ≡ node_of o
unfolding row_of
row_node o k = refl

pub row_operator : (o : Operator) (k : ℕ) → operator_of (unpacked (row_of o k)) ≡ o
row_operator o k = ap operator_of (row_node o k) ∙ operator_held o

pub row_children : (o : Operator) (k : ℕ) → children_of (row_of o k) ≡ k
unfolding row_of
row_children o k = refl

pub row_packed : (o : Operator) (k : ℕ) → packed (node_of o) k ≡ row_of o k
unfolding row_of
row_packed o k = refl

pub tree_in : (src : List (List ℕ)) (at : ℕ) (t : Plan) (rest : List (List ℕ)) → drop at src ≡ flatten t ++ rest → at + length (flatten t) ≤ length src
tree_in src at t rest h = within src (flatten t) rest at h (omega (arith, tree_long t))

-- ---- the next row of several trees

pub record Next (src : List (List ℕ)) (a : ℕ) (below : Plans) (rest : List (List ℕ)) : Type 0 where
  pub below' : Plans
  pub counted : trees below' ≡ trees below - 1 + children_at src a
  pub row : flattens below ≡ get_or src a [] ∷ flattens below'
  pub stands : drop (a + 1) src ≡ flattens below' ++ rest

pub next : (src : List (List ℕ)) (a : ℕ) (below : Plans) (rest : List (List ℕ)) → (trees below ≡ 0 → ⊥) → drop a src ≡ flattens below ++ rest → Next src a below rest
next src a none rest more h = absurd (more refl)
next src a (node o cs ∷ᶠ ts) rest more h =
    let e : drop a src ≡ row_of o (trees cs) ∷ (flattens (cs ++ᶠ ts) ++ rest) = h ∙ ap (λ (l : List (List ℕ)). l ++ rest) (first_row o cs ts) in
    let r : get_or src a [] ≡ row_of o (trees cs) = first_at src _ a [] e in
    let k : children_at src a ≡ trees cs = ap children_of r ∙ row_children o (trees cs) in
    record {
      below' = cs ++ᶠ ts;
      counted = omega (arith, trees_append cs ts, k);
      row = first_row o cs ts ∙ ap (λ (x : List ℕ). x ∷ flattens (cs ++ᶠ ts)) (sym r);
      stands = past src (row_of o (trees cs) ∷ []) _ a e;
    }

-- the mark of the tree that stands at a place
pub tracked_read : (src : List (List ℕ)) (at : ℕ) (t : Plan) (rest : List (List ℕ)) → drop at src ≡ flatten t ++ rest → get_or (get_or src at []) 8 0 ≡ (root t).tracked
tracked_read src at (node o ts) rest h =
    let r : get_or src at [] ≡ row_of o (trees ts) = first_at src _ at [] (h ∙ ap (λ (l : List (List ℕ)). l ++ rest) (flatten_node o ts)) in
    ap (λ (x : List ℕ). get_or x 8 0) r ∙ ap (λ (n : Node). n.tracked) (row_node o (trees ts))
