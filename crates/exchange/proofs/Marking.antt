-- The update_each of children on rows: what is read of a first tree and of the others, and a mark stored leaves all else as it stood (`marked_one`).
-- Assumes nothing.
use mathlib.Core.Path.{◌≡◌, refl, sym, ap, ◌∙◌}
use mathlib.Core.Bool.{Bool, true, false, cond, not, ◌||◌}
use mathlib.Core.List.{List, [], ◌∷◌, ◌++◌, append_assoc}
use Prim.Native.Nat.{ℕ, ◌+◌, ◌-◌, ◌<◌}
use native.Mathlib.Omega.{arith}
use lib.Dec.{eqb}
use lib.ListN.{length, drop, get_or}
use borrow.Author.Tests.{eq-eqb, ne_eqb}
use Rattle.exchange.specs.Trees.{node, none, ◌∷ᶠ◌, trees, root, Operator, Plan, Plans}
use Rattle.exchange.specs.Settings.{is_set}
use Rattle.exchange.specs.Rows.{unpacked, children_of, operator_of, node_at, children_at, row_of, flatten, flattens}
use Rattle.exchange.specs.Runs.{Stands, Says, SaysAll, StandAll}
use Rattle.exchange.specs.Operators.{is_tracked}
use Rattle.exchange.specs.ReplaceRows.{exchanges}
use Rattle.exchange.specs.Children.{any_unspecified}
use Rattle.exchange.specs.Update.{is_unspecified, marks_below, marks_child}
use Rattle.exchange.proofs.Stored.{past, first_at}
use Rattle.exchange.proofs.TreeRows.{flatten_node, flattens_cons, row_operator, row_children, tree_in, tree_long, tracked_read}

-- ---- what stands, and what is read of it

pub row_at : (src : List (List ℕ)) (at : ℕ) (o : Operator) (ts : Plans) (rest : List (List ℕ)) → drop at src ≡ flatten (node o ts) ++ rest → get_or src at [] ≡ row_of o (trees ts)
row_at src at o ts rest h = first_at src _ at [] (h ∙ ap (λ (l : List (List ℕ)). l ++ rest) (flatten_node o ts))

pub root_read : (src : List (List ℕ)) (at : ℕ) (t : Plan) (rest : List (List ℕ)) → drop at src ≡ flatten t ++ rest → operator_of (node_at src at) ≡ root t
root_read src at (node o ts) rest h = ap (λ (x : List ℕ). operator_of (unpacked x)) (row_at src at o ts rest h) ∙ row_operator o (trees ts)

-- the first of several trees, and the others
pub head_stands : (src : List (List ℕ)) (at : ℕ) (t : Plan) (ts : Plans) (rest : List (List ℕ)) → drop at src ≡ flattens (t ∷ᶠ ts) ++ rest → drop at src ≡ flatten t ++ (flattens ts ++ rest)
head_stands src at t ts rest h = h ∙ ap (λ (l : List (List ℕ)). l ++ rest) (flattens_cons t ts) ∙ append_assoc (flatten t) (flattens ts) rest

-- the place past the tree at `at`
abbrev pub PastTree : List (List ℕ) → ℕ → ℕ → Type 0
PastTree src at next = (t : Plan) (rest : List (List ℕ)) → drop at src ≡ flatten t ++ rest → next ≡ at + length (flatten t)

pub tail_stands : (src : List (List ℕ)) (at next : ℕ) (t : Plan) (ts : Plans) (rest : List (List ℕ)) → PastTree src at next → drop at src ≡ flattens (t ∷ᶠ ts) ++ rest
    → drop next src ≡ flattens ts ++ rest
tail_stands src at next t ts rest p h =
    let k = head_stands src at t ts rest h in
    rw (p t (flattens ts ++ rest) k) (past src (flatten t) (flattens ts ++ rest) at k)

-- the children of an operator
pub below_stands : (src : List (List ℕ)) (at : ℕ) (o : Operator) (ts : Plans) (rest : List (List ℕ)) → drop at src ≡ flatten (node o ts) ++ rest → drop (at + 1) src ≡ flattens ts ++ rest
below_stands src at o ts rest h = past src (row_of o (trees ts) ∷ []) (flattens ts ++ rest) at (h ∙ ap (λ (l : List (List ℕ)). l ++ rest) (flatten_node o ts))

pub children_read : (src : List (List ℕ)) (at : ℕ) (o : Operator) (ts : Plans) (rest : List (List ℕ)) → drop at src ≡ flatten (node o ts) ++ rest → trees ts ≡ children_at src at
children_read src at o ts rest h = sym (ap children_of (row_at src at o ts rest h) ∙ row_children o (trees ts))

module _ (src : List (List ℕ)) (at : ℕ) where
  pub stands_in : Stands src at → at < length src
  stands_in p = omega (arith, tree_in src at p.tree p.rest p.stands, tree_long p.tree)

  pub stands_below : Stands src at → StandAll src (at + 1) (children_at src at)
  stands_below p = go p.tree p.stands
    where
      go : (t : Plan) → drop at src ≡ flatten t ++ p.rest → StandAll src (at + 1) (children_at src at)
      go (node o ts) h = record { below = ts; rest = p.rest; counted = children_read src at o ts p.rest h; stands = below_stands src at o ts p.rest h }

  module _ (left : ℕ) (more : left ≡ 0 → ⊥) (p : StandAll src at left) where
    pub all_first : Stands src at
    all_first = go p.below p.counted p.stands
      where
        go : (ts : Plans) → trees ts ≡ left → drop at src ≡ flattens ts ++ p.rest → Stands src at
        go none e h = absurd (more (sym e))
        go (t ∷ᶠ ts) e h = record { tree = t; rest = flattens ts ++ p.rest; stands = head_stands src at t ts p.rest h }

    pub all_others : (next : ℕ) → PastTree src at next → StandAll src next (left - 1)
    all_others next q = go p.below p.counted p.stands
      where
        go : (ts : Plans) → trees ts ≡ left → drop at src ≡ flattens ts ++ p.rest → StandAll src next (left - 1)
        go none e h = absurd (more (sym e))
        go (t ∷ᶠ ts) e h = record { below = ts; rest = p.rest; counted = omega arith; stands = tail_stands src at next t ts p.rest q h }

-- ---- whether any is is_unspecified

any_none : any_unspecified none ≡ false
unfolding any_unspecified
any_none = refl

any_cons : (t : Plan) (ts : Plans) → any_unspecified (t ∷ᶠ ts) ≡ (is_unspecified (root t) || any_unspecified ts)
unfolding any_unspecified
any_cons t ts = refl

pub unspecified_none : (src : List (List ℕ)) (at left : ℕ) → left ≡ 0 → SaysAll any_unspecified src at left false
unspecified_none src at left z none rest e h = sym any_none
unspecified_none src at left z (t ∷ᶠ ts) rest e h = absurd (omega arith)

module _ (src : List (List ℕ)) (at left : ℕ) (more : left ≡ 0 → ⊥) where
  pub unspecified_first : is_unspecified (operator_of (node_at src at)) ≡ true → SaysAll any_unspecified src at left true
  unspecified_first l none rest e h = absurd (more (sym e))
  unspecified_first l (t ∷ᶠ ts) rest e h =
      let is : is_unspecified (root t) ≡ true = sym (ap (λ (o : Operator). is_unspecified o) (root_read src at t _ (head_stands src at t ts rest h))) ∙ l in
      sym (any_cons t ts ∙ ap (λ (b : Bool). b || any_unspecified ts) is)

  pub unspecified_later : (next : ℕ) (r : Bool) → is_unspecified (operator_of (node_at src at)) ≡ false → PastTree src at next → SaysAll any_unspecified src next (left - 1) r → SaysAll any_unspecified src at left r
  unspecified_later next r l p s none rest e h = absurd (more (sym e))
  unspecified_later next r l p s (t ∷ᶠ ts) rest e h =
      let is : is_unspecified (root t) ≡ false = sym (ap (λ (o : Operator). is_unspecified o) (root_read src at t _ (head_stands src at t ts rest h))) ∙ l in
      s ts rest (omega arith) (tail_stands src at next t ts rest p h) ∙ sym (any_cons t ts ∙ ap (λ (b : Bool). b || any_unspecified ts) is)

-- ---- what the children say

marks_below_cons : (t : Plan) (ts : Plans) → marks_below (t ∷ᶠ ts) ≡ (is_tracked (root t) || any_unspecified (t ∷ᶠ ts))
unfolding marks_below
marks_below_cons t ts = refl

pub below_none : (src : List (List ℕ)) (at left : ℕ) → left ≡ 0 → SaysAll marks_below src at left true
unfolding marks_below
below_none src at left z none rest e h = refl
below_none src at left z (t ∷ᶠ ts) rest e h = absurd (omega arith)

module _ (src : List (List ℕ)) (at left : ℕ) (more : left ≡ 0 → ⊥) where
  pub below_first : is_set (get_or (get_or src at []) 8 0) ≡ true → SaysAll marks_below src at left true
  below_first k none rest e h = absurd (more (sym e))
  below_first k (t ∷ᶠ ts) rest e h =
      let r = tracked_read src at t _ (head_stands src at t ts rest h) in
      let is : is_set (root t).tracked ≡ true = rw r at k in
      sym (marks_below_cons t ts ∙ ap (λ (b : Bool). b || any_unspecified (t ∷ᶠ ts)) is)

  pub below_unspecified : (r : Bool) → is_set (get_or (get_or src at []) 8 0) ≡ false → SaysAll any_unspecified src at left r → SaysAll marks_below src at left r
  below_unspecified r k s none rest e h = absurd (more (sym e))
  below_unspecified r k s (t ∷ᶠ ts) rest e h =
      let q = tracked_read src at t _ (head_stands src at t ts rest h) in
      let is : is_set (root t).tracked ≡ false = rw q at k in
      s (t ∷ᶠ ts) rest e h ∙ sym (marks_below_cons t ts ∙ ap (λ (b : Bool). b || any_unspecified (t ∷ᶠ ts)) is)

-- ---- a child's own mark, by its kind

by_kind : ℕ → Bool → Bool
by_kind kind below = cond (exchanges kind) (not (eqb kind 4)) ((eqb kind 1 || eqb kind 2) || below)

module _ (src : List (List ℕ)) (at : ℕ) where
  -- what a value says of the kind that is read, it says of the child
  child_says : (r : Bool) → ((ts : Plans) (rest : List (List ℕ)) → trees ts ≡ children_at src at → drop (at + 1) src ≡ flattens ts ++ rest → r ≡ by_kind (get_or (get_or src at []) 1 0) (marks_below ts)) → Says marks_child src at r
  unfolding marks_child marks_below by_kind
  child_says r s (node o ts) rest h =
      let k : get_or (get_or src at []) 1 0 ≡ o.kind = ap (λ (x : List ℕ). get_or x 1 0) (row_at src at o ts rest h) ∙ ap (λ (p : Operator). p.kind) (row_operator o (trees ts)) in
      s ts rest (children_read src at o ts rest h) (below_stands src at o ts rest h) ∙ ap (λ (n : ℕ). by_kind n (marks_below ts)) k

  pub child_exchange : exchanges (get_or (get_or src at []) 1 0) ≡ true → Says marks_child src at (not (eqb (get_or (get_or src at []) 1 0) 4))
  unfolding by_kind
  child_exchange e = child_says _ (λ ts rest c h. rw e)

  module _ (e : exchanges (get_or (get_or src at []) 1 0) ≡ false) where
    pub child_merge : get_or (get_or src at []) 1 0 ≡ 1 → Says marks_child src at true
    unfolding by_kind
    child_merge k = child_says true (λ ts rest c h. rw (e, eq-eqb _ _ k))

    module _ (a : get_or (get_or src at []) 1 0 ≡ 1 → ⊥) where
      pub child_coalesce : get_or (get_or src at []) 1 0 ≡ 2 → Says marks_child src at true
      unfolding by_kind
      child_coalesce k = child_says true (λ ts rest c h. rw (e, ne_eqb _ _ a, eq-eqb _ _ k))

      pub child_below : (get_or (get_or src at []) 1 0 ≡ 2 → ⊥) → (r : Bool) → SaysAll marks_below src (at + 1) (children_at src at) r → Says marks_child src at r
      unfolding by_kind
      child_below b r s = child_says r (λ ts rest c h. rw (e, ne_eqb _ _ a, ne_eqb _ _ b) (s ts rest c h))
