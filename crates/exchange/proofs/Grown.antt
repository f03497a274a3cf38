-- The rows of a tree say the tree: `grow` gives it back, so two trees with the same rows are the same (`one_tree`).
-- Assumes nothing.
use mathlib.Core.Path.{◌≡◌, refl, sym, ap, ap₂, ◌∙◌}
use mathlib.Core.List.{List, ◌∷◌, ◌++◌, append_assoc}
use Prim.Native.Nat.{ℕ}
use Rattle.exchange.specs.Trees.{node, none, ◌∷ᶠ◌, ◌++ᶠ◌, trees, Operator, Plan, Plans}
use Rattle.exchange.specs.Rows.{children_of, row_of, flatten, flattens, firsts, others, grow}
use Rattle.exchange.proofs.TreeRows.{flatten_node, flattens_none, flattens_cons, row_operator, row_children}

firsts_of : (ts us : Plans) → firsts (trees ts) (ts ++ᶠ us) ≡ ts
firsts_of none us = refl
firsts_of (t ∷ᶠ ts) us = ap (λ vs. t ∷ᶠ vs) (firsts_of ts us)

others_of : (ts us : Plans) → others (trees ts) (ts ++ᶠ us) ≡ us
others_of none us = refl
others_of (t ∷ᶠ ts) us = others_of ts us

-- an operator takes its first k trees as children
taken : Operator → ℕ → Plans → Plans
taken o k ts = node o (firsts k ts) ∷ᶠ others k ts

-- a row with its children after it
grow_row : (o : Operator) (ts us : Plans) (rs : List (List ℕ)) → grow rs ≡ ts ++ᶠ us → grow (row_of o (trees ts) ∷ rs) ≡ node o ts ∷ᶠ us
unfolding grow taken
grow_row o ts us rs e =
    ap (λ (p : Operator). taken p (children_of (row_of o (trees ts))) (grow rs)) (row_operator o (trees ts))
    ∙ ap (λ (k : ℕ). taken o k (grow rs)) (row_children o (trees ts)) ∙ ap (taken o (trees ts)) e
    ∙ ap₂ (λ (cs vs : Plans). node o cs ∷ᶠ vs) (firsts_of ts us) (others_of ts us)

append_forests : (ts us vs : Plans) → (ts ++ᶠ us) ++ᶠ vs ≡ ts ++ᶠ (us ++ᶠ vs)
append_forests none us vs = refl
append_forests (t ∷ᶠ ts) us vs = ap (λ ws. t ∷ᶠ ws) (append_forests ts us vs)

mutual
  pub grow_flatten : (t : Plan) (rs : List (List ℕ)) → grow (flatten t ++ rs) ≡ t ∷ᶠ grow rs
  grow_flatten (node o ts) rs = ap (λ (l : List (List ℕ)). grow (l ++ rs)) (flatten_node o ts) ∙ grow_row o ts (grow rs) (flattens ts ++ rs) (grow_flattens ts rs)

  pub grow_flattens : (ts : Plans) (rs : List (List ℕ)) → grow (flattens ts ++ rs) ≡ ts ++ᶠ grow rs
  grow_flattens none rs = rw flattens_none
  grow_flattens (t ∷ᶠ ts) rs =
      ap (λ (l : List (List ℕ)). grow (l ++ rs)) (flattens_cons t ts) ∙ ap grow (append_assoc (flatten t) (flattens ts) rs)
      ∙ grow_flatten t (flattens ts ++ rs) ∙ ap (λ us. t ∷ᶠ us) (grow_flattens ts rs)

head_of : Plan → Plans → Plan
head_of z none = z
head_of z (t ∷ᶠ ts) = t

-- two trees whose rows stand at the front of one list are the same
pub one_tree : (t u : Plan) (r s : List (List ℕ)) → flatten t ++ r ≡ flatten u ++ s → t ≡ u
unfolding head_of
one_tree t u r s e = ap (head_of t) (sym (grow_flatten t r) ∙ ap grow e ∙ grow_flatten u s)
