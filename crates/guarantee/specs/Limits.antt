-- Demand 3, "Every limit on the sheet is kept: on its operator or, where a merge became a coalesce, on the sort put directly above".
use Rattle.std.specs.Prelude.{ℕ, ◌≡◌, ◌⊎◌, true}
use Rattle.std.proofs.Math.Option.{some}
use Rattle.exchange.specs.Trees.{node, none, ◌∷ᶠ◌, root, Operator, Plan, Plans}
use Rattle.exchange.specs.Operators.{is_sort_preserving_merge, is_coalesce_partitions}
use Rattle.exchange.specs.Skeleton.{is_added_sort}
use Rattle.plananswer.specs.Sizes.{Everywhere}

-- these trees are one, whose root is a coalesce with the operator's id
abbrev pub BecameCoalesce : Operator → Plans → Type 0
BecameCoalesce o none = ⊥
BecameCoalesce o (t ∷ᶠ none) = ((root t).id ≡ o.id) × (is_coalesce_partitions (root t) ≡ true)
BecameCoalesce o (t ∷ᶠ u ∷ᶠ ts) = ⊥

-- the sheet's operator o has the limit l: p has its id and that limit
abbrev pub OnItself : Operator → ℕ → Operator → Type 0
OnItself o l p = (p.id ≡ o.id) × (p.limit ≡ some l)

-- or o is a merge, and p a sort that was put in, with that limit, directly above the coalesce which o became
abbrev pub OnSort : Operator → ℕ → Operator → Plans → Type 0
OnSort o l p us = (is_sort_preserving_merge o ≡ true) × (is_added_sort p ≡ true) × (p.limit ≡ some l) × BecameCoalesce o us

-- somewhere in a tree
abbrev mutual
  pub LimitIn : Operator → ℕ → Plan → Type 0
  LimitIn o l (node p us) = (OnItself o l p ⊎ OnSort o l p us) ⊎ LimitIns o l us

  pub LimitIns : Operator → ℕ → Plans → Type 0
  LimitIns o l none = ⊥
  LimitIns o l (t ∷ᶠ ts) = LimitIn o l t ⊎ LimitIns o l ts

-- every limit of a tree is in another
abbrev pub LimitsKept : Plan → Plan → Type 0
LimitsKept before after = Everywhere (λ o. (l : ℕ) → o.limit ≡ some l → LimitIn o l after) before
