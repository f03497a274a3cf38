-- The limits of a tree, each with the id of the operator whose it is, and whether that is a merge.
-- Renders demand 3, "Every limit on the sheet is kept: on its operator or, where a merge became a coalesce, on the sort put directly above".
use Rattle.std.specs.Prelude.{ℕ, ◌≡◌, Bool, true, false, cond, ◌&&◌, List, [], ◌∷◌, ◌++◌, eqb, leb}
use Rattle.std.proofs.Math.Option.{Option, some, none as nothing}
use Rattle.exchange.specs.Trees.{node, none, ◌∷ᶠ◌, root, trees, Operator, Plan, Plans}
use Rattle.exchange.specs.Operators.{is_sort_preserving_merge, is_coalesce_partitions, has_limit}
use Rattle.exchange.specs.Skeleton.{is_added_sort}

pub record Limit : Type 0 where
  pub id : ℕ
  pub merge : Bool
  pub rows : ℕ

-- a limit of the operator with that id, if there is one
abbrev pub limit_of : ℕ → Bool → Option ℕ → List Limit
limit_of id merge nothing = []
limit_of id merge (some l) = record { id = id; merge = merge; rows = l } ∷ []

-- the id of the coalesce that stands there alone, else 0
abbrev pub id_below : Plans → ℕ
id_below none = 0
id_below (t ∷ᶠ none) = cond (is_coalesce_partitions (root t)) (root t).id 0
id_below (t ∷ᶠ u ∷ᶠ ts) = 0

-- an operator's own limit. That of an added sort without entries is the merge's that became the coalesce right below;
-- one with entries, for a required order, repeats the limit of the worked node, which still has it
abbrev pub own_limit : Operator → Plans → List Limit
own_limit o ts =
    cond (is_added_sort o) (cond (eqb o.mask 0) (limit_of (id_below ts) true o.limit) []) (limit_of o.id (is_sort_preserving_merge o) o.limit)

-- in preorder
unfoldable mutual
  pub limits : Plan → List Limit
  limits (node o ts) = own_limit o ts ++ limitss ts

  pub limitss : Plans → List Limit
  limitss none = []
  limitss (t ∷ᶠ ts) = limits t ++ limitss ts

-- an operator with a limit has an id: the ids of a sheet are places, from 1
abbrev pub OwnsLimit : Operator → Type 0
OwnsLimit o = has_limit o ≡ true → eqb o.id 0 ≡ false

abbrev mutual
  pub Owned : Plan → Type 0
  Owned (node o ts) = OwnsLimit o × Owneds ts

  pub Owneds : Plans → Type 0
  Owneds none = Unit {0}
  Owneds (t ∷ᶠ ts) = Owned t × Owneds ts

-- none of the operators has a limit
abbrev pub NoLimits : List Operator → Type 0
NoLimits [] = Unit {0}
NoLimits (o ∷ os) = (o.limit ≡ nothing) × NoLimits os

-- a merge, a coalesce and a repartition have one child, as refusal 6 has it
abbrev pub is_dist_changing : Operator → Bool
is_dist_changing o = leb 1 o.kind && leb o.kind 4

abbrev mutual
  pub OneBelow : Plan → Type 0
  OneBelow (node o ts) = (is_dist_changing o ≡ true → trees ts ≡ 1) × OneBelows ts

  pub OneBelows : Plans → Type 0
  OneBelows none = Unit {0}
  OneBelows (t ∷ᶠ ts) = OneBelow t × OneBelows ts
