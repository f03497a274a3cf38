-- What demand 3 compares: the operators that are not set aside, each under the nearest of its ancestors that is not.
-- Renders document 01, "Demand 3 sets aside kinds 1 to 4, 12, 13 and sorts with id 0: under the worked node the other T and t lines agree
-- in id, kind, limit, sequence and nearest ancestor not set aside".
use Rattle.std.specs.Prelude.{ℕ, Bool, cond, ◌&&◌, ◌||◌, eqb, leb}
use Rattle.std.proofs.Math.Option.{Option}
use Rattle.exchange.specs.Trees.{Forest, node, none, ◌∷ᶠ◌, ◌++ᶠ◌, Operator, Plan, Plans}

-- the trees under a root
abbrev pub below : Plan → Plans
below (node o ts) = ts

-- what the lines agree in
pub record Core : Type 0 where
  pub id : ℕ
  pub kind : ℕ
  pub limit : Option ℕ

abbrev pub core : Operator → Core
core o = record { id = o.id; kind = o.kind; limit = o.limit }

-- a sort that was put in
abbrev pub is_added_sort : Operator → Bool
is_added_sort o = eqb o.kind 11 && eqb o.id 0

abbrev pub is_aside : Operator → Bool
is_aside o = (leb 1 o.kind && leb o.kind 4) || ((eqb o.kind 12 || eqb o.kind 13) || is_added_sort o)

-- an operator over the skeletons of its children: itself, or only those
abbrev pub outline : Operator → Forest Core → Forest Core
outline o us = cond (is_aside o) us (node (core o) us ∷ᶠ none)

unfoldable mutual
  pub skeleton : Plan → Forest Core
  skeleton (node o ts) = outline o (skeletons ts)

  pub skeletons : Plans → Forest Core
  skeletons none = none
  skeletons (t ∷ᶠ ts) = skeleton t ++ᶠ skeletons ts
