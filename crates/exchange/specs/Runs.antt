-- What the functions over lent rows ask and give: a tree stands in the input, and rows are stored in the output.
-- Renders document 01, "Tree lines become a lent run of node records".
use Rattle.std.specs.Prelude.{◌≡◌, Bool, List, ◌++◌, ℕ, ◌+◌, ◌≤◌, length, drop}
use Rattle.std.proofs.lemmas.List.Edits.{sets}
use Rattle.exchange.specs.declared.row.Step.{Step}
use Rattle.exchange.specs.Trees.{trees, Plan, Plans}
use Rattle.exchange.specs.Rows.{flatten, flattens}

-- a tree stands at `at`
pub record Stands (src : List (List ℕ)) (at : ℕ) : Type 0 where
  pub tree : Plan
  pub rest : List (List ℕ)
  pub stands : drop at src ≡ flatten tree ++ rest

-- a tree stands at `at`, and what f makes of it fits `room` rows from `to` on
pub record Ready (f : Plan → Plan) (src : List (List ℕ)) (at room to : ℕ) : Type 0 where
  pub tree : Plan
  pub rest : List (List ℕ)
  pub stands : drop at src ≡ flatten tree ++ rest
  pub fits : to + length (flatten (f tree)) ≤ room

-- the same of `left` trees, one after the other
pub record Readys (f : Plans → Plans) (src : List (List ℕ)) (at left room to : ℕ) : Type 0 where
  pub below : Plans
  pub rest : List (List ℕ)
  pub counted : trees below ≡ left
  pub stands : drop at src ≡ flattens below ++ rest
  pub fits : to + length (flattens (f below)) ≤ room

-- for the rows `inn` at `at`, the rows `out` were stored at `to`; r is past both
pub record Wrote (at to : ℕ) (inn out before after : List (List ℕ)) (r : Step) : Type 0 where
  pub read : r.at ≡ at + length inn
  pub written : r.to ≡ to + length out
  pub stored : after ≡ sets before to out

-- of the tree that stands at `at`, f of it was written at `to`
abbrev pub Maps : (Plan → Plan) → List (List ℕ) → ℕ → List (List ℕ) → ℕ → List (List ℕ) → Step → Type 0
Maps f src at before to after r =
    (t : Plan) (rest : List (List ℕ)) → drop at src ≡ flatten t ++ rest → Wrote at to (flatten t) (flatten (f t)) before after r

-- of the `left` trees that stand there, f of them was written
abbrev pub MapsAll : (Plans → Plans) → List (List ℕ) → ℕ → ℕ → List (List ℕ) → ℕ → List (List ℕ) → Step → Type 0
MapsAll f src at left before to after r =
    (ts : Plans) (rest : List (List ℕ)) → trees ts ≡ left → drop at src ≡ flattens ts ++ rest → Wrote at to (flattens ts) (flattens (f ts)) before after r

-- ---- in place, and what is read

-- of the tree that stands at `at`, f of it stands there now
abbrev pub Becomes : (Plan → Plan) → List (List ℕ) → ℕ → List (List ℕ) → Type 0
Becomes f before at after = (t : Plan) (rest : List (List ℕ)) → drop at before ≡ flatten t ++ rest → after ≡ sets before at (flatten (f t))

-- the same of `left` trees
abbrev pub BecomeAll : (Plans → Plans) → List (List ℕ) → ℕ → ℕ → List (List ℕ) → Type 0
BecomeAll f before at left after =
    (ts : Plans) (rest : List (List ℕ)) → trees ts ≡ left → drop at before ≡ flattens ts ++ rest → after ≡ sets before at (flattens (f ts))

-- of the `left` trees that stand at `at`, r is what f says
abbrev pub SaysAll : (Plans → Bool) → List (List ℕ) → ℕ → ℕ → Bool → Type 0
SaysAll f src at left r = (ts : Plans) (rest : List (List ℕ)) → trees ts ≡ left → drop at src ≡ flattens ts ++ rest → r ≡ f ts

abbrev pub Says : (Plan → Bool) → List (List ℕ) → ℕ → Bool → Type 0
Says f src at r = (t : Plan) (rest : List (List ℕ)) → drop at src ≡ flatten t ++ rest → r ≡ f t

-- `left` trees stand at `at`
pub record StandAll (src : List (List ℕ)) (at left : ℕ) : Type 0 where
  pub below : Plans
  pub rest : List (List ℕ)
  pub counted : trees below ≡ left
  pub stands : drop at src ≡ flattens below ++ rest
