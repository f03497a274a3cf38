-- Beyond demand 3: for the set of children that were given a relationship exchange the engine calls no child unsatisfied
-- (Y at that set is 0), so that the two sides of a partitioned join are dealt alike as the engine judges it.
use Rattle.std.specs.Prelude.{ℕ, ◌/◌, ◌%◌, ◌≤◌, ◌≡◌, List, length}
use Rattle.exchange.specs.Trees.{none, ◌∷ᶠ◌, Plan, Plans}
use Rattle.exchange.specs.Facts.{unsatisfied_at}
use Rattle.exchange.specs.Skeleton.{below}
use Rattle.plansheet.specs.PlanSheets.{PlanSheet}
use Rattle.guarantee.specs.Partitioning.{new_on_top, topmost}

-- a child's bit, and what is new on top of it: a child in the set has a keyed exchange topmost; one that isn't has got at most one new operator
pub record Shows (bit : ℕ) (tops : List ℕ) : Type 0 where
  pub given : bit ≡ 1 → topmost tops ≡ 2
  pub not_given : bit ≡ 0 → length tops ≤ 1

-- a set as its own mask, bit n for child n+1
abbrev pub ShowSet : ℕ → Plans → Type 0
ShowSet set none = set ≡ 0
ShowSet set (u ∷ᶠ us) = Shows (set % 2) (new_on_top u) × ShowSet (set / 2) us

pub record Together (x : PlanSheet) (after : Plan) : Type 0 where
  pub set : ℕ
  pub shown : ShowSet set (below after)
  pub satisfied : unsatisfied_at x.facts.masks set ≡ 0
