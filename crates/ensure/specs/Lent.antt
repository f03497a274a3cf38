-- What `ensure_distribution` asks of what it is lent.
-- Renders document 01, "Tree lines become a lent run of node records".
use Rattle.std.specs.Prelude.{ℕ, ◌≤◌, ◌≡◌, List, ◌++◌, length, drop}
use Rattle.exchange.specs.declared.settings.Settings.{Settings}
use Rattle.exchange.specs.Trees.{root, trees, Plan}
use Rattle.exchange.specs.Facts.{Facts}
use Rattle.exchange.specs.Rows.{flatten}
use Rattle.exchange.specs.States.{ChildState}
use Rattle.exchange.specs.Standings.{form_numbers}
use Rattle.exchange.specs.Relationships.{enforced}
use Rattle.exchange.specs.Skeleton.{below}
use Rattle.exchange.specs.Partitioning.{worked_of}
use Rattle.exchange.specs.Ensure.{Answer, answered, child_states, finished, ensure_worked}

-- a worked node with `count` children stands at `at`, whose states came to these forms, and the answer fits the room
pub record Came (s : Settings) (f : Facts) (src : List (List ℕ)) (at count : ℕ) (forms : List ℕ) (room : ℕ) : Type 0 where
  pub tree : Plan
  pub rest : List (List ℕ)
  pub states : List ChildState
  pub stands : drop at src ≡ flatten tree ++ rest
  pub counted : trees (below tree) ≡ count
  pub came : child_states s f tree ≡ enforced states
  pub numbers : forms ≡ form_numbers states
  pub fits : length (flatten (finished s f (root tree) states).plan) ≤ room

-- a worked node with `count` children stands at `at`
pub record Stood (src : List (List ℕ)) (at count : ℕ) : Type 0 where
  pub tree : Plan
  pub rest : List (List ℕ)
  pub stands : drop at src ≡ flatten tree ++ rest
  pub counted : trees (below tree) ≡ count

-- a worked node with `count` children stands at `at`, and an answer of it fits the room
pub record Worked (s : Settings) (f : Facts) (src : List (List ℕ)) (at count room : ℕ) : Type 0 where
  pub tree : Plan
  pub rest : List (List ℕ)
  pub stands : drop at src ≡ flatten tree ++ rest
  pub counted : trees (below tree) ≡ count
  pub fits : (a : Answer) → ensure_worked s f tree ≡ answered a → length (flatten a.plan) ≤ room

-- a tree stands at the front, whose worked node has `count` children
pub record Sheet (src : List (List ℕ)) (count : ℕ) : Type 0 where
  pub tree : Plan
  pub rest : List (List ℕ)
  pub stands : src ≡ flatten tree ++ rest
  pub counted : trees (below (worked_of tree)) ≡ count
