-- How large an accepted D sheet can be: by the largest number m and the largest limit l.
-- Renders document 01, "Fields are 0..65535; row counts and limits are 0..4294967295", "8 children a node, 256 T lines".
use Rattle.std.specs.Prelude.{◌≡◌, ℕ, ◌≤◌, length}
use Rattle.exchange.specs.Trees.{trees}
use Rattle.exchange.specs.Sizes.{lines}
use Rattle.exchange.specs.Skeleton.{below}
use Rattle.exchange.specs.Partitioning.{worked_of}
use Rattle.sheet.specs.Sizes.{Each}
use Rattle.plansheet.specs.PlanLines.{two_to}
use Rattle.plansheet.specs.PlanSheets.{PlanSheet}
use Rattle.plananswer.specs.Sizes.{Everywhere, OperatorWithin, RowWithin, EntriesWithin}
use Rattle.plantheorems.specs.Everywhere.{Every}

module _ (m l : ℕ) where
  -- the worked node has at most eight children, an F row for each, and a mask for each of their sets
  pub record SizedPlan (x : PlanSheet) : Type 0 where
    pub lines : lines x.plan ≤ 256
    pub operators : Everywhere (OperatorWithin m l) x.plan
    pub children : Every (λ o n. n ≤ 8) x.plan
    pub few : trees (below (worked_of x.plan)) ≤ 8
    pub counted : length x.facts.children ≡ trees (below (worked_of x.plan))
    pub entries : Each EntriesWithin x.facts.children
    pub rows : Each (RowWithin m) x.facts.rows
    pub sets : length x.facts.masks ≡ two_to (trees (below (worked_of x.plan)))
    pub masks : Each (λ n. n ≤ m) x.facts.masks
