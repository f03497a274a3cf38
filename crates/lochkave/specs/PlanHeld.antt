-- A D sheet in the rooms that an entry point has for it.
-- Renders document 01, "Exchange sheet": "256 T lines", "8 children a node".
use Rattle.std.specs.Prelude.{ℕ, ◌≤◌, ◌<◌, ◌≡◌, List, [], ◌∷◌, length, get_or, take}
use Rattle.exchange.specs.declared.settings.Settings.{Settings}
use Rattle.exchange.specs.FactRows.{child_facts}
use Rattle.exchange.specs.Found.{index_of}
use Rattle.exchange.specs.Rows.{flatten}
use Rattle.plansheet.specs.PlanLines.{two_to}
use Rattle.plansheet.specs.PlanSheets.{PlanSheet, child_count}
use Rattle.plansheet.specs.PlanRooms.{PlanHeld}
use Rattle.plantheorems.specs.PlanSizes.{SizedPlan}

-- the sheet x stands in the rooms, and these are its settings, its lines, its worked node's children and its X rows
pub record Holds (x : PlanSheet) (s : Settings) (k c n : ℕ) (tree : List (List ℕ)) (node : List ℕ) (facts xs : List (List ℕ)) (masks index : List ℕ) : Type 0 where
  pub held : PlanHeld x tree node facts xs masks index
  pub sized : SizedPlan 65535 4294967295 x
  pub settings : s ≡ x.settings
  pub lines : k ≡ length (flatten x.plan)
  pub children : c ≡ child_count x.plan
  pub rows : n ≡ length x.facts.rows

-- the rooms suffice for these counts of the worked node's children and of X rows, and hold what is asked of the rows
pub record FactsIn (c n : ℕ) (facts xs : List (List ℕ)) (masks index : List ℕ) : Type 0 where
  pub few : c ≤ 8
  pub many : c ≤ length facts
  pub rowed : n ≤ length xs
  pub masked : two_to c ≤ length masks
  pub ordered : (k : ℕ) → k < c → (child_facts (get_or facts k [])).entries ≤ 8
  pub indexed : index ≡ index_of (take n xs)

-- the numbers of the B line, from the front of the room for them
abbrev pub four : List ℕ → List ℕ
four ns = get_or ns 0 0 ∷ get_or ns 1 0 ∷ get_or ns 2 0 ∷ get_or ns 3 0 ∷ []
