-- A D sheet as it is held in the rooms lent, and what reading one answers.
-- Renders document 01, "Exchange sheet": "256 T lines", "8 children a node".
use Rattle.std.specs.Prelude.{◌≡◌, ℕ, ◌*◌, ◌≤◌, ◌<◌, List, ◌++◌, map, length, take, ◌⊎◌, Result, Ok, Err}
use Rattle.exchange.specs.Trees.{Plan}
use Rattle.exchange.specs.Rows.{flatten}
use Rattle.exchange.specs.Worked.{removed}
use Rattle.exchange.specs.FactRows.{node_facts, child_facts, fact_row}
use Rattle.exchange.specs.Found.{index_of}
use Rattle.linekinds.specs.KeyLines.{values}
use Rattle.sheet.specs.KeySheets.{Reading, sheet, turned}
use Rattle.plansheet.specs.PlanLines.{two_to}
use Rattle.plansheet.specs.PlanSheets.{PlanSheet, FactLines, child_count}
use Rattle.plansheet.specs.ReadRows.{number_rows}
use Rattle.refusals.specs.declared.Refused.{Refused}
use Rattle.sheet.specs.SheetLines.{refused_on}
use Rattle.plansheet.specs.declared.plan.Plan as P

-- room for the most rows that there may be, or for as many as so many bytes can be where each takes `width` of them
abbrev pub RoomFor : ℕ → ℕ → ℕ → ℕ → Type 0
RoomFor most width bytes room = (most ≤ room) ⊎ (bytes < width * room)

-- room for n X rows, or for more than fit any sheet
abbrev pub Suffices : ℕ → ℕ → Type 0
Suffices n room = room < n → 128 ≤ room

-- the tree t and the lines g after it; the worked node's place, how many children it has, and how many X rows there are
pub record PlanRooms (t : Plan) (g : FactLines) (rows facts xs : List (List ℕ)) (masks : List ℕ) (worked children n : ℕ) : Type 0 where
  pub rest : List (List ℕ)
  pub stands : rows ≡ flatten t ++ rest
  pub place : worked ≡ length (removed t)
  pub many : children ≡ child_count t
  pub few : children ≤ 8
  pub each : take children facts ≡ number_rows g.children
  pub counted : n ≡ length g.rows
  pub held : n ≤ length xs → take n xs ≡ number_rows g.rows
  pub bits : take (two_to children) masks ≡ values g.masks

-- some sheet's lines are in the rooms
pub record Filled (rows facts xs : List (List ℕ)) (masks : List ℕ) (worked children n : ℕ) : Type 0 where
  pub plan : Plan
  pub lines : FactLines
  pub rooms : PlanRooms plan lines rows facts xs masks worked children n

-- a tree stands in front, whose worked node has few children
pub record TreeStands (rows : List (List ℕ)) : Type 0 where
  pub tree : Plan
  pub rest : List (List ℕ)
  pub stands : rows ≡ flatten tree ++ rest
  pub few : child_count tree ≤ 8

-- the settings, how many lines the tree has, the worked node's place and its children, how many X rows; or a refusal and its line
abbrev pub plan_by : Reading PlanSheet → Result P.Plan Refused
plan_by (turned n l) = Err (refused_on n l)
plan_by (sheet x) = Ok (record { settings = x.settings; lines = length (flatten x.plan); worked = length (removed x.plan); children = child_count x.plan; rows = length x.facts.rows })

-- a sheet in the rooms lent: the tree's rows in front, F and X rows, masks and the B row, and the index of the X rows
pub record PlanHeld (x : PlanSheet) (rows : List (List ℕ)) (node : List ℕ) (facts xs : List (List ℕ)) (masks index : List ℕ) : Type 0 where
  pub rest : List (List ℕ)
  pub stands : rows ≡ flatten x.plan ++ rest
  pub few : child_count x.plan ≤ 8
  pub above : node_facts node ≡ x.facts.node
  pub each : map child_facts (take (child_count x.plan) facts) ≡ x.facts.children
  pub room : length x.facts.rows ≤ length xs
  pub held : map fact_row (take (length x.facts.rows) xs) ≡ x.facts.rows
  pub found : index ≡ index_of (take (length x.facts.rows) xs)
  pub bits : take (two_to (child_count x.plan)) masks ≡ x.facts.masks
