-- D sheets within their bounds.
-- Renders document 01, "A sheet is ASCII lines ended by LF" and "Exchange sheet".
use Rattle.std.specs.Prelude.{◌≡◌, ℕ, ◌≤◌, Bool, true, false, cond, ◌&&◌, ◌||◌, eqb, leb, length}
use Rattle.std.proofs.Math.Option.{Option, none, some}
use Rattle.exchange.specs.Trees.{Operator}
use Rattle.exchange.specs.declared.settings.Settings.{Settings}
use Rattle.exchange.specs.Operators.{has_limit}
use Rattle.exchange.specs.Facts.{NodeFacts, ChildFacts, Row, Facts}
use Rattle.exchange.specs.Fit.{facts_fit}
use Rattle.exchange.specs.Sizes.{lines}
use Rattle.linekinds.specs.Lines.{most_bytes}
use Rattle.sheet.specs.LegalSheets.{Small}
use Rattle.sheet.specs.Sizes.{Each}
use Rattle.plansheet.specs.PlanLines.{two_to}
use Rattle.plansheet.specs.PlanSheets.{PlanSheet, child_count}
use Rattle.plansheet.specs.PlanTexts.{plan_text}
use Rattle.plantheorems.specs.Everywhere.{Every, ids, places_from}

-- "Marks are 0 or 1"
abbrev pub Mark : ℕ → Type 0
Mark n = n ≤ 1

-- "row counts and limits are 0..4294967295"
abbrev pub Long : ℕ → Type 0
Long n = n ≤ 4294967295

abbrev pub LongLimit : Option ℕ → Type 0
LongLimit none = Unit {0}
LongLimit (some l) = Long l

-- "target 1..4096, batch from 1, subset and files numbers, else marks"
pub record LegalSettings (s : Settings) : Type 0 where
  pub least_target : 1 ≤ s.target
  pub most_target : s.target ≤ 4096
  pub roundrobin : Mark s.roundrobin
  pub split : Mark s.split
  pub least_batch : 1 ≤ s.batch
  pub batch : Small s.batch
  pub estimates : Mark s.estimates
  pub subset : Small s.subset
  pub files : Small s.files
  pub sort : Mark s.sort
  pub union : Mark s.union

-- "Kinds 5 and 6 have two children, 0 and 9 any number, the rest one", of "8 children a node"
abbrev pub suits : ℕ → ℕ → Bool
suits kind n = cond (eqb kind 5 || eqb kind 6) (eqb n 2) (cond (eqb kind 0 || eqb kind 9) (leb n 8) (eqb n 1))

-- a T line, by its operator and the number of its children: 12 kinds; "3 and 4 have no limit"; need 0 unspecified, 1 single, 2 keyed; no mask
pub record LegalOperator (o : Operator) (n : ℕ) : Type 0 where
  pub kind : o.kind ≤ 11
  pub count : Small o.count
  pub keeps : Mark o.keeps
  pub limit : LongLimit o.limit
  pub unlimited : (has_limit o && (eqb o.kind 3 || eqb o.kind 4)) ≡ false
  pub order : Small o.order
  pub mask : o.mask ≡ 0
  pub tracked : Mark o.tracked
  pub need : o.need ≤ 2
  pub children : suits o.kind n ≡ true

-- a B line: marks
pub record LegalNode (b : NodeFacts) : Type 0 where
  pub friendly : Mark b.friendly
  pub window : Mark b.window
  pub aggexact : Mark b.aggexact
  pub aggsubset : Mark b.aggsubset

-- "rowkind 0 exact, 1 estimate, 2 absent", "entries of a required order 0..8"
pub record LegalChild (f : ChildFacts) : Type 0 where
  pub gains : Mark f.gains
  pub maintains : Mark f.maintains
  pub rowkind : f.rowkind ≤ 2
  pub rows : Long f.rows
  pub grouping : Mark f.grouping
  pub splits : Mark f.splits
  pub entries : f.entries ≤ 8

-- an X row: numbers and marks; whether its child, form and count fit is asked of the whole sheet
pub record LegalRow (x : Row) : Type 0 where
  pub child : Small x.child
  pub form : Small x.form
  pub count : Small x.count
  pub layout : Small x.layout
  pub athash : Mark x.athash
  pub exact : Mark x.exact
  pub subset : Mark x.subset
  pub met : Mark x.met
  pub aftermet : Mark x.aftermet
  pub const : Small x.const
  pub ford : Mark x.ford
  pub fplain : Mark x.fplain
  pub order : Small x.order

-- "per child of the worked node" an F line, and "the 2^n sets of n children"
pub record LegalFacts (n : ℕ) (f : Facts) : Type 0 where
  pub node : LegalNode f.node
  pub counted : length f.children ≡ n
  pub children : Each LegalChild f.children
  pub rows : Each LegalRow f.rows
  pub sets : length f.masks ≡ two_to n
  pub masks : Each Small f.masks

-- "256 T lines", each with its place as id; X rows and masks that fit; "At most 65,536 bytes"
pub record LegalPlan (x : PlanSheet) : Type 0 where
  pub settings : LegalSettings x.settings
  pub operators : Every LegalOperator x.plan
  pub numbered : ids x.plan ≡ places_from 1 (lines x.plan)
  pub few : lines x.plan ≤ 256
  pub facts : LegalFacts (child_count x.plan) x.facts
  pub fit : facts_fit x.settings x.facts x.plan ≡ true
  pub bytes : length (plan_text x) ≤ most_bytes
