-- What the functions that read a D sheet's lines answer and leave in the rooms lent.
-- Renders document 01, "Exchange sheet": the order of its lines.
use Rattle.std.specs.Prelude.{◌≡◌, ℕ, List, length, Result, Ok, Err}
use Rattle.std.proofs.lemmas.List.Edits.{sets}
use Rattle.text.specs.declared.field.Field.{Field}
use Rattle.text.specs.Text.{parts}
use Rattle.text.specs.Lines.{first_of}
use Rattle.linekinds.specs.Lines.{Run, read, refused, rows_of, fields_of}
use Rattle.linekinds.specs.KeyLines.{values}
use Rattle.sheet.specs.KeySheets.{Reading, sheet, turned}
use Rattle.plansheet.specs.PlanLines.{settings_line, plan_line, two_to}
use Rattle.plansheet.specs.PlanSheets.{FactLines, operator_rows}
use Rattle.plansheet.specs.ReadRows.{number_rows, Leaves}
use Rattle.refusals.specs.declared.Refused.{Refused}
use Rattle.sheet.specs.SheetLines.{refused_on}

-- a run after a run
abbrev pub then_run : Run → (ℕ → ℕ → List (List ℕ) → Run) → Run
then_run (refused n l) rest = refused n l
then_run (read rs ls l p) rest = rest l p ls

-- the T lines after the D line
unfoldable pub tree_run : List ℕ → Run
tree_run s = then_run (rows_of settings_line 1 0 1 0 (parts 10 s)) (rows_of plan_line 1 0)

-- the D line
abbrev pub head_line : List ℕ → List Field
head_line s = fields_of (first_of 68 (parts 10 s))

-- the D line and the tree are in the rooms lent
pub record TreeHeld (s : List ℕ) (rs : List (List Field)) (ls : List (List ℕ)) (l p : ℕ) (head head' : List ℕ) (rows rows' : List (List ℕ)) : Type 0 where
  pub settings : head' ≡ sets head 0 (values (head_line s))
  pub nine : length (head_line s) ≡ 9
  pub tree : Leaves (operator_rows 1) s rs ls l p rows rows'

abbrev pub TreeLeft : List ℕ → Run → List ℕ → List ℕ → List (List ℕ) → List (List ℕ) → Type 0
TreeLeft s (refused n l) head head' rows rows' = Unit {0}
TreeLeft s (read rs ls l p) head head' rows rows' = TreeHeld s rs ls l p head head' rows rows'

-- how many X rows; or a refusal and its line
abbrev pub facts_by : Reading FactLines → Result ℕ Refused
facts_by (turned n l) = Err (refused_on n l)
facts_by (sheet g) = Ok (length g.rows)

-- that the last line was read, and nothing stands after it; or a refusal and its line
abbrev pub whole_by : Reading FactLines → Result (Unit {0}) Refused
whole_by (turned n l) = Err (refused_on n l)
whole_by (sheet g) = Ok tt

-- the Y line is in the room lent, with as many masks as there are sets
pub record MasksHeld (n : ℕ) (g : FactLines) (masks masks' : List ℕ) : Type 0 where
  pub stored : masks' ≡ sets masks 0 (values g.masks)
  pub many : length g.masks ≡ two_to n

-- so are F lines and X rows
pub record ChildrenHeld (n : ℕ) (g : FactLines) (facts facts' xs xs' : List (List ℕ)) (masks masks' : List ℕ) : Type 0 where
  pub stored : facts' ≡ sets facts 0 (number_rows g.children)
  pub many : length g.children ≡ n
  pub rows : xs' ≡ sets xs 0 (number_rows g.rows)
  pub after : MasksHeld n g masks masks'

-- and the B line
pub record FactsHeld (n : ℕ) (g : FactLines) (node node' : List ℕ) (facts facts' xs xs' : List (List ℕ)) (masks masks' : List ℕ) : Type 0 where
  pub stored : node' ≡ sets node 0 (values g.node)
  pub four : length g.node ≡ 4
  pub after : ChildrenHeld n g facts facts' xs xs' masks masks'
