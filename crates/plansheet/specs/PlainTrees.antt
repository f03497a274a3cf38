-- Tree lines that are read straight into their rows: the descriptions for which a line of plain numbers without a limit is so read,
-- and what is left.
-- Renders document 01, "Exchange sheet": `T,kind,..`; and "Where a sheet is turned back": the rows with place Line.
use Rattle.std.specs.Prelude.{ℕ, ◌+◌, ◌≤◌, ◌<◌, ◌≡◌, true, cond, List, [], eqb, length, get_or, set, Result, Ok, Err}
use Rattle.std.proofs.Math.Option.{Option}
use Rattle.text.specs.declared.field.Field.{Field}
use Rattle.text.specs.Text.{line_at, after}
use Rattle.linekinds.specs.Lines.{Kind, line_number, fields_of}
use Rattle.numberlines.specs.NumberLines.{OperatorLine}
use Rattle.numberlines.specs.declared.row.Unread.{Unread}
use Rattle.numberlines.specs.declared.row.Unread.TheVariants.{Unusual, Other}
use Rattle.plansheet.specs.Shapes.{rule_fits, most_children, children_at}
use Rattle.plansheet.specs.PlanSheets.{operator_row}
use Rattle.plansheet.specs.declared.tree.TreeRow.{TreeRow}
use Rattle.refusals.specs.declared.Refusal.{Refusal}
use Rattle.refusals.specs.Refusals.{refusal_of}

-- each bound's largest number is at least that of a plain field
abbrev pub Wide : List (List ℕ) → Type 0
Wide bounds = (i : ℕ) → i < length bounds → 65535 ≤ get_or (get_or bounds i []) 1 0

-- seven codes, which turn a line of plain numbers without a limit back only at its keeps, tracked and need
pub record PlainCodes (codes : List ℕ) : Type 0 where
  pub seven : length codes ≡ 7
  pub kind : 65535 ≤ get_or codes 0 0
  pub count : 65535 ≤ get_or codes 1 0
  pub order : 65535 ≤ get_or codes 4 0

-- a letter that is no LF; eight wide bounds, the limit's of a field that may be empty; no most; such codes
pub record PlainShape (letter : ℕ) (bounds : List (List ℕ)) (sizes codes : List ℕ) : Type 0 where
  pub other : letter ≡ 10 → ⊥
  pub eight : length bounds ≡ 8
  pub wide : Wide bounds
  pub optional : get_or (get_or bounds 3 []) 0 0 ≡ 1
  pub unsized : length sizes ≡ 0
  pub coded : PlainCodes codes

-- what is left to ask of the row of such a line
pub record OperatorFits (codes : List ℕ) (rules : List (List ℕ)) (row : List ℕ) : Type 0 where
  pub keeps : get_or row 3 0 ≤ get_or codes 2 0
  pub tracked : get_or row 8 0 ≤ get_or codes 5 0
  pub need : get_or row 9 0 ≤ get_or codes 6 0
  pub few : get_or row 10 0 ≤ most_children
  pub known : get_or row 1 0 < length rules
  pub rule : rule_fits rules (get_or row 1 0) (get_or row 10 0) ≡ true

-- a line that fits, in a row with its number
pub record OperatorHeld (letter : ℕ) (s : List ℕ) (at seen : ℕ) (codes : List ℕ) (rules : List (List ℕ)) (end : ℕ) (row : List ℕ) : Type 0 where
  pub before : List ℕ
  pub found : List ℕ
  pub line : OperatorLine letter s at before end found
  pub fits : OperatorFits codes rules found
  pub held : row ≡ set found 0 (seen + 1)

-- of something unusual nothing is said
abbrev pub OperatorRead : ℕ → List ℕ → ℕ → ℕ → List ℕ → List (List ℕ) → Result ℕ Unread → List ℕ → Type 0
OperatorRead letter s at seen codes rules (Ok end) row = OperatorHeld letter s at seen codes rules end row
OperatorRead letter s at seen codes rules (Err Unusual) row = Unit {0}
OperatorRead letter s at seen codes rules (Err Other) row = Unit {0}

-- ---- a tree line as a row

-- the number of the line at a place, before which there are `seen` of its kind
abbrev pub number_at : Kind → ℕ → List ℕ → ℕ → ℕ
number_at k seen s at = line_number k seen (after s at) (line_at k.letter s at)

-- its children with the place after the line, or the lowest number that turns it back
abbrev pub tree_row_by : ℕ → ℕ → Option (List Field) → Result TreeRow Refusal
tree_row_by n next x = cond (eqb n 0) (Ok (record { children = children_at (fields_of x); next = next })) (Err (refusal_of n))

-- a line that is not turned back is stored, where there is room
abbrev pub RowStored : Kind → ℕ → List ℕ → ℕ → List (List ℕ) → List (List ℕ) → Type 0
RowStored k seen s at rows rows' = number_at k seen s at ≡ 0 → rows' ≡ set rows seen (operator_row (seen + 1) (fields_of (line_at k.letter s at)))
