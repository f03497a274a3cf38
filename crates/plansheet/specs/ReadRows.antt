-- What the reading functions are given and answer: a line's description as rows of numbers, the number of a line,
-- and rows that are left in the room lent.
-- Renders document 01, "Where a sheet is turned back": the rows with place Line.
use Rattle.std.specs.Prelude.{◌≡◌, ℕ, ◌+◌, ◌≤◌, List, [], ◌∷◌, map, cond, not, ◌&&◌, ◌||◌, eqb, leb, ltb, length, get_or, drop}
use Rattle.std.proofs.lemmas.List.Edits.{sets}
use Rattle.text.specs.declared.field.Field.{Field}
use Rattle.text.specs.Text.{parts}
use Rattle.text.specs.Bounds.{Bound, bound_row}
use Rattle.text.specs.declared.bounds.Misfit.{Misfit}
use Rattle.text.specs.declared.bounds.Misfit.TheVariants.{Unfit, Wrong}
use Rattle.linekinds.specs.Lines.{Kind, Run, read, refused, most_bytes, rows_of}
use Rattle.linekinds.specs.KeyLines.{values}
use Rattle.linekinds.specs.Reading.{row_values}
use Rattle.plansheet.specs.Shapes.{Shape, over_any, exchange_limited, rule_fits, most_children}
use Rattle.plansheet.specs.declared.tree.RowsRead.{RowsRead}
use Rattle.refusals.specs.declared.Refused.{Refused}
use Rattle.sheet.specs.SheetLines.{refused_on}
use Rattle.std.specs.Prelude.{Result, Ok, Err}

-- ---- a line's description

-- a bound of two numbers: the largest state (0, or 1 where the field may be empty) and the largest value
abbrev pub bound_of : List ℕ → Bound
bound_of b = record { optional = eqb (get_or b 0 0) 1; largest = get_or b 1 0 }

-- every row is that of a bound
abbrev pub Bounded : List (List ℕ) → Type 0
Bounded bs = map bound_row (map bound_of bs) ≡ bs

abbrev pub shape_of : ℕ → List (List ℕ) → List ℕ → List ℕ → Shape
shape_of letter bounds sizes codes = record { letter = letter; heads = map bound_of bounds; sizes = sizes; codes = codes }

-- ---- the number of a line

-- 1 where it is not of the letter, 2 where a field is out of its bound
abbrev pub misfit_number : Misfit → ℕ
misfit_number Unfit = 2
misfit_number Wrong = 1

-- 3 or 4 by its numbers, or 0
abbrev pub shape_number : List ℕ → List ℕ → ℕ → List ℕ → ℕ
shape_number sizes codes next ns = cond (ltb most_bytes next || over_any sizes ns) 3 (cond (over_any codes ns) 4 0)

-- a field by its state and value
abbrev pub state_at : List (List ℕ) → ℕ → ℕ
state_at rs i = get_or (get_or rs i []) 0 0

abbrev pub value_at : List (List ℕ) → ℕ → ℕ
value_at rs i = get_or (get_or rs i []) 1 0

-- a tree line's: 2, 3, 4 or 6 by its fields, or 0
unfoldable pub tree_number : List ℕ → List ℕ → List (List ℕ) → ℕ → ℕ → ℕ → List (List ℕ) → ℕ
tree_number sizes codes rules most seen next rs =
    cond (exchange_limited (value_at rs 0) (state_at rs 3)) 2
    (cond (ltb most_bytes next || (leb most seen || (ltb most_children (value_at rs 7) || over_any sizes (row_values rs)))) 3
    (cond (leb (length rules) (value_at rs 0) || over_any codes (row_values rs)) 4
    (cond (not (rule_fits rules (value_at rs 0) (value_at rs 7))) 6 0)))

-- of a line of so many plain fields, by their count and their largest state and value: 2, 3 or 0
abbrev pub plain_number : ℕ → ℕ → ℕ → ℕ → ℕ → ℕ
plain_number width count worst largest next = cond (eqb count width && (leb worst 0 && leb largest 65535)) (cond (ltb most_bytes next) 3 0) 2

-- ---- rows

-- a tree line's fields as an operator's row
abbrev pub fields_row : ℕ → List (List ℕ) → List ℕ
fields_row id rs =
    id ∷ value_at rs 0 ∷ value_at rs 1 ∷ value_at rs 2 ∷ cond (eqb (state_at rs 3) 0) 1 0 ∷ value_at rs 3
    ∷ value_at rs 4 ∷ 0 ∷ value_at rs 5 ∷ value_at rs 6 ∷ value_at rs 7 ∷ []

-- each line's numbers
abbrev pub number_rows : List (List Field) → List (List ℕ)
number_rows rs = map values rs

-- how many rows, the place after them and the number of the line there; or a refusal and its line
abbrev pub rows_by : Run → Result RowsRead Refused
rows_by (read rs ls l p) = Ok (record { count = length rs; next = p; line = l })
rows_by (refused n l) = Err (refused_on n l)

-- what a run leaves: its rows as f makes them, from the start of the room, and the place of the lines after them
pub record Leaves (f : List (List Field) → List (List ℕ)) (s : List ℕ) (rs : List (List Field)) (ls : List (List ℕ)) (l p : ℕ) (out out' : List (List ℕ)) : Type 0 where
  pub stored : out' ≡ sets out 0 (f rs)
  pub lines : parts 10 (drop p s) ≡ ls
  pub within : p ≤ length s
  pub numbers : l ≤ p + 1

abbrev pub Left : (List (List Field) → List (List ℕ)) → List ℕ → Run → List (List ℕ) → List (List ℕ) → Type 0
Left f s (read rs ls l p) out out' = Leaves f s rs ls l p out out'
Left f s (refused n l) out out' = length out' ≡ length out

-- a run of lines from a place on
abbrev pub run_from : Kind → ℕ → List ℕ → ℕ → ℕ → Run
run_from k owed s line at = rows_of k owed 0 line at (parts 10 (drop at s))
