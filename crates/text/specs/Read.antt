-- What the reading functions answer, and what they leave in the room lent.
-- Numbers 1 and 2 of document 01's table are given by the crates above, from these answers.
use Rattle.std.specs.Prelude.{ℕ, List, map, length, Some, None}
use Rattle.std.proofs.Math.Option.{Option, none, some}
use Rattle.std.specs.Prelude as O
use Rattle.std.proofs.lemmas.List.Edits.{sets}
use Rattle.text.specs.declared.field.Field.{Field}
use Rattle.text.specs.Text.{state_of, value_of, row, greatest}
use Rattle.text.specs.declared.field.Scanned.{Scanned}
use Rattle.text.specs.declared.line.Fields.{Fields}

-- a field, and the place of the byte that ends it: for private functions
abbrev pub field_to : ℕ → Field → Scanned
field_to end f = record { end = end; field = f }

-- how many fields, the largest of their states, the largest of their values, and the place where reading goes on
abbrev pub tallied : ℕ → List Field → Fields
tallied next fs = record { count = length fs; worst = greatest 0 (map state_of fs); largest = greatest 0 (map value_of fs); next = next }

-- a line, with the place after it
abbrev pub line_read : ℕ → Option (List Field) → O.Option Fields
line_read next none = None
line_read next (some fs) = Some (tallied next fs)

-- a line's fields as rows, from the start of the room on, as far as it goes
abbrev pub stored_in : List (List ℕ) → Option (List Field) → List (List ℕ)
stored_in out none = out
stored_in out (some fs) = sets out 0 (map row fs)
