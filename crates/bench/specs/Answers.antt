-- What the benchmark's functions answer; it renders nothing of document 01.
use Rattle.std.specs.Prelude.{ℕ, ◌+◌, List, map, cond, leb, length}
use Rattle.std.proofs.Math.Option.{Option, none, some}
use Rattle.std.proofs.lemmas.List.Edits.{sets}
use Rattle.text.specs.declared.field.Field.{Field}
use Rattle.text.specs.Text.{state_of, value_of, greatest}
use Rattle.bench.specs.declared.Found.{Found}

abbrev pub found : ℕ → Option (List Field) → Found
found next none = record { next = 0; count = 0; worst = 0; largest = 0 }
found next (some fs) = record { next = next; count = length fs; worst = greatest 0 (map state_of fs); largest = greatest 0 (map value_of fs) }

-- the place after bytes that are written from a place on, where there is room for them
abbrev pub place_after : ℕ → ℕ → List ℕ → ℕ
place_after room at xs = cond (leb (at + length xs) room) (at + length xs) 0

abbrev pub stored_from : List ℕ → ℕ → List ℕ → List ℕ
stored_from out at xs = cond (leb (at + length xs) (length out)) (sets out at xs) out
