-- The lines of a text as a list, `parts 10 s`: the last part is what follows the last LF, so a line is ended exactly if another part follows it.
-- Document 01, the paragraph that begins "A sheet is ASCII lines ended by LF".
use Rattle.std.specs.Prelude.{ℕ, suc, ◌+◌, List, [], ◌∷◌, length}
use Rattle.std.proofs.Math.Option.{Option, none}
use Rattle.text.specs.declared.field.Field.{Field}
use Rattle.text.specs.Text.{line_fields}

-- the fields of the first line
unfoldable pub first_of : ℕ → List (List ℕ) → Option (List Field)
first_of letter [] = none
first_of letter (l ∷ []) = none
first_of letter (l ∷ m ∷ ms) = line_fields letter l

-- the place after the first of the lines that begin at a place
abbrev pub next_of : ℕ → List (List ℕ) → ℕ
next_of at [] = at
next_of at (l ∷ ls) = suc (at + length l)
