-- Rows of a state and a value, and the text of the fields that they stand for.
-- Assumes nothing.
use mathlib.Core.Path.{◌≡◌, refl}
use mathlib.Core.List.{List, [], ◌∷◌, ◌++◌, map}
use Prim.Native.Nat.{ℕ, ◌+◌, ◌<◌}
use native.Mathlib.Numerals.{add-one}
use lib.ListN.{length, drop, get_or}
use lib.Seq.{drop-cons}
use Rattle.text.specs.declared.field.Field.{Field}
use Rattle.text.specs.declared.field.Field.TheVariants.{Number as number, Empty as empty, Malformed as malformed}
use Rattle.text.specs.Text.{row}
use Rattle.text.specs.Write.{field_text, fields_text, row_field}

-- a field written as a row stands for itself
pub row_field_lem : (f : Field) → row_field (row f) ≡ f
row_field_lem (number n) = refl
row_field_lem empty = refl
row_field_lem malformed = refl

pub rows_fields : (fs : List Field) → map row_field (map row fs) ≡ fs
rows_fields [] = refl
rows_fields (f ∷ fs) = λ k. row_field_lem f k ∷ rows_fields fs k

-- the rows from i on are those from i + 1 on after a comma and the row at i
pub rows_text_lem : (rows : List (List ℕ)) (i : ℕ) → i < length rows → fields_text (map row_field (drop i rows)) ≡ (44 ∷ field_text (row_field (get_or rows i []))) ++ fields_text (map row_field (drop (i + 1) rows))
unfolding fields_text
rows_text_lem rows i h = rw (add-one, drop-cons rows i [] h)
