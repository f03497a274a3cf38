-- What is asked of a field: a largest number, and whether it may be empty.
-- Document 01, the paragraph that begins "A sheet is ASCII lines ended by LF", and number 2 of its table.
use Rattle.std.specs.Prelude.{ℕ, List, [], ◌∷◌, map, Bool, true, false, cond, ◌&&◌, leb, length, get_or}
use Rattle.std.proofs.Math.Option.{Option, none, some}
use Rattle.std.specs.Prelude.{Result, Ok, Err}
use Rattle.text.specs.declared.field.Field.{Field}
use Rattle.text.specs.declared.field.Field.TheVariants.{Number as number, Empty as empty, Malformed as malformed}
use Rattle.text.specs.Text.{most, state_of, row}
use Rattle.text.specs.declared.bounds.Judged.{Judged}
use Rattle.text.specs.declared.bounds.Misfit.{Misfit}
use Rattle.text.specs.declared.bounds.Misfit.TheVariants.{Unfit, Wrong}

pub record Bound : Type 0 where
  pub optional : Bool
  pub largest : ℕ

-- every field that is empty or a number of 64 bits
abbrev pub widest : Bound
widest = record { optional = true; largest = most }

abbrev pub allows : Bound → Field → Bool
allows b (number n) = leb n b.largest
allows b empty = b.optional
allows b malformed = false

-- no field is malformed
unfoldable pub well_formed : List Field → Bool
well_formed [] = true
well_formed (f ∷ fs) = leb (state_of f) 1 && well_formed fs

-- each field within one bound
unfoldable pub allows_all : Bound → List Field → Bool
allows_all b [] = true
allows_all b (f ∷ fs) = allows b f && allows_all b fs

-- as many fields as bounds, and each within its own
unfoldable pub fits : List Bound → List Field → Bool
fits [] [] = true
fits [] (f ∷ fs) = false
fits (b ∷ bs) [] = false
fits (b ∷ bs) (f ∷ fs) = allows b f && fits bs fs

-- a bound as two numbers: the largest state, and the largest value
abbrev pub bound_row : Bound → List ℕ
bound_row b = cond b.optional 1 0 ∷ b.largest ∷ []

-- the same on rows: no state and no value above its bound's
abbrev pub row_within : List ℕ → List ℕ → Bool
row_within b f = leb (get_or f 0 0) (get_or b 0 0) && leb (get_or f 1 0) (get_or b 1 0)

unfoldable pub fits_rows : List (List ℕ) → List (List ℕ) → Bool
fits_rows [] [] = true
fits_rows [] (f ∷ fs) = false
fits_rows (b ∷ bs) [] = false
fits_rows (b ∷ bs) (f ∷ fs) = row_within b f && fits_rows bs fs

-- a line of fixed fields, with the place after it
abbrev pub judged : List (List ℕ) → ℕ → Option (List Field) → Result Judged Misfit
judged bs next none = Err Wrong
judged bs next (some fs) = cond (fits_rows bs (map row fs)) (Ok (record { count = length fs; next = next })) (Err Unfit)
