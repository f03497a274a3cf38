-- What the answer of a reading function says of the line, and of the rows that it left in the room lent: laws for those who call it.
-- Assumes nothing.
use mathlib.Core.Path.{◌≡◌, refl, sym, ap, ◌∙◌}
use mathlib.Core.List.{List, map}
use mathlib.Core.Option.{Option, none, some}
use mathlib.Core.Bool.{Bool, true, false, cond}
use Prim.Native.Nat.{ℕ, ◌≤◌, ◌<◌}
use native.Mathlib.Omega.{arith}
use lib.ListN.{length, take, drop, get_or, length-map, get_or-map}
use lib.Seq.{sets-eq, take_at, get_or-take}
use Rattle.text.specs.declared.field.Field.{Field}
use Rattle.text.specs.declared.field.Field.TheVariants.{Empty as empty}
use Rattle.text.specs.Text.{state_of, value_of, row, greatest, line, line_fields, line_at}
use Rattle.text.specs.Read.{tallied, line_read, stored_in}
use Rattle.text.specs.Bounds.{fits_rows, judged}
use Rattle.text.specs.declared.line.Fields.{Fields}
use Rattle.text.specs.declared.bounds.Judged.{Judged}
use Rattle.text.specs.declared.bounds.Misfit.{Misfit}
use Rattle.text.specs.declared.bounds.Misfit.TheVariants.{Unfit, Wrong}
use Rattle.std.specs.Prelude.{None, Some}
use Rattle.std.specs.Prelude.{Result, Ok, Err}
use Rattle.text.proofs.Places.{read_fields}

-- ---- of `line_at`

pub record Opened (next : ℕ) (x : Option (List Field)) (f : Fields) : Type 0 where
  pub fs : List Field
  pub is : x ≡ some fs
  pub counts : f.count ≡ length fs
  pub states : f.worst ≡ greatest 0 (map state_of fs)
  pub values : f.largest ≡ greatest 0 (map value_of fs)
  pub goes : f.next ≡ next

pub opened : (next : ℕ) (x : Option (List Field)) (f : Fields) → Some f ≡ line_read next x → Opened next x f
opened next none f e = absurd (cc)
opened next (some fs) f e = let is : f ≡ tallied next fs = cc in record { fs = fs; is = refl; counts = rw is refl; states = rw is refl; values = rw is refl; goes = rw is refl }

pub wrong_none : (next : ℕ) (x : Option (List Field)) → None ≡ line_read next x → x ≡ none
wrong_none next none e = refl
wrong_none next (some fs) e = absurd (cc)

-- ---- of `fixed_at`

pub record Passed (bs : List (List ℕ)) (next : ℕ) (x : Option (List Field)) (j : Judged) : Type 0 where
  pub fs : List Field
  pub is : x ≡ some fs
  pub counts : j.count ≡ length fs
  pub goes : j.next ≡ next
  pub within : fits_rows bs (map row fs) ≡ true

abbrev line_of : List Field → ℕ → Result Judged Misfit
line_of fs next = Ok (record { count = length fs; next = next })

passed_at : (t : Bool) (bs : List (List ℕ)) (next : ℕ) (fs : List Field) (j : Judged) → fits_rows bs (map row fs) ≡ t → Ok j ≡ cond t (line_of fs next) (Err Unfit) → Passed bs next (some fs) j
passed_at true bs next fs j t e = let is : j ≡ record { count = length fs; next = next } = cc in record { fs = fs; is = refl; counts = rw is refl; goes = rw is refl; within = t }
passed_at false bs next fs j t e = absurd (cc)

pub passed : (bs : List (List ℕ)) (next : ℕ) (x : Option (List Field)) (j : Judged) → Ok j ≡ judged bs next x → Passed bs next x j
passed bs next none j e = absurd (cc)
passed bs next (some fs) j e = passed_at (fits_rows bs (map row fs)) bs next fs j refl e

pub record Failed (bs : List (List ℕ)) (x : Option (List Field)) : Type 0 where
  pub fs : List Field
  pub is : x ≡ some fs
  pub outside : fits_rows bs (map row fs) ≡ false

failed_at : (t : Bool) (bs : List (List ℕ)) (next : ℕ) (fs : List Field) → fits_rows bs (map row fs) ≡ t → Err Unfit ≡ cond t (line_of fs next) (Err Unfit) → Failed bs (some fs)
failed_at true bs next fs t e = absurd (cc)
failed_at false bs next fs t e = record { fs = fs; is = refl; outside = t }

pub failed : (bs : List (List ℕ)) (next : ℕ) (x : Option (List Field)) → Err Unfit ≡ judged bs next x → Failed bs x
failed bs next none e = absurd (cc)
failed bs next (some fs) e = failed_at (fits_rows bs (map row fs)) bs next fs refl e

judged_at : (t : Bool) (fs : List Field) (next : ℕ) → Err Wrong ≡ cond t (line_of fs next) (Err Unfit) → ◌≡◌ {A = ℕ} 0 1
judged_at true fs next e = cc
judged_at false fs next e = cc

pub judged_none : (bs : List (List ℕ)) (next : ℕ) (x : Option (List Field)) → Err Wrong ≡ judged bs next x → x ≡ none
judged_none bs next none e = refl
judged_none bs next (some fs) e = let z = judged_at (fits_rows bs (map row fs)) fs next e in absurd (omega arith)

-- ---- the rows

module _ (letter : ℕ) (s : List ℕ) (at : ℕ) (fs : List Field) (read : line_at letter s at ≡ some fs) (out out' : List (List ℕ)) (stored : out' ≡ stored_in out (line_fields letter (line (drop at s)))) (room : length fs ≤ length out) where
  pub rows_held : take (length fs) out' ≡ map row fs
  rows_held =
      let n : length (map row fs) ≡ length fs = length-map fs row in
      rw (stored, read_fields letter s at fs read, sets-eq (map row fs) out 0 (omega arith)) (take_at (map row fs) _ (length fs) n)

  pub row_held : (i : ℕ) → i < length fs → get_or out' i (row empty) ≡ row (get_or fs i empty)
  row_held i h = sym (get_or-take (length fs) out' i (row empty) h) ∙ ap (λ (l : List (List ℕ)). get_or l i (row empty)) rows_held ∙ get_or-map row fs i empty
