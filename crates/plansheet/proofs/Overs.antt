-- Fields over their largest numbers, from a place on.
-- Assumes nothing.
use mathlib.Core.Path.{◌≡◌, refl}
use Prim.Native.Nat.{ℕ, ◌+◌, ◌≤◌, ◌<◌}
use native.Mathlib.Numerals.{add-one}
use native.Mathlib.Omega.{arith}
use mathlib.Core.List.{List, [], ◌∷◌}
use mathlib.Core.Bool.{false}
use lib.ListN.{length, get_or, drop, set, length-map, get_or-map, drop_of_length-le}
use lib.Seq.{drop-cons, sets}
use Rattle.linekinds.specs.Reading.{row_value, row_values}
use Rattle.plansheet.specs.Shapes.{over_any}

none_over : (ms : List ℕ) → false ≡ over_any ms []
unfolding over_any
none_over [] = refl
none_over (m ∷ ms) = refl

pub over_first : (ms : List ℕ) (fs : List (List ℕ)) → length ms ≡ 0 → false ≡ over_any ms (row_values fs)
unfolding over_any
over_first [] fs e = refl
over_first (m ∷ ms) fs e = absurd (omega arith)

pub over_second : (ms : List ℕ) (fs : List (List ℕ)) → length fs ≡ 0 → false ≡ over_any ms (row_values fs)
over_second ms [] e = none_over ms
over_second ms (f ∷ fs) e = absurd (omega arith)

-- ---- values copied one by one

module _ (fs : List (List ℕ)) (out : List ℕ) (i : ℕ) where
  pub copy_more : i < length fs → sets (set out i (get_or (get_or fs i []) 1 0)) (i + 1) (drop (i + 1) (row_values fs)) ≡ sets out i (drop i (row_values fs))
  copy_more h = rw (add-one i, drop-cons (row_values fs) i 0 (rw (length-map fs row_value) h), get_or-map row_value fs i [])

  pub copy_done : length fs ≤ i → sets out i (drop i (row_values fs)) ≡ out
  copy_done h = rw (drop_of_length-le (row_values fs) {i = i} (rw (length-map fs row_value) h))
