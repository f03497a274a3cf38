-- A turn of packing a line's numbers.
-- Assumes nothing.
use Prim.Native.Nat.{ℕ, zero, suc, ◌+◌, ◌-◌, ◌/◌, ◌≤◌, ◌<◌}
use mathlib.Core.Path.{◌≡◌, refl, sym, ap, subst, ◌∙◌}
use mathlib.Core.List.{List, [], ◌∷◌, ◌++◌, map}
use native.Mathlib.Omega.{arith}
use lib.ListN.{length, get_or, take, drop, set, length-append, length-drop, length-map, get_or-map}
use Rattle.keys.specs.Expressions.{packed}
use Rattle.linekinds.specs.Reading.{row_value, row_values, packs, Small}
use Rattle.std.specs.Prelude.{slice_index, slice_index_or}
use native.Mathlib.Numerals.{add-one}
use lib.Seq.{take-length, length-take-le, drop_at, drop-cons, sets, sets-eq, take-append_seam}
use Rattle.std.specs.Simd.{first_chunks}
use Rattle.linekinds.proofs.Threes.{by_threes}
use Rattle.std.proofs.lemmas.List.{drop-map, get_or-append_right}

pub small_at : (ns : List ℕ) (i : ℕ) → Small ns → i < length ns → get_or ns i 0 < 65536
small_at [] i h k = absurd (omega arith)
small_at (n ∷ ns) zero h k = h.0
small_at (n ∷ ns) (suc i) h k = small_at ns i h.1 (omega arith)

-- numbers copied one by one
module _ (rs : List (List ℕ)) (out : List ℕ) (i : ℕ) where
  pub copy_more : i < length rs → sets (set out i (get_or (get_or rs i []) 1 0)) (i + 1) (drop (i + 1) (row_values rs)) ≡ sets out i (drop i (row_values rs))
  copy_more h = rw (add-one i, drop-cons (row_values rs) i 0 (rw (length-map rs row_value) h), get_or-map row_value rs i [])

-- so they stand at the front of the room
pub copied_front : (rs : List (List ℕ)) (out : List ℕ) → length rs ≤ length out → take (length rs) (sets out 0 (row_values rs)) ≡ row_values rs
copied_front rs out h =
    let n : length (row_values rs) ≡ length rs = length-map rs row_value in
    subst (λ (k : ℕ). take k (sets out 0 (row_values rs)) ≡ row_values rs) n
    (rw (sets-eq (row_values rs) out 0 (omega (arith, n, h))) (take-append_seam (row_values rs) (drop (0 + length (row_values rs)) out)))

-- three rows, packed
abbrev pub pack_three : List (List ℕ) → ℕ
pack_three rs = packed (slice_index (slice_index_or rs 0 []) 1) (slice_index (slice_index_or rs 1 []) 1) (slice_index (slice_index_or rs 2 []) 1)

-- all rows, three by three
pub threes_packed : (k : ℕ) (rs : List (List ℕ)) → k ≡ length rs / 3 → map pack_three (first_chunks 3 k rs) ≡ packs (row_values rs)
unfolding packs
threes_packed =
    by_threes (λ k rs. map pack_three (first_chunks 3 k rs) ≡ packs (row_values rs)) refl (λ a. refl) (λ a b. refl)
    (λ k a b c rs e. ap (λ (ns : List ℕ). pack_three (a ∷ b ∷ c ∷ []) ∷ ns) e)

-- whose numbers are small
abbrev pub SmallThree : List (List ℕ) → Type 0
SmallThree rs = (slice_index (slice_index_or rs 0 []) 1 < 65536) × (slice_index (slice_index_or rs 1 []) 1 < 65536) × (slice_index (slice_index_or rs 2 []) 1 < 65536)

pub threes_small : (k i : ℕ) (rs : List (List ℕ)) → k ≡ length rs / 3 → i < k → Small (row_values rs) → SmallThree (get_or (first_chunks 3 k rs) i [])
threes_small zero i rs h g s = absurd (omega arith)
threes_small (suc k) i [] h g s = absurd (omega arith)
threes_small (suc k) i (a ∷ []) h g s = absurd (omega arith)
threes_small (suc k) i (a ∷ b ∷ []) h g s = absurd (omega arith)
threes_small (suc k) zero (a ∷ b ∷ c ∷ rs) h g s = (s.0, s.1.0, s.1.1.0)
threes_small (suc k) (suc i) (a ∷ b ∷ c ∷ rs) h g s = threes_small k i rs (omega arith) (omega arith) s.1.1.1

-- the array's front, and the entries behind it
abbrev pub packed_behind : ℕ → List ℕ → List (List (List ℕ)) → List ℕ
packed_behind from out xs = take from out ++ map pack_three xs

module _ (from : ℕ) (out : List ℕ) (xs : List (List (List ℕ))) (h : from ≤ length out) where
  pub behind_long : length (packed_behind from out xs) ≡ from + length xs
  behind_long = simp (length-append, length-map) (omega (arith, length-take-le from out h))

  pub behind_first : take from out ++ drop from (packed_behind from out xs) ≡ packed_behind from out xs
  behind_first = rw (drop_at (take from out) (map pack_three xs) from (length-take-le from out h))

  pub behind_at : (i : ℕ) → get_or (packed_behind from out xs) (from + i) 0 ≡ pack_three (get_or xs i [])
  behind_at i =
      let n : from + i - from ≡ i = omega arith in
      get_or-append_right (take from out) (map pack_three xs) from (from + i) 0 (length-take-le from out h) (omega arith) ∙ rw n (get_or-map pack_three xs i [])

small_drop : (ns : List ℕ) (i : ℕ) → Small ns → Small (drop i ns)
small_drop ns zero s = s
small_drop [] (suc i) s = tt
small_drop (n ∷ ns) (suc i) s = small_drop ns i s.1

-- the rows from a place on
module _ (rs : List (List ℕ)) (i : ℕ) where
  pub rows_from : take (length rs - i) (drop i rs) ≡ drop i rs
  rows_from = rw (← length-drop i rs) (take-length (drop i rs))

  values_from : row_values (drop i rs) ≡ drop i (row_values rs)
  values_from = sym (drop-map row_value i rs)

  pub small_from : Small (row_values rs) → Small (row_values (take (length rs - i) (drop i rs)))
  small_from s = rw (rows_from, values_from) (small_drop (row_values rs) i s)

  pub packs_from : packs (row_values (take (length rs - i) (drop i rs))) ≡ packs (drop i (row_values rs))
  packs_from = rw (rows_from, values_from)

-- the first entry of an array and of a list
pub first_put : (out vs : List ℕ) (x : ℕ) → 0 < length out → 0 < length vs → x ≡ get_or vs 0 0 → take 1 (set out 0 x) ≡ take 1 vs
first_put [] vs x h k e = absurd (omega arith)
first_put (a ∷ out) [] x h k e = absurd (omega arith)
first_put (a ∷ out) (v ∷ vs) x h k e = ap (λ (n : ℕ). n ∷ []) e
