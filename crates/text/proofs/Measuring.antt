-- The turns of the loops that give lengths, on plain values.
-- Assumes nothing.
use mathlib.Core.Path.{◌≡◌, refl, ap}
use mathlib.Core.List.{List, [], ◌∷◌, map}
use mathlib.Core.Bool.{Bool, true, false}
use Prim.Native.Nat.{ℕ, suc, ◌+◌, ◌*◌, ◌/◌, ◌^◌, ◌≤◌, ◌<◌, max}
use native.Mathlib.Nat.{pow-suc}
use native.Mathlib.Omega.{arith}
use lib.Dec.{ltb}
use lib.ListN.{length, drop, get_or, length-append, drop_of_length-le}
use borrow.Author.Tests.{ltb-true, ltb-false}
use Rattle.text.specs.Write.{decimal, field_text, fields_text, line_text, row_field}
use Rattle.text.proofs.Decimal.{length_one, decimal_between}
use Rattle.text.proofs.Lengths.{line_length}
use Rattle.text.proofs.Rows.{rows_text_lem}

-- ---- a number: the powers of ten up to it

pub record Counting (n power k : ℕ) : Type 0 where
  pub exponent : ℕ
  pub count : k ≡ suc exponent
  pub is : power ≡ 10 ^ exponent
  pub within : power ≤ max n 1
  pub few : k ≤ power

pub counting_first : (n power k : ℕ) → power ≡ 1 → k ≡ 1 → Counting n power k
counting_first n power k e f = record { exponent = 0; count = f; is = e; within = omega arith; few = omega arith }

module _ (n power k : ℕ) (c : Counting n power k) where
  pub counting_more : power ≤ n / 10 → Counting n (power * 10) (k + 1)
  counting_more h =
      record {
        exponent = suc c.exponent;
        count = omega (arith, c.count);
        is = rw (pow-suc 10 c.exponent, ← c.is);
        within = omega arith;
        few = omega (arith, c.count, c.few);
      }

  counted_at : n / 10 < power → (t : Bool) → ltb n 1 ≡ t → k ≡ length (decimal n)
  counted_at h true e =
      let none : n < 1 = ltb-true n 1 e in
      omega (arith, length_one n (omega arith), c.few, c.within, c.count)
  counted_at h false e =
      let some : 1 ≤ n = ltb-false n 1 e in
      let less : n < 10 ^ suc c.exponent = rw (pow-suc 10 c.exponent, ← c.is) (omega arith) in
      omega (arith, c.count, decimal_between c.exponent n (omega (arith, c.is, c.within)) less)

  pub counted : n / 10 < power → k ≡ length (decimal n)
  counted h = counted_at h (ltb n 1) refl

-- ---- a line

-- the length so far, with the length of the rows from i on, is the line's
pub record Adding (rows : List (List ℕ)) (n i : ℕ) : Type 0 where
  pub within : i ≤ length rows
  pub near : n ≤ 2 + 21 * i
  pub rest : n + length (fields_text (map row_field (drop i rows))) ≡ 2 + length (fields_text (map row_field rows))

pub adding_first : (rows : List (List ℕ)) (n : ℕ) → n ≡ 2 → Adding rows n 0
adding_first rows n e = record { within = omega arith; near = omega arith; rest = rw e }

module _ (rows : List (List ℕ)) (n i : ℕ) (a : Adding rows n i) where
  pub adding_more : i < length rows → (k : ℕ) → k ≡ length (field_text (row_field (get_or rows i []))) → k ≤ 20 → Adding rows (n + (1 + k)) (i + 1)
  adding_more h k is few =
      record {
        within = omega arith;
        near = omega (arith, a.near);
        rest = omega (arith, a.rest, ap length (rows_text_lem rows i h), length-append (44 ∷ field_text (row_field (get_or rows i []))) (fields_text (map row_field (drop (i + 1) rows))));
      }

  pub adding_done : length rows ≤ i → (letter : ℕ) → n ≡ length (line_text letter (map row_field rows))
  unfolding fields_text
  adding_done h letter = omega (arith, simp (drop_of_length-le rows h) at a.rest, line_length letter (map row_field rows))
