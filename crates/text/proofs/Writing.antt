-- The turns of the writers' loops, on plain values.
-- Assumes nothing.
use mathlib.Core.Path.{◌≡◌, refl, sym, ap, ◌∙◌}
use mathlib.Core.List.{List, [], ◌∷◌, ◌++◌, map, append_assoc}
use Prim.Native.Nat.{ℕ, ◌+◌, ◌-◌, ◌/◌, ◌%◌, ◌≤◌, ◌<◌}
use native.Mathlib.Omega.{arith}
use lib.ListN.{length, drop, get_or, set, length-append, length-set, drop_of_length-le}
use lib.Seq.{sets}
use Rattle.text.specs.Write.{decimal, field_text, fields_text, line_text, row_field, Wrote}
use Rattle.text.proofs.Decimal.{decimal_one, decimal_more, decimal_some, length_one, length_more}
use Rattle.text.proofs.Rows.{rows_text_lem}
use Rattle.text.proofs.Stores.{sets_last, Left, left_all, left_then, left_none, wrote_then, wrote_length}

-- ---- a number, from its last digit backwards

-- the digits of m, the last of them at i, are what is left of the digits of n from base on
pub record Before (out₀ : List ℕ) (base n : ℕ) (out : List ℕ) (i m : ℕ) : Type 0 where
  pub place : i + 1 ≡ base + length (decimal m)
  pub stored : sets out base (decimal m) ≡ sets out₀ base (decimal n)
  pub below : i < length out
  pub room : length out ≡ length out₀

pub before_first : (out : List ℕ) (end n i : ℕ) → length (decimal n) ≤ end → end ≤ length out → i ≡ end - 1 → Before out (end - length (decimal n)) n out i n
before_first out end n i l h e = let s = decimal_some n in record { place = omega arith; stored = refl; below = omega arith; room = refl }

module _ (out₀ : List ℕ) (base n : ℕ) (out : List ℕ) (i m : ℕ) (b : Before out₀ base n out i m) (d : ℕ) where
  pub before_some : 10 ≤ m → 1 ≤ i
  before_some h = omega (arith, b.place, length_more m h, decimal_some (m / 10))

  pub before_more : 10 ≤ m → d ≡ 48 + m % 10 → Before out₀ base n (set out i d) (i - 1) (m / 10)
  before_more h is =
      let e : i ≡ base + length (decimal (m / 10)) = omega (arith, b.place, length_more m h) in
      record {
        place = omega (arith, before_some h);
        stored = sets_last out base i (decimal (m / 10)) d e ∙ rw is (ap (sets out base) (sym (decimal_more m h)) ∙ b.stored);
        below = omega (arith, b.below, length-set out i d);
        room = length-set out i d ∙ b.room;
      }

  pub before_last : m < 10 → d ≡ 48 + m → set out i d ≡ sets out₀ base (decimal n)
  before_last h is =
      let e : i ≡ base = omega (arith, b.place, length_one m h) in
      rw (is, e) (ap (sets out base) (sym (decimal_one m h)) ∙ b.stored)

-- bytes that end at a place
pub wrote_to : (l : List ℕ) (at end : ℕ) (xs l' : List ℕ) → end ≡ at + length xs → l' ≡ sets l (end - length xs) xs → Wrote l at xs l' end
wrote_to l at end xs l' e s = let z : end - length xs ≡ at = omega arith in record { place = e; stored = rw z at s }

-- ---- a line, field by field

pub record LineHead (out₀ : List ℕ) (p₀ : ℕ) (rows : List (List ℕ)) (out : List ℕ) (p i : ℕ) : Type 0 where
  pub within : i ≤ length rows
  pub room : length out ≡ length out₀
  pub enough : p + length (fields_text (map row_field (drop i rows)) ++ (10 ∷ [])) ≤ length out
  pub left : Left out₀ p₀ (fields_text (map row_field rows) ++ (10 ∷ [])) out p (fields_text (map row_field (drop i rows)) ++ (10 ∷ []))

pub line_first : (l : List ℕ) (at letter : ℕ) (rows : List (List ℕ)) → at + length (line_text letter (map row_field rows)) ≤ length l → (out : List ℕ) (p : ℕ) → Wrote l at (letter ∷ []) out p → LineHead out p rows out p 0
unfolding line_text
line_first l at letter rows h out p w = record { within = omega arith; room = refl; enough = omega (arith, w.place, wrote_length w); left = left_all out p _ }

module _ (out₀ : List ℕ) (p₀ : ℕ) (rows : List (List ℕ)) (out : List ℕ) (p i : ℕ) (h : LineHead out₀ p₀ rows out p i) where
  module _ (l : i < length rows) where
    abbrev here : List ℕ
    here = 44 ∷ field_text (row_field (get_or rows i []))

    abbrev later : List ℕ
    later = fields_text (map row_field (drop (i + 1) rows)) ++ (10 ∷ [])

    next : fields_text (map row_field (drop i rows)) ++ (10 ∷ []) ≡ here ++ later
    next = ap (λ (t : List ℕ). t ++ (10 ∷ [])) (rows_text_lem rows i l) ∙ append_assoc here (fields_text (map row_field (drop (i + 1) rows))) (10 ∷ [])

    pub line_room : p + length (44 ∷ field_text (row_field (get_or rows i []))) ≤ length out
    line_room = omega (arith, h.enough, ap length next, length-append here later)

    pub line_more : (out₁ : List ℕ) (p₁ : ℕ) → Wrote out p (44 ∷ field_text (row_field (get_or rows i []))) out₁ p₁ → LineHead out₀ p₀ rows out₁ p₁ (i + 1)
    line_more out₁ p₁ w =
        record {
          within = omega arith;
          room = wrote_length w ∙ h.room;
          enough = omega (arith, h.enough, ap length next, length-append here later, w.place, wrote_length w);
          left = left_then (rw next at h.left) w;
        }

  pub line_last : length rows ≤ i → p + 1 ≤ length out
  line_last e = omega (arith, h.enough, length-append (fields_text (map row_field (drop i rows))) (10 ∷ []))

  pub line_done : length rows ≤ i → (l : List ℕ) (at letter : ℕ) → Wrote l at (letter ∷ []) out₀ p₀ → (out₁ : List ℕ) (p₁ : ℕ) → Wrote out p (10 ∷ []) out₁ p₁ → Wrote l at (line_text letter (map row_field rows)) out₁ p₁
  unfolding line_text fields_text
  line_done e l at letter w₀ out₁ p₁ w₁ =
      let a : Left out₀ p₀ (fields_text (map row_field rows) ++ (10 ∷ [])) out p (10 ∷ []) = rw (drop_of_length-le rows e) at h.left in
      wrote_then w₀ (left_none (left_then a w₁))
