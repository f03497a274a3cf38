-- A text that ends with an LF: a byte that is none has another after it, and a line that has begun is ended.
-- Assumes nothing.
use Prim.Native.Nat.{ℕ, zero, suc, ◌+◌, ◌-◌, ◌≤◌, ◌<◌}
use mathlib.Core.Path.{◌≡◌, refl, sym, ap, subst, ◌∙◌}
use mathlib.Core.Bool.{Bool, true, false}
use mathlib.Core.Option.{none, some}
use mathlib.Core.List.{List, [], ◌∷◌}
use native.Mathlib.Omega.{arith}
use borrow.Author.Tests.{ltb-true, ltb-false, lt-ltb, eq-eqb, ne_eqb}
use lib.Dec.{ltb, eqb}
use Rattle.std.specs.Char.{is_ascii_digit}
use Rattle.std.proofs.Common.{rules}
use lib.ListN.{length, get_or, drop, length-drop}
use lib.Seq.{drop-cons, get_or-drop}
use Rattle.text.specs.Text.{until, line, fields, line_fields, line_at}
use Rattle.text.proofs.Parts.{until_le_at}
use Rattle.linekinds.specs.PlainText.{StandsAt, DigitAt}
use Rattle.numberlines.specs.NumberLines.{Closed, Begins}
use Rattle.numberlines.specs.declared.comma.Comma.{Comma}
use Rattle.keys.proofs.Truths.{none_some}

pub closed_next : (s : List ℕ) (p : ℕ) → Closed s → p < length s → (get_or s p 0 ≡ 10 → ⊥) → p + 1 < length s
closed_next s p k h n = go (ltb (p + 1) (length s)) refl
  where
    go : (t : Bool) → ltb (p + 1) (length s) ≡ t → p + 1 < length s
    go true e = ltb-true (p + 1) (length s) e
    go false e =
        let q : length s - 1 ≡ p = omega (arith, ltb-false (p + 1) (length s) e) in
        absurd (n (subst (λ (i : ℕ). get_or s i 0 ≡ 10) q k))

-- a byte follows a comma
pub comma_next : (c : Comma) → c.at + 1 < length c.s.now
comma_next c = closed_next c.s.now c.at c.closed c.here.0 (λ e. omega (arith, c.here.1, e))

pub digit_here : (s : List ℕ) (p : ℕ) → p < length s → is_ascii_digit (get_or s p 0) ≡ true → DigitAt s p
digit_here s p h e = search rules

pub no_digit : (s : List ℕ) (p : ℕ) → is_ascii_digit (get_or s p 0) ≡ false → DigitAt s p → ⊥
no_digit s p e d = search rules

pub digit_next : (s : List ℕ) (p : ℕ) → Closed s → DigitAt s p → p + 1 < length s
digit_next s p k d = closed_next s p k d.0 (λ e. omega (arith, d.1, e))

-- the first LF stands no later than any other
until_before : (xs : List ℕ) (i : ℕ) → i < length xs → get_or xs i 0 ≡ 10 → until 10 xs ≤ i
unfolding until
until_before [] i h e = absurd (omega arith)
until_before (x ∷ xs) zero h e = rw (eq-eqb x 10 e) (omega arith)
until_before (x ∷ xs) (suc i) h e = until_le_at (eqb x 10) (until 10 xs) i (until_before xs i (omega arith) e)

-- the byte after the letter
second : (s : List ℕ) (at : ℕ) → StandsAt s (at + 1) 44 → get_or s (suc at) 0 ≡ 44
second s at h = let e : at + 1 ≡ suc at = omega arith in subst (λ (i : ℕ). get_or s i 0 ≡ 44) e h.1

fields_begun : (letter : ℕ) (r : List ℕ) → (letter ≡ 10 → ⊥) → line_fields letter (line (letter ∷ 44 ∷ r)) ≡ some (fields (line r))
unfolding line until line_fields
fields_begun letter r other = rw (ne_eqb letter 10 other, eq-eqb letter letter refl)

pub begun : (s : List ℕ) (at letter : ℕ) → Closed s → Begins s at letter → (letter ≡ 10 → ⊥) → line_at letter s at ≡ none → ⊥
unfolding line_at
begun s at letter k b other e =
    let opened : drop at s ≡ letter ∷ 44 ∷ drop (suc (suc at)) s = drop-cons s at 0 b.0.0 ∙ rw (b.0.1, drop-cons s (suc at) 0 (omega (arith, b.1.0)), second s at b.1) in
    let last : get_or (drop at s) (length s - 1 - at) 0 ≡ 10 = get_or-drop at s (length s - 1 - at) 0 ∙ subst (λ (i : ℕ). get_or s i 0 ≡ 10) (omega (arith, b.0.0)) k in
    let ended : until 10 (drop at s) < length (drop at s) = omega (arith, length-drop at s, b.0.0, until_before (drop at s) (length s - 1 - at) (omega (arith, length-drop at s, b.0.0)) last) in
    let is : line_fields letter (line (drop at s)) ≡ none = sym (rw (lt-ltb (until 10 (drop at s)) (length (drop at s)) ended)) ∙ e in
    none_some is (ap (λ (l : List ℕ). line_fields letter (line l)) opened ∙ fields_begun letter (drop (suc (suc at)) s) other)
