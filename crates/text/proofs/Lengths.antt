-- How long lines are, and how long they can be.
-- Assumes nothing.
use mathlib.Core.Path.{◌≡◌, refl, sym, ap, ◌∙◌}
use mathlib.Core.List.{List, [], ◌∷◌, ◌++◌, append_assoc}
use mathlib.Core.Bool.{true}
use Prim.Native.Nat.{ℕ, zero, suc, ◌+◌, ◌*◌, ◌^◌, ◌≤◌, ◌<◌}
use native.Mathlib.Nat.{suc-mul}
use native.Mathlib.Omega.{arith}
use lib.ListN.{length, get_or, length-append}
use borrow.Author.Tests.{leb-true}
use Rattle.std.proofs.lemmas.Bool.{and_parts}
use Rattle.text.specs.declared.field.Field.{Field}
use Rattle.text.specs.declared.field.Field.TheVariants.{Number as number, Empty as empty, Malformed as malformed}
use Rattle.text.specs.Bounds.{Bound, allows, allows_all}
use Rattle.text.specs.Write.{field_text, fields_text, line_text}
use Rattle.text.proofs.Decimal.{decimal_below}

pub line_length : (letter : ℕ) (fs : List Field) → length (line_text letter fs) ≡ 2 + length (fields_text fs)
unfolding line_text
line_length letter fs = omega (arith, length-append (fields_text fs) (10 ∷ []))

-- fields that follow fields
pub fields_append : (fs gs : List Field) → fields_text (fs ++ gs) ≡ fields_text fs ++ fields_text gs
unfolding fields_text
fields_append [] gs = refl
fields_append (f ∷ fs) gs = ap (λ (t : List ℕ). 44 ∷ t) (ap (λ (t : List ℕ). field_text f ++ t) (fields_append fs gs) ∙ sym (append_assoc (field_text f) (fields_text fs) (fields_text gs)))

-- each field has at most k bytes
abbrev pub Short : ℕ → List Field → Type 0
Short k fs = (i : ℕ) → i < length fs → length (field_text (get_or fs i empty)) ≤ k

fields_bound : (k : ℕ) (fs : List Field) → Short k fs → length (fields_text fs) ≤ length fs * (k + 1)
unfolding fields_text
fields_bound k [] s = omega arith
fields_bound k (f ∷ fs) s =
    let e : suc (length fs) * (k + 1) ≡ length fs * (k + 1) + (k + 1) = suc-mul (length fs) (k + 1) in
    omega (arith, s 0 (omega arith), fields_bound k fs (λ i h. s (suc i) (omega arith)), length-append (field_text f) (fields_text fs))

pub line_bound : (letter k : ℕ) (fs : List Field) → Short k fs → length (line_text letter fs) ≤ 2 + length fs * (k + 1)
line_bound letter k fs s = omega (arith, line_length letter fs, fields_bound k fs s)

allows_short : (b : Bound) (k : ℕ) → b.largest < 10 ^ suc k → (f : Field) → allows b f ≡ true → length (field_text f) ≤ suc k
unfolding field_text
allows_short b k h (number n) e = decimal_below k n (omega (arith, leb-true n b.largest e))
allows_short b k h empty e = omega arith
allows_short b k h malformed e = omega arith

-- fields below 10^k, k at least 1, have at most k bytes
pub all_short : (b : Bound) (k : ℕ) → b.largest < 10 ^ suc k → (fs : List Field) → allows_all b fs ≡ true → Short (suc k) fs
unfolding allows_all
all_short b k h [] e i l = absurd (omega arith)
all_short b k h (f ∷ fs) e zero l = allows_short b k h f (and_parts (allows b f) (allows_all b fs) e).0
all_short b k h (f ∷ fs) e (suc i) l = all_short b k h fs (and_parts (allows b f) (allows_all b fs) e).1 i (omega arith)
