-- At a place of a text stands one number at most: all digits from there on, so that a reader that stops elsewhere has none (`no_number`).
-- Assumes nothing.
use Prim.Native.Nat.{ℕ, zero, suc, ◌+◌, ◌-◌, ◌*◌, ◌/◌, ◌%◌, ◌≤◌, ◌<◌}
use mathlib.Core.Path.{◌≡◌, refl, sym, ap, subst, ◌∙◌}
use mathlib.Core.Bool.{Bool, true, false}
use mathlib.Core.List.{List, [], ◌∷◌, ◌++◌}
use native.Mathlib.Omega.{arith}
use borrow.Author.Tests.{ltb-true, ltb-false, le-leb}
use lib.Dec.{ltb}
use lib.ListN.{length, get_or, drop, length-append, length-drop, get_or-append}
use lib.Seq.{get_or-drop}
use Rattle.text.specs.declared.field.Field.TheVariants.{Number as number, Malformed as malformed}
use Rattle.text.specs.Text.{most, field}
use Rattle.text.specs.Write.{decimal, field_text}
use Rattle.text.proofs.Decimal.{decimal_one, decimal_more, by_tenths}
use Rattle.text.proofs.RoundTrip.{field_back}
use Rattle.linekinds.specs.PlainText.{DigitAt, TextAt}
use Rattle.numberlines.specs.NumberLines.{NumberAt}

-- ---- the digits of a number

abbrev Digits : List ℕ → Type 0
Digits [] = Unit {0}
Digits (x ∷ xs) = (48 ≤ x) × (x ≤ 57) × Digits xs

digits_append : (xs ys : List ℕ) → Digits xs → Digits ys → Digits (xs ++ ys)
digits_append [] ys h g = g
digits_append (x ∷ xs) ys h g = (h.0, h.1, digits_append xs ys h.2 g)

decimal_digits : (n : ℕ) → Digits (decimal n)
decimal_digits = by_tenths (λ n. Digits (decimal n))
    (λ n h. rw (decimal_one n h) (omega arith, omega arith, tt))
    (λ n h ih. rw (decimal_more n h) (digits_append (decimal (n / 10)) ((48 + n % 10) ∷ []) ih (omega arith, omega arith, tt)))

digits_at : (xs : List ℕ) (i : ℕ) → Digits xs → i < length xs → (48 ≤ get_or xs i 0) × (get_or xs i 0 ≤ 57)
digits_at [] i h k = absurd (omega arith)
digits_at (x ∷ xs) zero h k = (h.0, h.1)
digits_at (x ∷ xs) (suc i) h k = digits_at xs i h.2 (omega arith)

-- ---- what digits come to

abbrev val : ℕ → List ℕ → ℕ
val n [] = n
val n (x ∷ xs) = val (n * 10 + (x - 48)) xs

val_append : (n : ℕ) (xs ys : List ℕ) → val n (xs ++ ys) ≡ val (val n xs) ys
val_append n [] ys = refl
val_append n (x ∷ xs) ys = val_append (n * 10 + (x - 48)) xs ys

val_more : (n : ℕ) (xs : List ℕ) → n ≤ val n xs
val_more n [] = omega arith
val_more n (x ∷ xs) = omega (arith, val_more (n * 10 + (x - 48)) xs)

val_decimal : (n : ℕ) → val 0 (decimal n) ≡ n
val_decimal = by_tenths (λ n. val 0 (decimal n) ≡ n)
    (λ n h. rw (decimal_one n h) (omega arith))
    (λ n h ih. rw (decimal_more n h, val_append 0 (decimal (n / 10)) ((48 + n % 10) ∷ []), ih) (omega arith))

-- ---- a text that begins with another

front_of : (xs ys us vs : List ℕ) → xs ++ us ≡ ys ++ vs → length xs ≤ length ys → ys ≡ xs ++ drop (length xs) ys
front_of [] ys us vs e h = refl
front_of (x ∷ xs) [] us vs e h = absurd (omega arith)
front_of (x ∷ xs) (y ∷ ys) us vs e h =
    let i : x ≡ y = cc in let j : xs ++ us ≡ ys ++ vs = cc in
    λ k. sym i k ∷ front_of xs ys us vs j (omega arith) k

module _ (s : List ℕ) (from n p m e : ℕ) (t : TextAt s from (decimal n) p) (u : TextAt s from (decimal m) e) (h : p ≤ e) where
  longer : decimal m ≡ decimal n ++ drop (length (decimal n)) (decimal m)
  longer = front_of (decimal n) (decimal m) (drop p s) (drop e s) (sym t.text ∙ u.text) (omega (arith, t.place, u.place))

  -- it is no smaller
  pub no_smaller : n ≤ m
  no_smaller =
      let z : val n (drop (length (decimal n)) (decimal m)) ≡ m = ap (λ (k : ℕ). val k (drop (length (decimal n)) (decimal m))) (sym (val_decimal n)) ∙ sym (val_append 0 (decimal n) (drop (length (decimal n)) (decimal m))) ∙ ap (val 0) (sym longer) ∙ val_decimal m in
      omega (arith, val_more n (drop (length (decimal n)) (decimal m)), z)

not_led : (m : ℕ) (xs : List ℕ) → m < 65536 → decimal m ≡ 48 ∷ xs → 0 < length xs → ⊥
unfolding field field_text
not_led m [] h e k = absurd (omega arith)
not_led m (x ∷ xs) h e k =
    let f : field most (decimal m) ≡ number m = field_back (number m) (le-leb m most (omega (arith, h))) in
    let g : malformed ≡ number m = rw e at f in
    absurd (cc)

-- a 0 stands alone
pub zero_alone : (s : List ℕ) (from p m e : ℕ) → TextAt s from (decimal 0) p → TextAt s from (decimal m) e → m < 65536 → p < e → ⊥
zero_alone s from p m e t u h k =
    let l : decimal m ≡ 48 ∷ drop 1 (decimal m) = subst (λ (r : List ℕ). decimal m ≡ r ++ drop (length r) (decimal m)) (decimal_one 0 (omega arith)) (longer s from 0 p m e t u (omega arith)) in
    not_led m (drop 1 (decimal m)) h l (omega (arith, ap length l, ap length (decimal_one 0 (omega arith)), t.place, u.place))

-- ---- at its places stand digits, and past them none

pub text_byte : (s : List ℕ) (at : ℕ) (xs : List ℕ) (end i : ℕ) → TextAt s at xs end → i < length xs → (at + i < length s) × (get_or s (at + i) 0 ≡ get_or xs i 0)
text_byte s at xs end i t h =
    (omega (arith, ap length t.text, length-drop at s, length-append xs (drop end s)), sym (get_or-drop at s i 0) ∙ ap (λ (r : List ℕ). get_or r i 0) t.text ∙ get_or-append xs (drop end s) 0 i h)

abbrev pub DigitsTo : List ℕ → ℕ → ℕ → Type 0
DigitsTo s from p = (i : ℕ) → from ≤ i → i < p → DigitAt s i

pub number_digits : (s : List ℕ) (from n p : ℕ) → TextAt s from (decimal n) p → DigitsTo s from p
number_digits s from n p t i h k =
    let j : from + (i - from) ≡ i = omega (arith, h) in
    let b = text_byte s from (decimal n) p (i - from) t (omega (arith, t.place)) in
    let d = digits_at (decimal n) (i - from) (decimal_digits n) (omega (arith, t.place)) in
    subst (DigitAt s) j (b.0, omega (arith, d.0, b.1), omega (arith, d.1, b.1))

-- a number that ends before a byte that is none takes all digits
pub all_digits : (s : List ℕ) (from p m e b : ℕ) → DigitsTo s from p → b < 48 → NumberAt s from m e b → p ≤ e
all_digits s from p m e b d low o = go (ltb e p) refl
  where
    go : (t : Bool) → ltb e p ≡ t → p ≤ e
    go true z = absurd (omega (arith, (d e (omega (arith, o.text.place)) (ltb-true e p z)).1, o.ends.1, low))
    go false z = ltb-false e p z

-- past a digit that follows such digits, too
pub past_digit : (s : List ℕ) (from n p m e b : ℕ) → b < 48 → TextAt s from (decimal n) p → DigitAt s p → NumberAt s from m e b → p < e
past_digit s from n p m e b low t d o = omega (arith, all_digits s from (p + 1) m e b digits low o)
  where
    at_most : (i : ℕ) → from ≤ i → (z : Bool) → ltb i p ≡ z → i < p + 1 → DigitAt s i
    at_most i h true z k = number_digits s from n p t i h (ltb-true i p z)
    at_most i h false z k = subst (DigitAt s) (omega (arith, ltb-false i p z, k)) d

    digits : DigitsTo s from (p + 1)
    digits i h k = at_most i h (ltb i p) refl k

-- so it ends where the digits do
pub number_ends : (s : List ℕ) (at n p b m e c : ℕ) → b < 48 → c < 48 → NumberAt s at n p b → NumberAt s at m e c → p ≡ e
number_ends s at n p b m e c low low' o o' =
    omega (arith, all_digits s at p m e c (number_digits s at n p o.text) low' o', all_digits s at e n p b (number_digits s at m e o'.text) low o)

-- nor is there one where the byte after the digits is another
pub no_number : (s : List ℕ) (from n p b : ℕ) → b < 48 → TextAt s from (decimal n) p → (DigitAt s p → ⊥) → (get_or s p 0 ≡ b → ⊥) → (m e : ℕ) → NumberAt s from m e b → ⊥
no_number s from n p b low t stop other m e o = go (ltb p e) refl
  where
    h : p ≤ e
    h = all_digits s from p m e b (number_digits s from n p t) low o

    go : (z : Bool) → ltb p e ≡ z → ⊥
    go true z = stop (number_digits s from m e o.text p (omega (arith, t.place)) (ltb-true p e z))
    go false z = other (subst (λ (i : ℕ). get_or s i 0 ≡ b) (omega (arith, ltb-false p e z, h)) o.ends.1)
