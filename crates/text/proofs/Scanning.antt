-- How the single pass goes on from a position: each law speaks of `drop i s`.
-- Assumes nothing.
use mathlib.Core.Path.{◌≡◌, refl, sym, ap, ◌∙◌}
use mathlib.Core.List.{List, [], ◌∷◌}
use mathlib.Core.Bool.{Bool, true, false, cond, ◌||◌}
use mathlib.Core.Logic.{◌⊎◌, ⊎_elim}
use Prim.Native.Nat.{ℕ, suc, ◌+◌, ◌-◌, ◌*◌, ◌≤◌, ◌<◌, max}
use native.Mathlib.Numerals.{add-one}
use native.Mathlib.Omega.{arith}
use lib.Dec.{eqb, ltb}
use lib.ListN.{length, drop, get_or, drop_of_length-le}
use lib.Seq.{drop-cons}
use borrow.Author.Tests.{eq-eqb, ne_eqb, le-leb, lt-leb, eqb-true, eqb-false, ltb-true, ltb-false}
use denote.Ref.{Bor}
use Rattle.std.specs.Prelude.{Option, None, Some}
use Rattle.std.specs.Option.{MatchOption, unwrap_or}
use Rattle.std.specs.List.{AllWithin, HoldsAt, slice_range}
use Rattle.std.proofs.lemmas.Iterator.{index_from_first}
use Rattle.std.proofs.lemmas.List.{take_all, length-drop}
use Rattle.text.specs.declared.field.Field.TheVariants.{Number as number, Empty as empty, Malformed as malformed}
use Rattle.text.specs.Text.{most}
use Rattle.text.specs.Scan.{span, more_digits, first, ends_line}

pub span_end : (s : List ℕ) (i : ℕ) → length s ≤ i → span (drop i s) ≡ 0
unfolding span
span_end s i h = rw (drop_of_length-le s h)

pub digits_end : (n : ℕ) (s : List ℕ) (i : ℕ) → length s ≤ i → more_digits n (drop i s) ≡ number n
unfolding more_digits
digits_end n s i h = rw (drop_of_length-le s h)

pub first_end : (s : List ℕ) (i : ℕ) → length s ≤ i → first (drop i s) ≡ empty
unfolding first
first_end s i h = rw (drop_of_length-le s h)

-- at a byte d, by the tests on it
module _ (s : List ℕ) (i d : ℕ) (h : i < length s) (is : d ≡ get_or s i 0) where
  pub span_comma : d ≡ 44 → span (drop i s) ≡ 0
  unfolding span
  span_comma e = rw (drop-cons s i 0 h, ← is, eq-eqb d 44 e)

  pub digits_comma : (n : ℕ) → d ≡ 44 → more_digits n (drop i s) ≡ number n
  unfolding more_digits
  digits_comma n e = rw (drop-cons s i 0 h, ← is, eq-eqb d 44 e)

  pub first_comma : d ≡ 44 → first (drop i s) ≡ empty
  unfolding first
  first_comma e = rw (drop-cons s i 0 h, ← is, eq-eqb d 44 e)

  module _ (n44 : d ≡ 44 → ⊥) where
    pub span_lf : d ≡ 10 → span (drop i s) ≡ 0
    unfolding span
    span_lf e = rw (drop-cons s i 0 h, ← is, ne_eqb d 44 n44, eq-eqb d 10 e)

    pub digits_lf : (n : ℕ) → d ≡ 10 → more_digits n (drop i s) ≡ number n
    unfolding more_digits
    digits_lf n e = rw (drop-cons s i 0 h, ← is, ne_eqb d 44 n44, eq-eqb d 10 e)

    pub first_lf : d ≡ 10 → first (drop i s) ≡ empty
    unfolding first
    first_lf e = rw (drop-cons s i 0 h, ← is, ne_eqb d 44 n44, eq-eqb d 10 e)

    module _ (n10 : d ≡ 10 → ⊥) where
      pub span_next : span (drop i s) ≡ suc (span (drop (i + 1) s))
      unfolding span
      span_next = rw (add-one, drop-cons s i 0 h, ← is, ne_eqb d 44 n44, ne_eqb d 10 n10)

      pub digits_low : (n : ℕ) → d < 48 → more_digits n (drop i s) ≡ malformed
      unfolding more_digits
      digits_low n e = rw (drop-cons s i 0 h, ← is, ne_eqb d 44 n44, ne_eqb d 10 n10, lt-leb 48 d e)

      pub first_low : d < 48 → first (drop i s) ≡ malformed
      unfolding first
      first_low e = rw (drop-cons s i 0 h, ← is, ne_eqb d 44 n44, ne_eqb d 10 n10, lt-leb 48 d e)

      module _ (low : 48 ≤ d) where
        pub digits_high : (n : ℕ) → 57 < d → more_digits n (drop i s) ≡ malformed
        unfolding more_digits
        digits_high n e = rw (drop-cons s i 0 h, ← is, ne_eqb d 44 n44, ne_eqb d 10 n10, le-leb 48 d low, lt-leb d 57 e)

        pub first_high : 57 < d → first (drop i s) ≡ malformed
        unfolding first
        first_high e = rw (drop-cons s i 0 h, ← is, ne_eqb d 44 n44, ne_eqb d 10 n10, le-leb 48 d low, lt-leb d 57 e)

        module _ (high : d ≤ 57) where
          pub first_more : first (drop i s) ≡ more_digits (d - 48) (drop (i + 1) s)
          unfolding first
          first_more = rw (add-one, drop-cons s i 0 h, ← is, ne_eqb d 44 n44, ne_eqb d 10 n10, le-leb 48 d low, le-leb d 57 high)

          pub digits_zero : (n : ℕ) → n ≡ 0 → more_digits n (drop i s) ≡ malformed
          unfolding more_digits
          digits_zero n e = rw (drop-cons s i 0 h, ← is, ne_eqb d 44 n44, ne_eqb d 10 n10, le-leb 48 d low, le-leb d 57 high, eq-eqb n 0 e)

          module _ (n : ℕ) (n0 : n ≡ 0 → ⊥) where
            pub digits_over : most < n * 10 + (d - 48) → more_digits n (drop i s) ≡ malformed
            unfolding more_digits
            digits_over e = rw (drop-cons s i 0 h, ← is, ne_eqb d 44 n44, ne_eqb d 10 n10, le-leb 48 d low, le-leb d 57 high, ne_eqb n 0 n0, lt-leb _ _ e)

            pub digits_next : n * 10 + (d - 48) ≤ most → more_digits n (drop i s) ≡ more_digits (n * 10 + (d - 48)) (drop (i + 1) s)
            unfolding more_digits
            digits_next e = rw (add-one, drop-cons s i 0 h, ← is, ne_eqb d 44 n44, ne_eqb d 10 n10, le-leb 48 d low, le-leb d 57 high, ne_eqb n 0 n0, le-leb _ _ e)

-- whether the line ends at a place
module _ (s : List ℕ) (i : ℕ) where
  pub ends_out : length s ≤ i → ends_line (drop i s) ≡ true
  unfolding ends_line
  ends_out h = rw (drop_of_length-le s h)

  pub ends_at : i < length s → ends_line (drop i s) ≡ eqb (get_or s i 0) 10
  unfolding ends_line
  ends_at h = rw (drop-cons s i 0 h)

  ends_at_lem : {T : Type 0} (t : Bool) → ltb i (length s) ≡ t → ends_line (drop i s) ≡ true → (length s ≤ i → T) → (get_or s i 0 ≡ 10 → T) → T
  ends_at_lem true t e out lf = lf (eqb-true (get_or s i 0) 10 (sym (ends_at (ltb-true i (length s) t)) ∙ e))
  ends_at_lem false t e out lf = out (ltb-false i (length s) t)

  pub ends_cases : {T : Type 0} → ends_line (drop i s) ≡ true → (length s ≤ i → T) → (get_or s i 0 ≡ 10 → T) → T
  ends_cases = ends_at_lem (ltb i (length s)) refl

  goes_at : (t : Bool) → ltb i (length s) ≡ t → ends_line (drop i s) ≡ false → (i < length s) × (get_or s i 0 ≡ 10 → ⊥)
  goes_at true t e = let h = ltb-true i (length s) t in (h, eqb-false (get_or s i 0) 10 (sym (ends_at h) ∙ e))
  goes_at false t e =
      let q : ends_line (drop i s) ≡ true = ends_out (ltb-false i (length s) t) in
      let z : ◌≡◌ {A = ℕ} 0 1 = cc in
      absurd (omega arith)

  pub goes_on : ends_line (drop i s) ≡ false → (i < length s) × (get_or s i 0 ≡ 10 → ⊥)
  goes_on = goes_at (ltb i (length s)) refl

-- a search that went past the end of the text, or began there
pub search_past : (s : List ℕ) (at i : ℕ) → i + span (drop i s) ≡ at + span (drop at s) → length s ≤ i → (at ≤ length s → i ≤ length s) → max (length s) at ≡ i
search_past s at i e h g = go (ltb at (length s)) refl
  where
    go : (t : Bool) → ltb at (length s) ≡ t → max (length s) at ≡ i
    go true q = let l = ltb-true at (length s) q in let k : i ≤ length s = g (omega arith) in omega arith
    go false q = let l = ltb-false at (length s) q in omega (arith, span_end s at l, span_end s i h)

-- ---- a search for the first comma or LF

span_hit : (x : ℕ) (xs : List ℕ) → true ≡ (eqb x 44 || eqb x 10) → span (x ∷ xs) ≡ 0
unfolding span
span_hit x xs = go (eqb x 44) (eqb x 10)
  where
    go : (a b : Bool) → true ≡ (a || b) → cond a 0 (cond b 0 (suc (span xs))) ≡ 0
    go true b e = refl
    go false true e = refl
    go false false e = absurd (cc)

span_miss : (x : ℕ) (xs : List ℕ) → false ≡ (eqb x 44 || eqb x 10) → span (x ∷ xs) ≡ span xs + 1
unfolding span
span_miss x xs = go (eqb x 44) (eqb x 10)
  where
    go : (a b : Bool) → false ≡ (a || b) → cond a 0 (cond b 0 (suc (span xs))) ≡ span xs + 1
    go true b e = absurd (cc)
    go false true e = absurd (cc)
    go false false e = omega arith

span_none : span [] ≡ 0
unfolding span
span_none = refl

-- where it was found, or else the length, is the span
pub span_found : (xs : List ℕ) (r : Option ℕ) →
    MatchOption r (AllWithin (λ b. false ≡ (eqb b 44 || eqb b 10)) xs 0 (length xs)) (λ i. (i < length xs) × HoldsAt (λ b. true ≡ (eqb b 44 || eqb b 10)) xs i × AllWithin (λ b. false ≡ (eqb b 44 || eqb b 10)) xs 0 i) →
    unwrap_or r (length xs) ≡ span xs
span_found xs r m = sym (index_from_first span (λ b. true ≡ (eqb b 44 || eqb b 10)) (λ b. false ≡ (eqb b 44 || eqb b 10)) span_none span_hit span_miss xs r m)

-- what stands from a place on, or nothing where the text has ended
pub rest_from : (s : List ℕ) (at : ℕ) (o : Option (Bor (List ℕ))) (none r : Bor (List ℕ)) → r ≡ unwrap_or o none → none.now ≡ [] →
    MatchOption o ((length s < at) ⊎ (length s < length s)) (λ x. (at ≤ length s) × (length s ≤ length s) × (x.now ≡ slice_range s at (length s)) × (length x.now + at ≡ length s)) →
    r.now ≡ drop at s
rest_from s at None none r is e m = ap (λ x. x.now) is ∙ e ∙ sym (drop_of_length-le s (⊎_elim (λ h. omega (arith, h)) (λ h. absurd (omega (arith, h))) m))
rest_from s at (Some x) none r is e m = ap (λ y. y.now) is ∙ m.2 ∙ take_all (length s - at) (drop at s) (omega (arith, length-drop at s))
