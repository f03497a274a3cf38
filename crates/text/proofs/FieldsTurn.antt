-- A turn of `fields_at`'s loop, on plain values: what the rest of the line gives, after what is stored and counted already, is what the whole gives.
-- Assumes nothing.
use mathlib.Core.Path.{◌≡◌, refl, sym, ap, ◌∙◌}
use mathlib.Core.List.{List, [], ◌∷◌, map}
use mathlib.Core.Bool.{true, false}
use Prim.Native.Nat.{ℕ, ◌+◌, ◌-◌, ◌≤◌, ◌<◌, max}
use native.Mathlib.Numerals.{add-one}
use native.Mathlib.Omega.{arith}
use lib.ListN.{length, drop, get_or, set, length-set}
use lib.Seq.{sets}
use Rattle.text.specs.declared.field.Field.{Field}
use Rattle.text.specs.declared.field.Field.TheVariants.{Number as number}
use Rattle.text.specs.Text.{until, line, fields, state_of, value_of, row, greatest}
use Rattle.text.specs.Scan.{span, first, ends_line, DigitAndComma}
use Rattle.text.proofs.Scanning.{span_next, span_comma, first_more, digits_comma, ends_cases, goes_on}
use Rattle.text.specs.Read.{field_to, tallied}
use Rattle.text.specs.declared.field.Scanned.{Scanned}
use Rattle.text.proofs.Fields.{out_until, out_fields, lf_until, lf_fields, comma_until, comma_fields}

-- the fields of the line from a place on
abbrev pub from : List ℕ → ℕ → List Field
from s i = fields (line (drop i s))

pub record Head (s : List ℕ) (at : ℕ) (out₀ out : List (List ℕ)) (i n worst largest : ℕ) : Type 0 where
  pub few : n + at ≤ i
  pub within : i ≤ max at (length s)
  pub place : i + until 10 (drop i s) ≡ at + until 10 (drop at s)
  pub counted : n + length (from s i) ≡ length (from s at)
  pub worse : greatest worst (map state_of (from s i)) ≡ greatest 0 (map state_of (from s at))
  pub best : greatest largest (map value_of (from s i)) ≡ greatest 0 (map value_of (from s at))
  pub stored : sets out n (map row (from s i)) ≡ sets out₀ 0 (map row (from s at))
  pub room : length out ≡ length out₀

pub head_first : (s : List ℕ) (at : ℕ) (out : List (List ℕ)) → Head s at out out at 0 0 0
head_first s at out = record { few = omega arith; within = omega arith; place = refl; counted = omega arith; worse = refl; best = refl; stored = refl; room = refl }

module _ (s : List ℕ) (at : ℕ) (out₀ out : List (List ℕ)) (i n worst largest : ℕ) (h : Head s at out₀ out i n worst largest) (c : Scanned) (is : c ≡ field_to (i + span (drop i s)) (first (drop i s))) (out' : List (List ℕ)) (put : out' ≡ set out n (row c.field)) (worst' : ℕ) (up : worst' ≡ max worst (state_of c.field)) (largest' : ℕ) (up' : largest' ≡ max largest (value_of c.field)) where
  f : Field
  f = first (drop i s)

  found : c.end ≡ i + span (drop i s)
  found = ap (λ (x : Scanned). x.end) is

  pub found_ge : i ≤ c.end
  found_ge = omega (arith, found)

  state_is : state_of c.field ≡ state_of (first (drop i s))
  state_is = ap (λ (x : Scanned). state_of x.field) is

  value_is : value_of c.field ≡ value_of (first (drop i s))
  value_is = ap (λ (x : Scanned). value_of x.field) is

  put_is : out' ≡ set out n (row (first (drop i s)))
  put_is = put ∙ ap (λ (x : Scanned). set out n (row x.field)) is

  pub room' : length out' ≡ length out₀
  room' = ap length put ∙ length-set out n _ ∙ h.room

  module _ (e : from s i ≡ first (drop i s) ∷ []) (u : until 10 (drop i s) ≡ span (drop i s)) where
    last : (record { count = n + 1; worst = worst'; largest = largest'; next = c.end } ≡ tallied (at + until 10 (drop at s)) (from s at)) × (out' ≡ sets out₀ 0 (map row (from s at)))
    unfolding greatest
    last =
        let e₁ : n + 1 ≡ length (from s at) = omega (arith, ap length e, h.counted) in
        let e₂ : worst' ≡ greatest 0 (map state_of (from s at)) = up ∙ ap (max worst) state_is ∙ sym (ap (λ (x : List Field). greatest worst (map state_of x)) e) ∙ h.worse in
        let e₃ : largest' ≡ greatest 0 (map value_of (from s at)) = up' ∙ ap (max largest) value_is ∙ sym (ap (λ (x : List Field). greatest largest (map value_of x)) e) ∙ h.best in
        let e₄ : c.end ≡ at + until 10 (drop at s) = omega (arith, found, u, h.place) in
        ((λ k. record { count = e₁ k; worst = e₂ k; largest = e₃ k; next = e₄ k }), put_is ∙ sym (ap (λ (x : List Field). sets out n (map row x)) e) ∙ h.stored)

  pub head_last : ends_line (drop c.end s) ≡ true → (record { count = n + 1; worst = worst'; largest = largest'; next = c.end } ≡ tallied (at + until 10 (drop at s)) (from s at)) × (out' ≡ sets out₀ 0 (map row (from s at)))
  head_last t =
      ends_cases s c.end t
      (λ l. last (out_fields s i c.end found l) (out_until s i c.end found l))
      (λ g. last (lf_fields s i c.end found g) (lf_until s i c.end found g))

  head_on : c.end < length s → (get_or s c.end 0 ≡ 10 → ⊥) → Head s at out₀ out' (c.end + 1) (n + 1) worst' largest'
  unfolding greatest
  head_on l g =
      let j : ℕ = c.end in
      let R : List Field = from s (j + 1) in
      let e : from s i ≡ first (drop i s) ∷ R = comma_fields s i j found l g in
      record {
        few = omega (arith, found_ge, h.few);
        within = omega arith;
        place = sym (comma_until s i j found l g) ∙ h.place;
        counted = omega (arith, ap length e, h.counted);
        worse = ap (λ (m : ℕ). greatest m (map state_of R)) (up ∙ ap (max worst) state_is) ∙ sym (ap (λ (x : List Field). greatest worst (map state_of x)) e) ∙ h.worse;
        best = ap (λ (m : ℕ). greatest m (map value_of R)) (up' ∙ ap (max largest) value_is) ∙ sym (ap (λ (x : List Field). greatest largest (map value_of x)) e) ∙ h.best;
        stored = rw (add-one, put_is) (sym (ap (λ (x : List Field). sets out n (map row x)) e) ∙ h.stored);
        room = room';
      }

  pub head_more : ends_line (drop c.end s) ≡ false → Head s at out₀ out' (c.end + 1) (n + 1) worst' largest'
  head_more t = let g = goes_on s c.end t in head_on g.0 g.1

-- the same for a digit with a comma after it
module _ (s : List ℕ) (i : ℕ) (l : DigitAndComma s i) (d : ℕ) (is : d ≡ get_or s i 0) where
  digit_scanned : field_to (i + 1) (number (d - 48)) ≡ field_to (i + span (drop i s)) (first (drop i s))
  digit_scanned =
      let h : i < length s = omega (arith, l.room) in
      let low : 48 ≤ d = omega (arith, l.low) in
      let high : d ≤ 57 = omega (arith, l.high) in
      let n44 : d ≡ 44 → ⊥ = λ e. omega arith in
      let n10 : d ≡ 10 → ⊥ = λ e. omega arith in
      let w : i + 1 ≡ i + span (drop i s) = omega (arith, span_next s i d h is n44 n10, span_comma s (i + 1) (get_or s (i + 1) 0) l.room refl l.comma) in
      let f : number (d - 48) ≡ first (drop i s) = sym (first_more s i d h is n44 n10 low high ∙ digits_comma s (i + 1) (get_or s (i + 1) 0) l.room refl (d - 48) l.comma) in
      λ k. field_to (w k) (f k)

  pub head_digit : (at : ℕ) (out₀ out : List (List ℕ)) (n worst largest : ℕ) → Head s at out₀ out i n worst largest → (out' : List (List ℕ)) → out' ≡ set out n (row (number (d - 48))) → (largest' : ℕ) → largest' ≡ max largest (d - 48) → Head s at out₀ out' (i + 2) (n + 1) worst largest'
  head_digit at out₀ out n worst largest h out' put largest' up =
      let e : i + 1 + 1 ≡ i + 2 = omega arith in
      let e₀ : worst ≡ max worst 0 = omega arith in
      rw (← e) (head_on s at out₀ out i n worst largest h (field_to (i + 1) (number (d - 48))) digit_scanned out' put worst e₀ largest' up l.room (λ g. omega (arith, l.comma)))
