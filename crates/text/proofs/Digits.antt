-- A field byte by byte: what the byte at a place says of the field that goes on there, or begins there.
-- Assumes no_bytes.
use mathlib.Core.Path.{◌≡◌, refl, sym, ap, ◌∙◌}
use mathlib.Core.List.{List}
use Prim.Native.Nat.{ℕ, ◌+◌, ◌-◌, ◌*◌, ◌≤◌, ◌<◌}
use native.Mathlib.Omega.{arith}
use lib.ListN.{length, drop, get_or}
use Rattle.text.specs.declared.field.Field.TheVariants.{Number as number, Empty as empty, Malformed as malformed}
use Rattle.text.specs.Text.{most}
use Rattle.text.specs.Scan.{span, more_digits, first}
use Rattle.text.specs.Read.{field_to}
use Rattle.text.specs.declared.field.Scanned.{Scanned}
use Rattle.text.proofs.Scanning.{span_end, span_comma, span_lf, span_next, digits_end, digits_comma, digits_lf, digits_low, digits_high, digits_zero, digits_over, digits_next, first_end, first_comma, first_lf, first_low, first_high, first_more}

-- ---- a field that goes on

-- the field that goes on at i after n is the one that went on at `at` after `begun`
pub record Going (s : List ℕ) (at begun i n : ℕ) : Type 0 where
  pub place : i + span (drop i s) ≡ at + span (drop at s)
  pub same : more_digits n (drop i s) ≡ more_digits begun (drop at s)

pub going_first : (s : List ℕ) (at begun : ℕ) → Going s at begun at begun
going_first s at begun = record { place = refl; same = refl }

abbrev whole : List ℕ → ℕ → ℕ → Scanned
whole s at begun = field_to (at + span (drop at s)) (more_digits begun (drop at s))

module _ {s : List ℕ} {at begun i n : ℕ} (g : Going s at begun i n) where
  done : span (drop i s) ≡ 0 → more_digits n (drop i s) ≡ number n → (r : Scanned) → r ≡ field_to i (number n) → r ≡ whole s at begun
  done w m r is =
      let e : i ≡ at + span (drop at s) = omega (arith, g.place) in
      let f : number n ≡ more_digits begun (drop at s) = sym m ∙ g.same in
      is ∙ (λ k. field_to (e k) (f k))

  wrong : more_digits n (drop i s) ≡ malformed → (r : Scanned) → r ≡ field_to (i + span (drop i s)) malformed → r ≡ whole s at begun
  wrong m r is = let f : malformed ≡ more_digits begun (drop at s) = sym m ∙ g.same in is ∙ (λ k. field_to (g.place k) (f k))

  pub going_end : length s ≤ i → (r : Scanned) → r ≡ field_to i (number n) → r ≡ whole s at begun
  going_end h = done (span_end s i h) (digits_end n s i h)

-- a field that goes on at the byte d
pub record Byte (s : List ℕ) (at begun i n d : ℕ) : Type 0 where
  pub going : Going s at begun i n
  pub inside : i < length s
  pub is : d ≡ get_or s i 0

module _ {s : List ℕ} {at begun i n d : ℕ} (b : Byte s at begun i n d) where
  pub byte_comma : d ≡ 44 → (r : Scanned) → r ≡ field_to i (number n) → r ≡ whole s at begun
  byte_comma e = done b.going (span_comma s i d b.inside b.is e) (digits_comma s i d b.inside b.is n e)

  pub byte_lf : d ≡ 10 → (r : Scanned) → r ≡ field_to i (number n) → r ≡ whole s at begun
  byte_lf e = let n44 : d ≡ 44 → ⊥ = λ q. omega arith in done b.going (span_lf s i d b.inside b.is n44 e) (digits_lf s i d b.inside b.is n44 n e)

  pub byte_low : (d ≡ 44 → ⊥) → (d ≡ 10 → ⊥) → d < 48 → (r : Scanned) → r ≡ field_to (i + span (drop i s)) malformed → r ≡ whole s at begun
  byte_low n44 n10 e = wrong b.going (digits_low s i d b.inside b.is n44 n10 n e)

  pub byte_high : 57 < d → (r : Scanned) → r ≡ field_to (i + span (drop i s)) malformed → r ≡ whole s at begun
  byte_high e = wrong b.going (digits_high s i d b.inside b.is (λ q. omega arith) (λ q. omega arith) (omega arith) n e)

  module _ (low : 48 ≤ d) (high : d ≤ 57) where
    n44 : d ≡ 44 → ⊥
    n44 e = omega arith

    n10 : d ≡ 10 → ⊥
    n10 e = omega arith

    pub byte_zero : n ≡ 0 → (r : Scanned) → r ≡ field_to (i + span (drop i s)) malformed → r ≡ whole s at begun
    byte_zero e = wrong b.going (digits_zero s i d b.inside b.is n44 n10 low high n e)

    module _ (some : 1 ≤ n) where
      pub byte_over : most < n * 10 + (d - 48) → (r : Scanned) → r ≡ field_to (i + span (drop i s)) malformed → r ≡ whole s at begun
      byte_over e = wrong b.going (digits_over s i d b.inside b.is n44 n10 low high n (λ q. omega arith) e)

      pub byte_digit : n * 10 + (d - 48) ≤ most → (m : ℕ) → m ≡ n * 10 + (d - 48) → Going s at begun (i + 1) m
      byte_digit h m is =
          let w = span_next s i d b.inside b.is n44 n10 in
          let e = digits_next s i d b.inside b.is n44 n10 low high n (λ q. omega arith) h in
          record { place = omega (arith, b.going.place, w); same = rw is (sym e ∙ b.going.same) }

-- ---- a field that begins

abbrev begun : List ℕ → ℕ → Scanned
begun s at = field_to (at + span (drop at s)) (first (drop at s))

module _ (s : List ℕ) (at : ℕ) where
  no_bytes : span (drop at s) ≡ 0 → first (drop at s) ≡ empty → (r : Scanned) → r ≡ field_to at empty → r ≡ begun s at
  no_bytes w e r is = let p : at ≡ at + span (drop at s) = omega (arith, w) in is ∙ (λ k. field_to (p k) (sym e k))

  no_number : first (drop at s) ≡ malformed → (r : Scanned) → r ≡ field_to (at + span (drop at s)) malformed → r ≡ begun s at
  no_number m r is = is ∙ ap (field_to (at + span (drop at s))) (sym m)

  pub begin_end : length s ≤ at → (r : Scanned) → r ≡ field_to at empty → r ≡ begun s at
  begin_end h = no_bytes (span_end s at h) (first_end s at h)

-- the byte d that a field begins with
pub record Lead (s : List ℕ) (at d : ℕ) : Type 0 where
  pub inside : at < length s
  pub is : d ≡ get_or s at 0

module _ {s : List ℕ} {at d : ℕ} (b : Lead s at d) where
  pub lead_comma : d ≡ 44 → (r : Scanned) → r ≡ field_to at empty → r ≡ begun s at
  lead_comma e = no_bytes s at (span_comma s at d b.inside b.is e) (first_comma s at d b.inside b.is e)

  pub lead_lf : d ≡ 10 → (r : Scanned) → r ≡ field_to at empty → r ≡ begun s at
  lead_lf e = let n44 : d ≡ 44 → ⊥ = λ q. omega arith in no_bytes s at (span_lf s at d b.inside b.is n44 e) (first_lf s at d b.inside b.is n44 e)

  pub lead_low : (d ≡ 44 → ⊥) → (d ≡ 10 → ⊥) → d < 48 → (r : Scanned) → r ≡ field_to (at + span (drop at s)) malformed → r ≡ begun s at
  lead_low n44 n10 e = no_number s at (first_low s at d b.inside b.is n44 n10 e)

  pub lead_high : 57 < d → (r : Scanned) → r ≡ field_to (at + span (drop at s)) malformed → r ≡ begun s at
  lead_high e = no_number s at (first_high s at d b.inside b.is (λ q. omega arith) (λ q. omega arith) (omega arith) e)

  pub lead_digit : 48 ≤ d → d ≤ 57 → (r : Scanned) (n : ℕ) → n ≡ d - 48 → r ≡ field_to (at + 1 + span (drop (at + 1) s)) (more_digits n (drop (at + 1) s)) → r ≡ begun s at
  lead_digit low high r n e is =
      let n44 : d ≡ 44 → ⊥ = λ q. omega arith in
      let n10 : d ≡ 10 → ⊥ = λ q. omega arith in
      let w = span_next s at d b.inside b.is n44 n10 in
      let m : first (drop at s) ≡ more_digits n (drop (at + 1) s) = rw e (first_more s at d b.inside b.is n44 n10 low high) in
      let p : at + 1 + span (drop (at + 1) s) ≡ at + span (drop at s) = omega (arith, w) in
      is ∙ (λ k. field_to (p k) (sym m k))
