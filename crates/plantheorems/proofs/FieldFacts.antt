-- Lines of fixed fields: their numbers are within the shape's bounds, sizes and codes, and numbers within these make a fine line.
-- Assumes nothing.
use mathlib.Core.Path.{◌≡◌, refl, sym, ◌∙◌}
use Prim.Native.Nat.{ℕ, zero, suc, ◌*◌, ◌≤◌, ◌<◌}
use native.Mathlib.Omega.{arith}
use mathlib.Core.List.{List, [], ◌∷◌, map}
use mathlib.Core.Bool.{true, false}
use lib.Dec.{ltb}
use lib.ListN.{length, get_or, drop, length-drop}
use borrow.Author.Tests.{ltb-false, le-ltb, le-leb, leb-true}
use Rattle.text.specs.declared.field.Field.{Field}
use Rattle.text.specs.declared.field.Field.TheVariants.{Number as number, Empty as empty, Malformed as malformed}
use Rattle.text.specs.Text.{value_of}
use Rattle.text.specs.Bounds.{Bound, allows, fits}
use Rattle.std.proofs.lemmas.Bool.{and_parts as both}
use Rattle.text.proofs.Limits.{fits_length}
use Rattle.linekinds.specs.Lines.{Kind, too_many_entries, most_entries}
use Rattle.linekinds.specs.KeyLines.{at, values}
use Rattle.linekinds.proofs.LineNumbers.{at_value}
use Rattle.sheet.proofs.InTurn.{Fine}
use Rattle.std.proofs.lemmas.Bool.{or_parts as either_false}
use Rattle.sheet.proofs.Numbers.{filled, row_numbers_lem}
use Rattle.sheet.proofs.LegalRows.{values_numbers}
use Rattle.plansheet.specs.Shapes.{Shape, over_any, fixed_line}
use Rattle.plansheet.specs.PlanTexts.{number_fields}
use Rattle.plansheet.proofs.Shaped.{fit_fixed}

-- ---- numbers within a shape

abbrev pub largest_of : List Bound → List ℕ
largest_of bs = map (λ (b : Bound). b.largest) bs

value_at_lem : (b : Bound) (f : Field) → allows b f ≡ true → value_of f ≤ b.largest
value_at_lem b (number n) e = leb-true n b.largest e
value_at_lem b empty e = omega arith
value_at_lem b malformed e = omega arith

pub fits_value : (bs : List Bound) (fs : List Field) → fits bs fs ≡ true → (i : ℕ) → at fs i ≤ get_or (largest_of bs) i 0
unfolding fits
fits_value [] [] e i = omega arith
fits_value [] (f ∷ fs) e i = absurd (cc)
fits_value (b ∷ bs) [] e i = omega arith
fits_value (b ∷ bs) (f ∷ fs) e zero = value_at_lem b f (both (allows b f) (fits bs fs) e).0
fits_value (b ∷ bs) (f ∷ fs) e (suc i) = fits_value bs fs (both (allows b f) (fits bs fs) e).1 i

pub over_value : (ms : List ℕ) (fs : List Field) → over_any ms (values fs) ≡ false → (i : ℕ) → i < length ms → at fs i ≤ get_or ms i 0
unfolding over_any
over_value [] fs e i h = absurd (omega arith)
over_value (m ∷ ms) [] e i h = omega arith
over_value (m ∷ ms) (f ∷ fs) e zero h = ltb-false m (value_of f) (either_false (ltb m (value_of f)) (over_any ms (values fs)) e).0
over_value (m ∷ ms) (f ∷ fs) e (suc i) h = over_value ms fs (either_false (ltb m (value_of f)) (over_any ms (values fs)) e).1 i (omega arith)

-- none over its own largest
abbrev pub Below : List ℕ → List ℕ → Type 0
Below [] ns = Unit {0}
Below (m ∷ ms) [] = Unit {0}
Below (m ∷ ms) (n ∷ ns) = (n ≤ m) × Below ms ns

pub below_none : (ms ns : List ℕ) → Below ms ns → over_any ms ns ≡ false
unfolding over_any
below_none [] ns h = refl
below_none (m ∷ ms) [] h = refl
below_none (m ∷ ms) (n ∷ ns) h = rw (le-ltb m n h.0) (below_none ms ns h.1)

-- as many as bounds, and each within its own
abbrev pub Bounded : List Bound → List ℕ → Type 0
Bounded [] [] = Unit {0}
Bounded [] (n ∷ ns) = ⊥
Bounded (b ∷ bs) [] = ⊥
Bounded (b ∷ bs) (n ∷ ns) = (n ≤ b.largest) × Bounded bs ns

pub bounded_fits : (bs : List Bound) (ns : List ℕ) → Bounded bs ns → fits bs (number_fields ns) ≡ true
unfolding fits
bounded_fits [] [] h = refl
bounded_fits [] (n ∷ ns) h = absurd h
bounded_fits (b ∷ bs) [] h = absurd h
bounded_fits (b ∷ bs) (n ∷ ns) h = rw (le-leb n b.largest h.0) (bounded_fits bs ns h.1)

-- ---- fine lines

pub fixed_few : (k : Kind) → k.width ≡ 0 → (fs : List Field) → fits k.heads fs ≡ true → too_many_entries k fs ≡ false
fixed_few k w fs e =
    let n : ℕ = length k.heads in
    rw w (le-ltb (most_entries * 0) (length (drop n fs)) (omega (arith, length-drop n fs, fits_length k.heads fs e)))

pub fixed_fine : (h : Shape) (ns : List ℕ) → Bounded h.heads ns → Below h.sizes ns → Below h.codes ns → Fine (fixed_line h) (number_fields ns)
fixed_fine h ns b s c =
    let e : fits h.heads (number_fields ns) ≡ true = bounded_fits h.heads ns b in
    record {
      fit = fit_fixed (fixed_line h) refl (number_fields ns) ∙ e;
      formed = refl;
      few = fixed_few (fixed_line h) refl (number_fields ns) e;
      small = rw (values_numbers ns) (below_none h.sizes ns s);
      defined = rw (values_numbers ns) (below_none h.codes ns c);
      suited = refl;
    }

module _ (h : Shape) (fs : List Field) (fine : Fine (fixed_line h) fs) where
  pub fine_fits : fits h.heads fs ≡ true
  fine_fits = sym (fit_fixed (fixed_line h) refl fs) ∙ fine.fit

  pub fine_count : length fs ≡ length h.heads
  fine_count = fits_length h.heads fs fine_fits

  pub fine_value : (i : ℕ) → get_or (values fs) i 0 ≤ get_or (largest_of h.heads) i 0
  fine_value i = omega (arith, at_value fs i, fits_value h.heads fs fine_fits i)

  pub fine_size : (i : ℕ) → i < length h.sizes → get_or (values fs) i 0 ≤ get_or h.sizes i 0
  fine_size i l = omega (arith, at_value fs i, over_value h.sizes fs fine.small i l)

  pub fine_code : (i : ℕ) → i < length h.codes → get_or (values fs) i 0 ≤ get_or h.codes i 0
  fine_code i l = omega (arith, at_value fs i, over_value h.codes fs fine.defined i l)

  -- a line without empty fields is its numbers
  pub fine_numbers : filled h.heads ≡ true → number_fields (values fs) ≡ fs
  fine_numbers o = row_numbers_lem (fixed_line h) fs fine o
