-- The number of a line of fixed fields, by what `fixed_at` answered, is `line_number` of its kind.
-- Assumes nothing.
use Rattle.text.specs.Read.{stored_in}
use mathlib.Core.Path.{◌≡◌, refl, sym, ap, ◌∙◌, subst}
use Prim.Native.Nat.{ℕ, zero, suc, ◌*◌, ◌≤◌}
use native.Mathlib.Omega.{arith}
use mathlib.Core.List.{List, [], ◌∷◌, map}
use mathlib.Core.Bool.{Bool, true, false, cond, ◌&&◌, ◌||◌}
use mathlib.Core.Option.{Option, none, some}
use lib.Dec.{eqb, ltb}
use lib.ListN.{length, get_or, take, drop, length-drop, length-map, take-append-drop, drop_of_length-le}
use mathlib.Core.List.{◌++◌, append-nil}
use borrow.Author.Tests.{eqb-true, eqb-false, eq-eqb, ne_eqb, le-ltb}
use Rattle.text.specs.declared.field.Field.{Field}
use Rattle.text.specs.declared.field.Field.TheVariants.{Number as number}
use Rattle.text.specs.Text.{state_of, row, line, line_fields, line_at, after}
use Rattle.text.specs.Bounds.{fits, fits_rows, allows_all, judged}
use Rattle.std.specs.Prelude.{Err, Ok}
use Rattle.text.specs.declared.bounds.Judged.{Judged}
use Rattle.text.specs.declared.bounds.Misfit.{Misfit}
use Rattle.text.specs.declared.bounds.Misfit.TheVariants.{Unfit, Wrong}
use Rattle.text.proofs.Answers.{Passed, failed, judged_none, passed, rows_held}
use Rattle.text.proofs.Limits.{fits_rows_lem, fits_length}
use Rattle.linekinds.specs.Lines.{Kind, plain, most_bytes, most_entries, fields_fit, too_many_entries, line_number}
use Rattle.linekinds.specs.KeyLines.{at}
use Rattle.linekinds.specs.Reading.{row_values, read_by}
use Rattle.linekinds.specs.declared.line.Read.TheVariants.{Line, Refused}
use Rattle.refusals.specs.Refusals.{refusal_of}
use Rattle.linekinds.proofs.ReadLines.{row_values_lem}
use Rattle.plansheet.specs.Shapes.{Shape, fixed_line, coming_line, tree_line}
use Rattle.plansheet.specs.ReadRows.{bound_of, Bounded, shape_of, misfit_number, shape_number, tree_number, value_at, state_at, fields_row}
use Rattle.plansheet.specs.PlanSheets.{operator_row}

-- ---- a kind without a list

-- what is left to ask of a line whose fields are within their bounds
abbrev pub codes_number : Kind → ℕ → ℕ → List Field → ℕ
codes_number k seen next fs = cond (k.malformed fs) 2 (cond (ltb most_bytes next || k.large seen fs) 3 (cond (k.undefined fs) 4 (cond (k.unfit fs) 6 0)))

and_none : (a b : Bool) → a && (b && false) ≡ false
and_none true true = refl
and_none true false = refl
and_none false b = refl

and_all : (a : Bool) → a && true ≡ a
and_all true = refl
and_all false = refl

module _ (k : Kind) (w : k.width ≡ 0) (fs : List Field) where
  abbrev N : ℕ
  N = length k.heads

  fit_none : eqb (length (drop N fs)) 0 ≡ true → (drop N fs ≡ []) × (take N fs ≡ fs)
  fit_none t =
      let z : length (drop N fs) ≡ 0 = eqb-true (length (drop N fs)) 0 t in
      let d : drop N fs ≡ [] = drop_of_length-le fs {i = N} (omega (arith, length-drop N fs)) in
      (d, sym (append-nil (take N fs)) ∙ ap (λ (ys : List Field). take N fs ++ ys) (sym d) ∙ take-append-drop N fs)

  fit_more : eqb (length (drop N fs)) 0 ≡ false → fits k.heads fs ≡ false
  fit_more t = go (fits k.heads fs) refl
    where
      go : (b : Bool) → fits k.heads fs ≡ b → b ≡ false
      go true e = absurd (eqb-false (length (drop N fs)) 0 t (omega (arith, length-drop N fs, fits_length k.heads fs e)))
      go false e = refl

  -- as many fields as bounds
  pub fit_fixed : fields_fit k fs ≡ fits k.heads fs
  unfolding allows_all
  fit_fixed = go (eqb (length (drop N fs)) 0) refl
    where
      go : (t : Bool) → eqb (length (drop N fs)) 0 ≡ t → fields_fit k fs ≡ fits k.heads fs
      go true t = let p = fit_none t in rw (w, p.0, p.1) (and_all (fits k.heads fs))
      go false t = rw (w, t) (and_none (fits k.heads (take N fs)) (allows_all plain (drop N fs)) ∙ sym (fit_more t))

  few_at : fits k.heads fs ≡ true → too_many_entries k fs ≡ false
  few_at e = rw w (le-ltb (most_entries * 0) (length (drop N fs)) (omega (arith, length-drop N fs, fits_length k.heads fs e)))

  pub number_fixed : (seen next : ℕ) → line_number k seen next (some fs) ≡ cond (fits k.heads fs) (codes_number k seen next fs) 2
  unfolding line_number
  number_fixed seen next = rw fit_fixed (go (fits k.heads fs) refl)
    where
      go :
          (t : Bool) → fits k.heads fs ≡ t →
          cond t (cond (k.malformed fs) 2 (cond (ltb most_bytes next || (too_many_entries k fs || k.large seen fs)) 3 (cond (k.undefined fs) 4 (cond (k.unfit fs) 6 0)))) 2
          ≡ cond t (codes_number k seen next fs) 2
      go true t = rw (few_at t)
      go false t = refl

-- ---- what `fixed_at` answered

refuses : (m : Misfit) → misfit_number m ≡ 0 → ⊥
refuses Unfit e = omega arith
refuses Wrong e = omega arith

-- a line has as many fields as bounds
passed_long :
    (bs : List (List ℕ)) → Bounded bs → (next : ℕ) (x : Option (List Field)) (j : Judged) (p : Passed bs next x j) →
    length p.fs ≡ length bs
passed_long bs bounded next x j p =
    fits_length (map bound_of bs) p.fs (fits_rows_lem (map bound_of bs) p.fs ∙ ap (λ (cs : List (List ℕ)). fits_rows cs (map row p.fs)) bounded ∙ p.within)
    ∙ length-map bs bound_of

-- and they stand in the room lent
pub record WithinBounds (s : List ℕ) (at letter : ℕ) (bs fields' : List (List ℕ)) (j : Judged) : Type 0 where
  pub read : Passed bs (after s at) (line_at letter s at) j
  pub long : j.count ≡ length bs
  pub rows : take j.count fields' ≡ map row read.fs
  pub many : length (take j.count fields') ≡ length bs

pub within_bounds :
    (s : List ℕ) (at letter : ℕ) (bs fields fields' : List (List ℕ)) (j : Judged) → Ok j ≡ judged bs (after s at) (line_at letter s at) → fields' ≡ stored_in fields (line_fields letter (line (drop at s))) →
    Bounded bs → length bs ≤ length fields → WithinBounds s at letter bs fields' j
within_bounds s at letter bs fields fields' j so stored bounded room =
    let read = passed _ (after s at) (line_at letter s at) j so in
    let long : j.count ≡ length bs = read.counts ∙ passed_long bs bounded (after s at) (line_at letter s at) j read in
    let rows : take j.count fields' ≡ map row read.fs =
    subst (λ (n : ℕ). take n fields' ≡ map row read.fs) (sym read.counts) (rows_held letter s at read.fs read.is fields fields' stored (omega (arith, long, read.counts, room))) in
    record { read = read; long = long; rows = rows; many = ap length rows ∙ length-map read.fs row ∙ sym read.counts ∙ long }

module _ (bs : List (List ℕ)) (bounded : Bounded bs) (k : Kind) (w : k.width ≡ 0) (heads : k.heads ≡ map bound_of bs) where
  rows_fit : (fs : List Field) → fits k.heads fs ≡ fits_rows bs (map row fs)
  rows_fit fs = rw heads (fits_rows_lem (map bound_of bs) fs ∙ ap (λ (cs : List (List ℕ)). fits_rows cs (map row fs)) bounded)

  module _ (seen next : ℕ) (x : Option (List Field)) where
    refused_at : (m : Misfit) → Err m ≡ judged bs next x → line_number k seen next x ≡ misfit_number m
    unfolding line_number
    refused_at Unfit e = let f = failed bs next x e in rw f.is (number_fixed k w f.fs seen next ∙ rw (rows_fit f.fs, f.outside))
    refused_at Wrong e = rw (judged_none bs next x e)

    pub line_refused : (m : Misfit) → Err m ≡ judged bs next x → Refused (refusal_of (misfit_number m)) ≡ read_by (line_number k seen next x) next x
    line_refused m e = rw (refused_at m e, ne_eqb (misfit_number m) 0 (refuses m))

    module _ (j : Judged) (p : Passed bs next x j) (n : ℕ) (is : n ≡ codes_number k seen next p.fs) where
      coded : line_number k seen next x ≡ n
      coded = ap (line_number k seen next) p.is ∙ number_fixed k w p.fs seen next ∙ rw (rows_fit p.fs, p.within) (sym is)

      pub line_turned : (n ≡ 0 → ⊥) → Refused (refusal_of n) ≡ read_by (line_number k seen next x) next x
      line_turned h = rw (coded, ne_eqb n 0 h)

      pub line_read_lem : n ≡ 0 → Line j.count j.next ≡ read_by (line_number k seen next x) next x
      line_read_lem h = rw (coded, eq-eqb n 0 h, p.is) (λ i. Line (p.counts i) (p.goes i))

-- ---- the codes of both shapes

pub shape_codes :
    (letter : ℕ) (bs : List (List ℕ)) (sizes codes : List ℕ) (seen next : ℕ) (fs : List Field) →
    shape_number sizes codes next (row_values (map row fs)) ≡ codes_number (fixed_line (shape_of letter bs sizes codes)) seen next fs
shape_codes letter bs sizes codes seen next fs = rw (row_values_lem fs)

-- a field of a line by its row
pub value_at_lem : (fs : List Field) (i : ℕ) → value_at (map row fs) i ≡ at fs i
value_at_lem [] i = refl
value_at_lem (f ∷ fs) zero = refl
value_at_lem (f ∷ fs) (suc i) = value_at_lem fs i

pub state_at_lem : (fs : List Field) (i : ℕ) → state_at (map row fs) i ≡ state_of (get_or fs i (number 0))
state_at_lem [] i = refl
state_at_lem (f ∷ fs) zero = refl
state_at_lem (f ∷ fs) (suc i) = state_at_lem fs i

pub tree_codes :
    (letter : ℕ) (bs : List (List ℕ)) (sizes codes : List ℕ) (rules : List (List ℕ)) (most seen next : ℕ) (fs : List Field) →
    tree_number sizes codes rules most seen next (map row fs) ≡ codes_number (tree_line (shape_of letter bs sizes codes) rules most) seen next fs
unfolding tree_number
tree_codes letter bs sizes codes rules most seen next fs = rw (row_values_lem fs, value_at_lem fs 0, value_at_lem fs 7, state_at_lem fs 3)

-- a tree line's fields as an operator's row
pub fields_row_lem : (id : ℕ) (fs : List Field) → fields_row id (map row fs) ≡ operator_row id fs
fields_row_lem id fs = rw (value_at_lem fs 0, value_at_lem fs 1, value_at_lem fs 2, state_at_lem fs 3, value_at_lem fs 3, value_at_lem fs 4, value_at_lem fs 5, value_at_lem fs 6, value_at_lem fs 7)

-- ---- lines that come

pub coming_number : (h : Shape) (seen next : ℕ) (x : Option (List Field)) → line_number (coming_line h) seen next x ≡ line_number (fixed_line h) seen next x
unfolding line_number
coming_number h seen next none = refl
coming_number h seen next (some fs) = refl
