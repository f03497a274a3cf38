-- What holds of a line that nothing turns back, of the n-th of its run; and what its rows are.
-- Assumes nothing.
use mathlib.Core.Path.{◌≡◌, refl, sym, ap, ◌∙◌}
use Prim.Native.Nat.{ℕ, zero, suc, ◌+◌, ◌^◌, ◌≤◌, ◌<◌}
use native.Mathlib.Omega.{arith}
use mathlib.Core.List.{List, [], ◌∷◌, ◌++◌, map}
use mathlib.Core.Bool.{Bool, true, false, cond, ◌||◌}
use mathlib.Core.Option.{Option, none, some}
use lib.Dec.{leb, ltb}
use lib.ListN.{length, take, drop, length-map}
use borrow.Author.Tests.{ltb-false, leb-false}
use Rattle.text.specs.declared.field.Field.{Field}
use Rattle.text.specs.Text.{line_at, line, line_fields, row}
use Rattle.text.specs.Read.{stored_in}
use Rattle.text.proofs.Answers.{rows_held}
use Rattle.text.proofs.Limits.{fits_length}
use Rattle.refusals.specs.Refusals.{refusal_number, refusal_of}
use Rattle.refusals.specs.declared.Refusal.TheVariants.{WrongLine}
use Rattle.refusals.proofs.Judging.{number_again}
use Rattle.linekinds.specs.Lines.{Kind, most_bytes, fields_fit, too_many_entries, line_number}
use Rattle.linekinds.specs.KeyLines.{values}
use Rattle.std.proofs.lemmas.Bool.{or_parts as either_false}
use Rattle.std.proofs.Math.Nat.{pow-succ'}
use Rattle.std.proofs.Math.Pow.{pow_mono}
use Rattle.sheet.proofs.RowsAgain.{number_at_lem}
use Rattle.linekinds.proofs.LineNumbers.{line_number_few}
use Rattle.plansheet.specs.Shapes.{Shape, over_any, is_none, tree_line, children_at, most_children}
use Rattle.plansheet.specs.PlanLines.{two_to}
use Rattle.plansheet.specs.PlanSheets.{operator_row, operator_rows}
use Rattle.plansheet.specs.ReadRows.{bound_of, number_rows}
use Rattle.plansheet.proofs.Shaped.{fit_fixed}
use Rattle.plansheet.proofs.Turns.{Made}

pub record FineAt (k : Kind) (seen next : ℕ) (fs : List Field) : Type 0 where
  pub fit : fields_fit k fs ≡ true
  pub formed : k.malformed fs ≡ false
  pub within : next ≤ most_bytes
  pub few : too_many_entries k fs ≡ false
  pub small : k.large seen fs ≡ false
  pub defined : k.undefined fs ≡ false
  pub suited : k.unfit fs ≡ false

pub fine_at : (k : Kind) (seen next : ℕ) (fs : List Field) → line_number k seen next (some fs) ≡ 0 → FineAt k seen next fs
unfolding line_number
fine_at k seen next fs e =
    let p = number_at_lem (fields_fit k fs) (k.malformed fs) (ltb most_bytes next) (too_many_entries k fs) (k.large seen fs) (k.undefined fs) (k.unfit fs) e in
    record { fit = p.0; formed = p.1; within = ltb-false most_bytes next p.2; few = p.3; small = p.4; defined = p.5; suited = p.6 }

-- a line of fixed fields has as many as bounds
module _ (bs : List (List ℕ)) (k : Kind) (w : k.width ≡ 0) (heads : k.heads ≡ map bound_of bs) (seen next : ℕ) (fs : List Field) (z : line_number k seen next (some fs) ≡ 0) where
  pub fine_long : length fs ≡ length bs
  fine_long = fits_length k.heads fs (sym (fit_fixed k w fs) ∙ (fine_at k seen next fs z).fit) ∙ ap length heads ∙ length-map bs bound_of

  -- its rows are in the room lent
  pub fine_rows :
      (letter : ℕ) (s : List ℕ) (p : ℕ) → line_at letter s p ≡ some fs → (out out' : List (List ℕ)) → out' ≡ stored_in out (line_fields letter (line (drop p s))) →
      length bs ≤ length out → (count : ℕ) → count ≡ length fs → take count out' ≡ map row fs
  fine_rows letter s p is out out' stored room count counts =
      let n : count ≡ length fs = omega arith in
      let m = fine_long in
      rw n (rows_held letter s p fs is out out' stored (omega arith))

-- ---- tree lines

-- it is not one too many, and has at most eight children
pub tree_small :
    (h : Shape) (rules : List (List ℕ)) (most seen next : ℕ) (fs : List Field) → line_number (tree_line h rules most) seen next (some fs) ≡ 0 →
    (seen < most) × (children_at fs ≤ most_children)
tree_small h rules most seen next fs z =
    let f = fine_at (tree_line h rules most) seen next fs z in
    let p = either_false (leb most seen) (ltb most_children (children_at fs) || over_any h.sizes (values fs)) f.small in
    let q = either_false (ltb most_children (children_at fs)) (over_any h.sizes (values fs)) p.1 in
    (leb-false most seen p.0, ltb-false most_children (children_at fs) q.0)

rows_long : (id : ℕ) (rs : List (List Field)) → length (operator_rows id rs) ≡ length rs
unfolding operator_rows
rows_long id [] = refl
rows_long id (fs ∷ rs) = ap suc (rows_long (suc id) rs)

rows_more : (id : ℕ) (rs : List (List Field)) (fs : List Field) → operator_rows id (rs ++ (fs ∷ [])) ≡ operator_rows id rs ++ (operator_row (length rs + id) fs ∷ [])
unfolding operator_rows
rows_more id [] fs = let e : 0 + id ≡ id = omega arith in rw e
rows_more id (gs ∷ rs) fs =
    let e : length rs + suc id ≡ suc (length rs) + id = omega arith in
    ap (λ (ys : List (List ℕ)). operator_row id gs ∷ ys) (rows_more (suc id) rs fs ∙ rw e)

pub operators_made : Made (operator_rows 1) (λ n fs. operator_row (n + 1) fs)
unfolding operator_rows
operators_made = record { empty = refl; more = rows_more 1; long = rows_long 1 }

-- ---- lines of numbers

map_last : (rs : List (List Field)) (fs : List Field) → number_rows (rs ++ (fs ∷ [])) ≡ number_rows rs ++ (values fs ∷ [])
map_last [] fs = refl
map_last (gs ∷ rs) fs = ap (λ (ys : List (List ℕ)). values gs ∷ ys) (map_last rs fs)

pub numbers_made : Made number_rows (λ n fs. values fs)
numbers_made = record { empty = refl; more = map_last; long = λ rs. length-map rs values }

-- ---- number 1 is of no line

one_at : (a b o d u : Bool) → ◌≡◌ {A = ℕ} (cond a (cond b 2 (cond o 3 (cond d 4 (cond u 6 0)))) 2) 1 → ⊥
one_at false b o d u e = omega arith
one_at true true o d u e = omega arith
one_at true false true d u e = omega arith
one_at true false false true u e = omega arith
one_at true false false false true e = omega arith
one_at true false false false false e = omega arith

pub one_none : (k : Kind) (seen next : ℕ) (x : Option (List Field)) → line_number k seen next x ≡ 1 → is_none x ≡ true
unfolding line_number
one_none k seen next none e = refl
one_none k seen next (some fs) e =
    absurd (one_at (fields_fit k fs) (k.malformed fs) (ltb most_bytes next || (too_many_entries k fs || k.large seen fs)) (k.undefined fs) (k.unfit fs) e)

pub other_some : (k : Kind) (seen next : ℕ) (x : Option (List Field)) → (line_number k seen next x ≡ 1 → ⊥) → is_none x ≡ false
unfolding line_number
other_some k seen next none h = absurd (h refl)
other_some k seen next (some fs) h = refl

-- how many sets n children have, as a power of two
pub two_power : (n : ℕ) → two_to n ≡ 2 ^ n
unfolding two_to
two_power zero = refl
two_power (suc n) = rw (two_power n, pow-succ' 2 n)

-- at most eight children have at most 256 sets
pub two_small : (n : ℕ) → n ≤ 8 → two_to n ≤ 256
two_small n h = rw (two_power n) (pow_mono {i = n} {j = 8} h)

-- a line is turned back as wrong only by its number 1
pub one_again : (k : Kind) (seen next : ℕ) (x : Option (List Field)) → (line_number k seen next x ≡ 0 → ⊥) → refusal_of (line_number k seen next x) ≡ WrongLine → line_number k seen next x ≡ 1
one_again k seen next x h e =
    let n : ℕ = line_number k seen next x in
    sym (number_again n h (omega (arith, line_number_few k seen next x))) ∙ ap refusal_number e
