-- What a line's counts and numbers give it is `line_number` of its kind.
-- Assumes nothing.
use Prim.Native.Nat.{ℕ, zero, suc, ◌+◌, ◌-◌, ◌*◌, ◌≤◌}
use mathlib.Core.Path.{◌≡◌, refl, ap, sym, ◌∙◌}
use mathlib.Core.Bool.{Bool, true, false, cond, ◌&&◌, ◌||◌, and_assoc}
use mathlib.Core.Option.{Option, none, some}
use mathlib.Core.List.{List, [], ◌∷◌, map}
use native.Mathlib.Omega.{arith}
use borrow.Author.Tests.{le-leb, lt-leb, leb-true, ltb-false, eqb-true}
use lib.Dec.{eqb, leb, ltb, leb-suc-suc}
use lib.ListN.{length, get_or, take, drop, length-drop, get_or-map}
use Rattle.text.specs.declared.field.Field.{Field}
use Rattle.text.specs.declared.field.Field.TheVariants.{Number as number}
use Rattle.text.specs.Text.{state_of, value_of, greatest}
use Rattle.text.specs.Bounds.{Bound, allows, fits, allows_all}
use Rattle.text.proofs.Limits.{all_largest}
use Rattle.keys.proofs.Truths.{and_first, and_second}
use Rattle.linekinds.specs.Lines.{Kind, plain, most_bytes, most_entries, whole_entries, fields_fit, too_many_entries, line_number}
use Rattle.linekinds.specs.KeyLines.{at, values}
use Rattle.linekinds.specs.Reading.{kind_of, head_count, entry_width, large_by, undefined_by, unfit_by, codes_number, counts_number, Whole}
use Rattle.linekinds.specs.declared.kind.Codes.{Codes}
use Rattle.linekinds.specs.declared.kind.Codes.TheVariants.{Key, Join, Exprs, Rules, Input, Directions, Names}

pub and_middle : (a b c : Bool) → a && (b && c) ≡ b && (a && c)
and_middle true true c = refl
and_middle true false c = refl
and_middle false true c = refl
and_middle false false c = refl

cases_few : (a b c d e : Bool) → cond a (cond b 2 (cond c 3 (cond d 4 (cond e 6 0)))) 2 ≤ 6
cases_few true true c d e = omega arith
cases_few true false true d e = omega arith
cases_few true false false true e = omega arith
cases_few true false false false true = omega arith
cases_few true false false false false = omega arith
cases_few false b c d e = omega arith

-- the number of a line is at most 6
pub line_number_few : (k : Kind) (seen next : ℕ) (x : Option (List Field)) → line_number k seen next x ≤ 6
unfolding line_number
line_number_few k seen next none = omega arith
line_number_few k seen next (some fs) = cases_few (fields_fit k fs) (k.malformed fs) (ltb most_bytes next || (too_many_entries k fs || k.large seen fs)) (k.undefined fs) (k.unfit fs)

-- so many plain fields
abbrev plains : ℕ → List Bound
plains zero = []
plains (suc n) = plain ∷ plains n

plain_heads : (n : ℕ) (fs : List Field) → fits (plains n) (take n fs) && allows_all plain (drop n fs) ≡ leb n (length fs) && allows_all plain fs
unfolding fits allows_all
plain_heads zero fs = rw (le-leb 0 (length fs) (omega arith))
plain_heads (suc n) [] = rw (lt-leb (suc n) 0 (omega arith))
plain_heads (suc n) (f ∷ fs) =
    rw (leb-suc-suc n (length fs))
    (and_assoc (allows plain f) (fits (plains n) (take n fs)) (allows_all plain (drop n fs))
    ∙ ap (λ (b : Bool). allows plain f && b) (plain_heads n fs)
    ∙ and_middle (allows plain f) (leb n (length fs)) (allows_all plain fs))

-- the fields of a line, by how many there are and the largest of them
fit_counts :
    (n w : ℕ) (fs : List Field) →
    fits (plains n) (take n fs) && (allows_all plain (drop n fs) && whole_entries w (length (drop n fs)))
    ≡ leb n (length fs) && ((leb (greatest 0 (map state_of fs)) 0 && leb (greatest 0 (map value_of fs)) 65535) && whole_entries w (length fs - n))
fit_counts n w fs =
    sym (and_assoc (fits (plains n) (take n fs)) (allows_all plain (drop n fs)) (whole_entries w (length (drop n fs))))
    ∙ rw (plain_heads n fs, length-drop n fs, all_largest plain fs)
    (and_assoc (leb n (length fs)) (leb (greatest 0 (map state_of fs)) 0 && leb (greatest 0 (map value_of fs)) 65535) (whole_entries w (length fs - n)))

-- the tests in two groups
grouped :
    (f a t l u w : Bool) →
    cond f (cond (a || (t || l)) 3 (cond u 4 (cond w 6 0))) 2
    ≡ (let m : ℕ = cond f (cond (a || t) 3 0) 2 in cond (eqb m 0) (cond l 3 (cond u 4 (cond w 6 0))) m)
grouped true true t l u w = refl
grouped true false true l u w = refl
grouped true false false l u w = refl
grouped false a t l u w = refl

-- a field's number, from the list of the numbers
pub at_value : (fs : List Field) (i : ℕ) → at fs i ≡ get_or (values fs) i 0
at_value fs i = sym (get_or-map value_of fs i (number 0))

drop_values : (n : ℕ) (fs : List Field) → values (drop n fs) ≡ drop n (values fs)
drop_values zero fs = refl
drop_values (suc n) [] = refl
drop_values (suc n) (f ∷ fs) = drop_values n fs

module _ (n w next : ℕ) (fs : List Field) (l u v : Bool) where
  abbrev tested : Bool → ℕ
  tested f = cond f (cond (ltb most_bytes next || (ltb (most_entries * w) (length (drop n fs)) || l)) 3 (cond u 4 (cond v 6 0))) 2

  abbrev counted : ℕ
  counted =
      cond (leb n (length fs) && ((leb (greatest 0 (map state_of fs)) 0 && leb (greatest 0 (map value_of fs)) 65535) && whole_entries w (length fs - n)))
      (cond (ltb most_bytes next || ltb (most_entries * w) (length fs - n)) 3 0) 2

  by_counts :
      tested (fits (plains n) (take n fs) && (allows_all plain (drop n fs) && whole_entries w (length (drop n fs))))
      ≡ cond (eqb counted 0) (cond l 3 (cond u 4 (cond v 6 0))) counted
  by_counts =
      ap tested (fit_counts n w fs)
      ∙ rw (length-drop n fs)
      (grouped (leb n (length fs) && ((leb (greatest 0 (map state_of fs)) 0 && leb (greatest 0 (map value_of fs)) 65535) && whole_entries w (length fs - n)))
      (ltb most_bytes next) (ltb (most_entries * w) (length fs - n)) l u v)

pub line_number_lem :
    (c : Codes) (letter seen next : ℕ) (fs : List Field) →
    let m : ℕ = counts_number c (length fs) (greatest 0 (map state_of fs)) (greatest 0 (map value_of fs)) next in
    line_number (kind_of c letter) seen next (some fs) ≡ cond (eqb m 0) (codes_number c (values fs)) m
unfolding line_number
line_number_lem Key letter seen next fs =
    rw (at_value fs 0, at_value fs 1, at_value fs 2, at_value fs 4, at_value fs 5, at_value fs 6)
    (by_counts 7 0 next fs (large_by Key (values fs)) (undefined_by Key (values fs)) (unfit_by Key (values fs)))
line_number_lem Join letter seen next fs =
    rw (at_value fs 0, at_value fs 1) (by_counts 2 0 next fs false (undefined_by Join (values fs)) false)
line_number_lem Exprs letter seen next fs = by_counts 0 3 next fs false (undefined_by Exprs (values fs)) false
line_number_lem Rules letter seen next fs = by_counts 0 6 next fs false (undefined_by Rules (values fs)) false
line_number_lem Input letter seen next fs =
    rw (at_value fs 0, drop_values 1 fs) (by_counts 1 3 next fs false (undefined_by Input (values fs)) false)
line_number_lem Directions letter seen next fs = by_counts 0 1 next fs false (undefined_by Directions (values fs)) false
line_number_lem Names letter seen next fs = by_counts 0 1 next fs false false false

-- a line whose counts are right has as many fields as its kind has, and no more than there is room for
parts_of : (f a t : Bool) → ◌≡◌ {A = ℕ} (cond f (cond (a || t) 3 0) 2) 0 → (f ≡ true) × (t ≡ false)
parts_of true true t e = absurd (omega arith)
parts_of true false true e = absurd (omega arith)
parts_of true false false e = (refl, refl)
parts_of false a t e = absurd (omega arith)

module _ (c : Codes) (count worst largest next : ℕ) (e : counts_number c count worst largest next ≡ 0) where
  tests : (leb (head_count c) count && ((leb worst 0 && leb largest 65535) && whole_entries (entry_width c) (count - head_count c)) ≡ true) × (ltb (most_entries * entry_width c) (count - head_count c) ≡ false)
  tests =
      parts_of (leb (head_count c) count && ((leb worst 0 && leb largest 65535) && whole_entries (entry_width c) (count - head_count c)))
      (ltb most_bytes next) (ltb (most_entries * entry_width c) (count - head_count c)) e

  pub counts_enough : head_count c ≤ count
  counts_enough = leb-true (head_count c) count (and_first (leb (head_count c) count) _ tests.0)

  pub counts_few : count - head_count c ≤ 32 * entry_width c
  counts_few = ltb-false (most_entries * entry_width c) (count - head_count c) tests.1

  pub counts_entries : whole_entries (entry_width c) (count - head_count c) ≡ true
  counts_entries = and_second (leb worst 0 && leb largest 65535) _ (and_second (leb (head_count c) count) _ tests.0)

  pub counts_fields : leb worst 0 && leb largest 65535 ≡ true
  counts_fields = and_first (leb worst 0 && leb largest 65535) _ (and_second (leb (head_count c) count) _ tests.0)

pub counts_whole : (c : Codes) (count worst largest next : ℕ) → counts_number c count worst largest next ≡ 0 → Whole c count
counts_whole Key count worst largest next e =
    let h : 7 ≤ count = counts_enough Key count worst largest next e in
    let z : count - 7 ≡ 0 = eqb-true (count - 7) 0 (counts_entries Key count worst largest next e) in
    omega arith
counts_whole Join count worst largest next e =
    let h : 2 ≤ count = counts_enough Join count worst largest next e in
    let z : count - 2 ≡ 0 = eqb-true (count - 2) 0 (counts_entries Join count worst largest next e) in
    omega arith
counts_whole Exprs count worst largest next e = tt
counts_whole Rules count worst largest next e = tt
counts_whole Input count worst largest next e = counts_enough Input count worst largest next e
counts_whole Directions count worst largest next e = tt
counts_whole Names count worst largest next e = tt

most_fields : (c : Codes) → head_count c + 32 * entry_width c ≤ 192
most_fields Key = omega arith
most_fields Join = omega arith
most_fields Exprs = omega arith
most_fields Rules = omega arith
most_fields Input = omega arith
most_fields Directions = omega arith
most_fields Names = omega arith

pub counts_room : (c : Codes) (count worst largest next : ℕ) → counts_number c count worst largest next ≡ 0 → count ≤ 192
counts_room c count worst largest next e = omega (arith, counts_few c count worst largest next e, most_fields c)

-- a line that is not turned back: its counts are right, and its numbers are those of fields
pub not_turned_counts :
    (c : Codes) (letter seen next : ℕ) (fs : List Field) → line_number (kind_of c letter) seen next (some fs) ≡ 0 →
    counts_number c (length fs) (greatest 0 (map state_of fs)) (greatest 0 (map value_of fs)) next ≡ 0
not_turned_counts c letter seen next fs e = go (counts_number c (length fs) (greatest 0 (map state_of fs)) (greatest 0 (map value_of fs)) next) (sym (line_number_lem c letter seen next fs) ∙ e)
  where
    go : (m : ℕ) → cond (eqb m 0) (codes_number c (values fs)) m ≡ 0 → m ≡ 0
    go m h = pick (eqb m 0) refl h
      where
        pick : (t : Bool) → eqb m 0 ≡ t → cond t (codes_number c (values fs)) m ≡ 0 → m ≡ 0
        pick true p h = eqb-true m 0 p
        pick false p h = h
