-- Fields against their bounds: on rows, from a position on, and by the largest of their states and values.
-- Assumes nothing.
use mathlib.Core.Path.{◌≡◌, refl, sym, ap, ◌∙◌}
use mathlib.Core.List.{List, [], ◌∷◌, map}
use mathlib.Core.Bool.{Bool, true, false, cond, ◌&&◌, and-false, and-true, and_assoc}
use mathlib.Core.Option.{none, some}
use Prim.Native.Nat.{ℕ, zero, suc, ◌≤◌, ◌<◌, max}
use native.Mathlib.Omega.{arith}
use lib.Dec.{leb, eqb}
use lib.ListN.{length, get_or}
use borrow.Author.Tests.{le-leb, lt-leb, leb-true, leb-false}
use Rattle.std.proofs.lemmas.Bool.{and_parts}
use Rattle.text.specs.declared.field.Field.{Field}
use Rattle.text.specs.declared.field.Field.TheVariants.{Number as number, Empty as empty, Malformed as malformed}
use Rattle.text.specs.Text.{most, field, parts, fields, line_fields, state_of, value_of, row, greatest}
use Rattle.text.specs.Bounds.{Bound, widest, allows, allows_all, well_formed, fits, bound_row, row_within, fits_rows}
use Rattle.text.proofs.Exact.{number_exact}

allows_number : (t : Bool) (m n : ℕ) → leb n m ≡ leb 0 (cond t 1 0) && leb n m
allows_number true m n = refl
allows_number false m n = refl

allows_empty : (t : Bool) (m : ℕ) → t ≡ leb 1 (cond t 1 0) && leb 0 m
allows_empty true m = sym (le-leb 0 m (omega arith))
allows_empty false m = refl

allows_malformed : (t : Bool) (m : ℕ) → false ≡ leb 2 (cond t 1 0) && leb 0 m
allows_malformed true m = refl
allows_malformed false m = refl

allows_row : (b : Bound) (f : Field) → allows b f ≡ row_within (bound_row b) (row f)
allows_row b (number n) = allows_number b.optional b.largest n
allows_row b empty = allows_empty b.optional b.largest
allows_row b malformed = allows_malformed b.optional b.largest

-- what the code compares is what is asked of the fields
pub fits_rows_lem : (bs : List Bound) (fs : List Field) → fits bs fs ≡ fits_rows (map bound_row bs) (map row fs)
unfolding fits fits_rows
fits_rows_lem [] [] = refl
fits_rows_lem [] (f ∷ fs) = refl
fits_rows_lem (b ∷ bs) [] = refl
fits_rows_lem (b ∷ bs) (f ∷ fs) = λ k. allows_row b f k && fits_rows_lem bs fs k

pub uneven : (bs fs : List (List ℕ)) → (length fs ≡ length bs → ⊥) → fits_rows bs fs ≡ false
unfolding fits_rows
uneven [] [] ne = absurd (ne refl)
uneven [] (f ∷ fs) ne = refl
uneven (b ∷ bs) [] ne = refl
uneven (b ∷ bs) (f ∷ fs) ne = rw (uneven bs fs (λ e. ne (ap suc e)), and-false)

-- the first of the rows decides, or else the rest
module _ (b f : List ℕ) (bs fs : List (List ℕ)) where
  pub over_state : get_or b 0 0 < get_or f 0 0 → fits_rows (b ∷ bs) (f ∷ fs) ≡ false
  unfolding fits_rows
  over_state h = rw (lt-leb (get_or f 0 0) (get_or b 0 0) h)

  pub over_value : get_or b 1 0 < get_or f 1 0 → fits_rows (b ∷ bs) (f ∷ fs) ≡ false
  unfolding fits_rows
  over_value h = rw (lt-leb (get_or f 1 0) (get_or b 1 0) h, and-false)

  pub within_both : get_or f 0 0 ≤ get_or b 0 0 → get_or f 1 0 ≤ get_or b 1 0 → fits_rows (b ∷ bs) (f ∷ fs) ≡ fits_rows bs fs
  unfolding fits_rows
  within_both h k = rw (le-leb (get_or f 0 0) (get_or b 0 0) h, le-leb (get_or f 1 0) (get_or b 1 0) k)

pub none_left : (bs fs : List (List ℕ)) → length bs ≡ 0 → length fs ≡ 0 → fits_rows bs fs ≡ true
unfolding fits_rows
none_left [] [] h k = refl
none_left [] (f ∷ fs) h k = absurd (omega arith)
none_left (b ∷ bs) fs h k = absurd (omega arith)

-- ---- by the largest of them

-- none of the numbers is above m
unfoldable all_leb : ℕ → List ℕ → Bool
all_leb m [] = true
all_leb m (x ∷ xs) = leb x m && all_leb m xs

max_at : (s t : Bool) (m a b : ℕ) → leb a m ≡ s → leb b m ≡ t → leb (max a b) m ≡ s && t
max_at true true m a b p q = let h = leb-true a m p in let l = leb-true b m q in le-leb (max a b) m (omega arith)
max_at true false m a b p q = let l = leb-false b m q in lt-leb (max a b) m (omega arith)
max_at false t m a b p q = let h = leb-false a m p in lt-leb (max a b) m (omega arith)

greatest_all : (m n : ℕ) (xs : List ℕ) → leb (greatest n xs) m ≡ leb n m && all_leb m xs
unfolding greatest all_leb
greatest_all m n [] = sym (and-true (leb n m))
greatest_all m n (x ∷ xs) = greatest_all m (max n x) xs ∙ ap (λ (t : Bool). t && all_leb m xs) (max_at (leb n m) (leb x m) m n x refl refl) ∙ and_assoc (leb n m) (leb x m) (all_leb m xs)

swap : (a b c d : Bool) → (a && b) && (c && d) ≡ (a && c) && (b && d)
swap true true c d = refl
swap true false true d = refl
swap true false false d = refl
swap false b c d = refl

all_rows : (b : Bound) (fs : List Field) → allows_all b fs ≡ all_leb (cond b.optional 1 0) (map state_of fs) && all_leb b.largest (map value_of fs)
unfolding allows_all all_leb
all_rows b [] = refl
all_rows b (f ∷ fs) = (λ k. allows_row b f k && all_rows b fs k) ∙ swap (leb (state_of f) (cond b.optional 1 0)) (leb (value_of f) b.largest) (all_leb (cond b.optional 1 0) (map state_of fs)) (all_leb b.largest (map value_of fs))

least : (m n : ℕ) (xs : List ℕ) → n ≤ m → leb (greatest n xs) m ≡ all_leb m xs
least m n xs h = greatest_all m n xs ∙ rw (le-leb n m h)

-- every field is within one bound exactly if the largest state and the largest value are
pub all_largest : (b : Bound) (fs : List Field) → allows_all b fs ≡ leb (greatest 0 (map state_of fs)) (cond b.optional 1 0) && leb (greatest 0 (map value_of fs)) b.largest
all_largest b fs = all_rows b fs ∙ (λ k. sym (least (cond b.optional 1 0) 0 (map state_of fs) (omega arith)) k && sym (least b.largest 0 (map value_of fs) (omega arith)) k)

well_rows : (fs : List Field) → well_formed fs ≡ all_leb 1 (map state_of fs)
unfolding well_formed all_leb
well_rows [] = refl
well_rows (f ∷ fs) = ap (λ (t : Bool). leb (state_of f) 1 && t) (well_rows fs)

-- no field is malformed exactly if no state is above 1
pub well_worst : (fs : List Field) → well_formed fs ≡ leb (greatest 0 (map state_of fs)) 1
well_worst fs = well_rows fs ∙ sym (least 1 0 (map state_of fs) (omega arith))

-- ---- what is within bounds is well formed

allows_well : (b : Bound) (f : Field) → allows b f ≡ true → leb (state_of f) 1 ≡ true
allows_well b (number n) e = refl
allows_well b empty e = refl
allows_well b malformed e = absurd (cc)

pub fits_well : (bs : List Bound) (fs : List Field) → fits bs fs ≡ true → well_formed fs ≡ true
unfolding fits well_formed
fits_well bs [] e = refl
fits_well [] (f ∷ fs) e = absurd (cc)
fits_well (b ∷ bs) (f ∷ fs) e = let p = and_parts (allows b f) (fits bs fs) e in rw (allows_well b f p.0) (fits_well bs fs p.1)

pub all_well : (b : Bound) (fs : List Field) → allows_all b fs ≡ true → well_formed fs ≡ true
unfolding allows_all well_formed
all_well b [] e = refl
all_well b (f ∷ fs) e = let p = and_parts (allows b f) (allows_all b fs) e in rw (allows_well b f p.0) (all_well b fs p.1)

-- ---- what was read is within 64 bits

widest_at : (p : List ℕ) (f : Field) → field most p ≡ f → allows widest f ≡ leb (state_of f) 1
widest_at p (number n) e = le-leb n most ((number_exact most p n).0 e).1
widest_at p empty e = refl
widest_at p malformed e = refl

parts_widest : (ps : List (List ℕ)) → allows_all widest (map (field most) ps) ≡ well_formed (map (field most) ps)
unfolding allows_all well_formed
parts_widest [] = refl
parts_widest (p ∷ ps) = λ k. widest_at p (field most p) refl k && parts_widest ps k

some_at_lem : (t : Bool) (gs fs : List Field) → cond t (some gs) none ≡ some fs → allows_all widest gs ≡ well_formed gs → allows_all widest fs ≡ well_formed fs
some_at_lem true gs fs e h = let q : gs ≡ fs = cc in rw q at h
some_at_lem false gs fs e h = absurd (cc)

pub read_widest : (letter : ℕ) (l : List ℕ) (fs : List Field) → line_fields letter l ≡ some fs → allows_all widest fs ≡ well_formed fs
unfolding line_fields fields allows_all well_formed
read_widest letter [] fs e = absurd (cc)
read_widest letter (x ∷ []) fs e = some_at_lem (eqb x letter) [] fs e refl
read_widest letter (x ∷ c ∷ cs) fs e = some_at_lem (eqb x letter && eqb c 44) (map (field most) (parts 44 cs)) fs e (parts_widest (parts 44 cs))

-- ---- field by field

pub fits_length : (bs : List Bound) (fs : List Field) → fits bs fs ≡ true → length fs ≡ length bs
unfolding fits
fits_length [] [] e = refl
fits_length [] (f ∷ fs) e = absurd (cc)
fits_length (b ∷ bs) [] e = absurd (cc)
fits_length (b ∷ bs) (f ∷ fs) e = ap suc (fits_length bs fs (and_parts (allows b f) (fits bs fs) e).1)

pub fits_at : (bs : List Bound) (fs : List Field) → fits bs fs ≡ true → (i : ℕ) → i < length fs → allows (get_or bs i widest) (get_or fs i empty) ≡ true
unfolding fits
fits_at [] [] e i h = absurd (omega arith)
fits_at [] (f ∷ fs) e i h = absurd (cc)
fits_at (b ∷ bs) [] e i h = absurd (omega arith)
fits_at (b ∷ bs) (f ∷ fs) e zero h = (and_parts (allows b f) (fits bs fs) e).0
fits_at (b ∷ bs) (f ∷ fs) e (suc i) h = fits_at bs fs (and_parts (allows b f) (fits bs fs) e).1 i (omega arith)

pub all_at : (b : Bound) (fs : List Field) → allows_all b fs ≡ true → (i : ℕ) → i < length fs → allows b (get_or fs i empty) ≡ true
unfolding allows_all
all_at b [] e i h = absurd (omega arith)
all_at b (f ∷ fs) e zero h = (and_parts (allows b f) (allows_all b fs) e).0
all_at b (f ∷ fs) e (suc i) h = all_at b fs (and_parts (allows b f) (allows_all b fs) e).1 i (omega arith)
