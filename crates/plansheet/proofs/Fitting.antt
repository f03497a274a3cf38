-- X rows and masks tested one after the other: what the tests say is `fact_rows_fit` and `all_within_bits`.
-- Assumes nothing.
use mathlib.Core.Path.{◌≡◌, refl, sym, ap, ◌∙◌}
use mathlib.Core.List.{List, [], ◌∷◌, map}
use mathlib.Core.Option.{Option, none, some}
use mathlib.Core.Bool.{Bool, true, false, cond, not, ◌&&◌, ◌||◌}
use Prim.Native.Nat.{ℕ, zero, suc, ◌+◌, ◌/◌, ◌^◌, ◌≤◌, ◌<◌}
use native.Mathlib.Omega.{arith}
use Rattle.std.proofs.Math.Nat.{div-one, div-div-eq-div-mul, div-eq_of_lt, pow-succ'}
use lib.Dec.{eqb, leb}
use lib.ListN.{length, get_or}
use borrow.Author.Tests.{eq-eqb, eqb-true, eqb-false, leb-true}
use Rattle.std.specs.Prelude.{◌↔◌, IsTrue}
use Rattle.std.specs.List.{AllPass, list_all}
use Rattle.std.proofs.lemmas.Bool.{and_parts as both}
use Rattle.std.proofs.lemmas.List.Sums.{AllPass-from_list_all, list_all-from_AllPass}
use Rattle.keys.proofs.Truths.{both_ways}
use Rattle.exchange.specs.declared.fact.Fact.{Fact}
use Rattle.exchange.specs.declared.fact.Fact.TheVariants.{Row, Missing}
use Rattle.exchange.specs.FactRows.{fact_row}
use Rattle.exchange.specs.Found.{child_of, form_number, later, row_for, found_of}
use Rattle.exchange.specs.Fit.{within_bits, all_within_bits, is_repeated, none_repeated}
use Rattle.plansheet.specs.FitRows.{row_fits_by, rows_fit_by, found_at}

-- ---- bits

-- no bit beyond the first n: none is left where those are shifted out
pub within_shifted : (n m : ℕ) → within_bits n m ≡ eqb (m / 2 ^ n) 0
unfolding within_bits
within_shifted zero m = rw (div-one m)
within_shifted (suc n) m = within_shifted n (m / 2) ∙ rw (div-div-eq-div-mul m 2 (2 ^ n), pow-succ' 2 n)

pub within_wide : (n m : ℕ) → m < 2 ^ n → within_bits n m ≡ true
within_wide n m h = within_shifted n m ∙ rw (div-eq_of_lt h)

masks_list : (n : ℕ) (masks : List ℕ) → list_all (within_bits n) masks ≡ all_within_bits n masks
unfolding all_within_bits
masks_list n [] = refl
masks_list n (m ∷ ms) = ap (λ (t : Bool). within_bits n m && t) (masks_list n ms)

-- what is true exactly where each mask fits
pub masks_all : (n : ℕ) (b : Bool) (masks : List ℕ) → IsTrue b ↔ AllPass (within_bits n) masks → b ≡ all_within_bits n masks
masks_all n b masks e =
    both_ways b (list_all (within_bits n) masks) (λ h. list_all-from_AllPass (within_bits n) masks (e.0 h)) (λ h. e.1 (AllPass-from_list_all (within_bits n) masks h))
    ∙ masks_list n masks

-- ---- a row

module _ (target : ℕ) (rows : List (List ℕ)) (places : List ℕ) (facts : List (List ℕ)) where
  module _ (x : List ℕ) where
    abbrev R : Bool
    R = row_fits_by target rows places facts x

    -- a row that fits is of a known child and form
    pub fits_known : R ≡ true → (get_or x 1 0 ≤ 15) × (1 ≤ get_or x 0 0) × (get_or x 0 0 ≤ length places)
    fits_known e =
        let p = both (leb (get_or x 1 0) 15) _ e in
        let q = both (leb 1 (get_or x 0 0)) _ p.1 in
        let r = both (leb (get_or x 0 0) (length places)) _ q.1 in
        (leb-true (get_or x 1 0) 15 p.0, leb-true 1 (get_or x 0 0) q.0, leb-true (get_or x 0 0) (length places) r.0)

  -- ---- every row

  pub all_fit : (ys : List (List ℕ)) → ((j : ℕ) → j < length ys → row_fits_by target rows places facts (get_or ys j []) ≡ true) → rows_fit_by target rows places facts ys ≡ true
  unfolding rows_fit_by
  all_fit [] h = refl
  all_fit (y ∷ ys) h = rw (h 0 (omega arith)) (all_fit ys (λ j k. h (suc j) (omega arith)))

  and-false : (a : Bool) → a && false ≡ false
  and-false true = refl
  and-false false = refl

  pub one_unfit : (ys : List (List ℕ)) (i : ℕ) → i < length ys → row_fits_by target rows places facts (get_or ys i []) ≡ false → rows_fit_by target rows places facts ys ≡ false
  unfolding rows_fit_by
  one_unfit [] i h e = absurd (omega arith)
  one_unfit (y ∷ ys) zero h e = rw e
  one_unfit (y ∷ ys) (suc i) h e = rw (one_unfit ys i (omega arith) e) (and-false (row_fits_by target rows places facts y))

-- ---- no child and form twice

abbrev pub same : List ℕ → List ℕ → Bool
same x y = eqb (child_of x) (child_of y) && eqb (form_number x) (form_number y)

-- the first of its child and form
abbrev pub First : List (List ℕ) → ℕ → Type 0
First ys i = row_for ys (child_of (get_or ys i [])) (form_number (get_or ys i [])) ≡ some i

not_repeated : (x : List ℕ) (ys : List (List ℕ)) → ((j : ℕ) → j < length ys → same x (get_or ys j []) ≡ false) → is_repeated (fact_row x) (map fact_row ys) ≡ false
unfolding is_repeated
not_repeated x [] h = refl
not_repeated x (y ∷ ys) h = rw (h 0 (omega arith)) (not_repeated x ys (λ j k. h (suc j) (omega arith)))

or-true : (a : Bool) → a || true ≡ true
or-true true = refl
or-true false = refl

repeated_at : (x : List ℕ) (ys : List (List ℕ)) (j : ℕ) → j < length ys → same x (get_or ys j []) ≡ true → is_repeated (fact_row x) (map fact_row ys) ≡ true
unfolding is_repeated
repeated_at x [] j h e = absurd (omega arith)
repeated_at x (y ∷ ys) zero h e = rw e
repeated_at x (y ∷ ys) (suc j) h e = rw (repeated_at x ys j (omega arith) e) (or-true (same x y))

later_at : (t : Bool) (o : Option ℕ) (j : ℕ) → cond t (some 0) (later o) ≡ some (suc j) → (t ≡ false) × (o ≡ some j)
later_at true o j e = let z : ◌≡◌ {A = ℕ} 0 (suc j) = cc in absurd (omega arith)
later_at false none j e = let z : ◌≡◌ {A = ℕ} 0 1 = cc in absurd (omega arith)
later_at false (some p) j e = let z : suc p ≡ suc j = cc in let w : p ≡ j = omega arith in (refl, rw w)

pub firsts_apart : (ys : List (List ℕ)) → ((j : ℕ) → j < length ys → First ys j) → none_repeated (map fact_row ys) ≡ true
unfolding none_repeated row_for
firsts_apart [] h = refl
firsts_apart (y ∷ ys) h =
    let here : (j : ℕ) → j < length ys → (same y (get_or ys j []) ≡ false) × First ys j = λ j k. later_at (same y (get_or ys j [])) (row_for ys (child_of (get_or ys j [])) (form_number (get_or ys j []))) j (h (suc j) (omega arith)) in
    rw (not_repeated y ys (λ j k. (here j k).0)) (firsts_apart ys (λ j k. (here j k).1))

own_at : (y : List ℕ) (o : Option ℕ) → cond (same y y) (some 0) o ≡ some 0
own_at y o = rw (eq-eqb (child_of y) (child_of y) refl, eq-eqb (form_number y) (form_number y) refl)

and_second : (a : Bool) → a && false ≡ false
and_second true = refl
and_second false = refl

pub one_repeated : (ys : List (List ℕ)) (i : ℕ) → i < length ys → (First ys i → ⊥) → none_repeated (map fact_row ys) ≡ false
unfolding none_repeated row_for
one_repeated [] i h ne = absurd (omega arith)
one_repeated (y ∷ ys) zero h ne = absurd (ne (own_at y (later (row_for ys (child_of y) (form_number y)))))
one_repeated (y ∷ ys) (suc i) h ne = go (same y (get_or ys i [])) refl (one_repeated ys i (omega arith))
  where
    go : (t : Bool) → same y (get_or ys i []) ≡ t → ((First ys i → ⊥) → none_repeated (map fact_row ys) ≡ false) → not (is_repeated (fact_row y) (map fact_row ys)) && none_repeated (map fact_row ys) ≡ false
    go true t ih = rw (repeated_at y ys i (omega arith) t)
    go false t ih = rw (ih (λ e. ne (rw (t, e)))) (and_second (not (is_repeated (fact_row y) (map fact_row ys))))

pub found_here : (f : Fact) (o : Option ℕ) (i : ℕ) → found_of f ≡ o → found_at f i ≡ true → o ≡ some i
found_here (Row p) o i e h = sym e ∙ ap some (eqb-true p i h)
found_here Missing o i e h = let z : ◌≡◌ {A = ℕ} 0 1 = cc in absurd (omega arith)

pub found_else : (f : Fact) (o : Option ℕ) (i : ℕ) → found_of f ≡ o → found_at f i ≡ false → o ≡ some i → ⊥
found_else (Row p) o i e h g = let z : p ≡ i = cc in eqb-false p i h z
found_else Missing o i e h g = let z : ◌≡◌ {A = ℕ} 0 1 = cc in omega arith

-- ---- the rows so far

abbrev pub Good : ℕ → List (List ℕ) → List ℕ → List (List ℕ) → List (List ℕ) → ℕ → Type 0
Good target rows places facts ys j = (row_fits_by target rows places facts (get_or ys j []) ≡ true) × First ys j

module _ (target : ℕ) (rows : List (List ℕ)) (places : List ℕ) (facts ys : List (List ℕ)) where
  pub good_more : (i : ℕ) → ((j : ℕ) → j < i → Good target rows places facts ys j) → Good target rows places facts ys i → (j : ℕ) → j < i + 1 → Good target rows places facts ys j
  good_more i h g j k = go (eqb j i) refl
    where
      go : (t : Bool) → eqb j i ≡ t → Good target rows places facts ys j
      go true t = rw (eqb-true j i t) g
      go false t = let ne : j ≡ i → ⊥ = eqb-false j i t in h j (omega arith)

  pub good_all : ((j : ℕ) → j < length ys → Good target rows places facts ys j) → true ≡ (none_repeated (map fact_row ys) && rows_fit_by target rows places facts ys)
  good_all h = rw (firsts_apart ys (λ j k. (h j k).1), all_fit target rows places facts ys (λ j k. (h j k).0))

  pub bad_row : (i : ℕ) → i < length ys → row_fits_by target rows places facts (get_or ys i []) ≡ false → false ≡ (none_repeated (map fact_row ys) && rows_fit_by target rows places facts ys)
  bad_row i h e = rw (one_unfit target rows places facts ys i h e) (sym (and_second (none_repeated (map fact_row ys))))

  pub bad_pair : (i : ℕ) → i < length ys → (First ys i → ⊥) → false ≡ (none_repeated (map fact_row ys) && rows_fit_by target rows places facts ys)
  bad_pair i h e = rw (one_repeated ys i h e)
