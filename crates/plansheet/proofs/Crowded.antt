-- No more rows fit than there are forms of children: numbers below n that are all different are at most n.
-- Assumes nothing.
use mathlib.Core.Path.{◌≡◌, refl, sym, ap}
use mathlib.Core.List.{List, [], ◌∷◌, map}
use mathlib.Core.Bool.{Bool, true, false, cond, not, ◌&&◌}
use Prim.Native.Nat.{ℕ, zero, suc, ◌+◌, ◌-◌, ◌*◌, ◌≤◌, ◌<◌}
use native.Mathlib.Omega.{arith}
use lib.Dec.{eqb}
use lib.ListN.{length, length-map}
use borrow.Author.Tests.{eqb-true, eqb-false, ne_eqb, not-true}
use Rattle.std.proofs.lemmas.Bool.{and_parts as both}
use Rattle.std.proofs.lemmas.Bool.{or_parts as either_false}
use Rattle.exchange.specs.FactRows.{fact_row}
use Rattle.exchange.specs.Found.{child_of, form_number}
use Rattle.exchange.specs.Fit.{is_repeated, none_repeated}
use Rattle.plansheet.specs.FitRows.{row_fits_by, rows_fit_by, fact_rows_fit}
use Rattle.plansheet.proofs.Fitting.{fits_known, same}

unfoldable has : ℕ → List ℕ → Bool
has x [] = false
has x (y ∷ ys) = cond (eqb x y) true (has x ys)

-- all below n, and all different
data Below (n : ℕ) : List ℕ → Type 0 where
  none : Below n []
  more : {x : ℕ} {xs : List ℕ} → x < n → has x xs ≡ false → Below n xs → Below n (x ∷ xs)

-- without the number n
unfoldable without : ℕ → List ℕ → List ℕ
without n [] = []
without n (y ∷ ys) = cond (eqb n y) (without n ys) (y ∷ without n ys)

never : {A : Type 0} → true ≡ false → A
never e = let z : ◌≡◌ {A = ℕ} 0 1 = cc in absurd (omega arith)

has_at : (a b : Bool) (x y : ℕ) (ys ws : List ℕ) → eqb x y ≡ a → cond a true (has x ys) ≡ false → (has x ys ≡ false → has x ws ≡ false) → has x (cond b ws (y ∷ ws)) ≡ false
unfolding has
has_at true b x y ys ws t e ih = never e
has_at false true x y ys ws t e ih = ih e
has_at false false x y ys ws t e ih = rw t (ih e)

has_without : (x n : ℕ) (xs : List ℕ) → has x xs ≡ false → has x (without n xs) ≡ false
unfolding has without
has_without x n [] e = refl
has_without x n (y ∷ ys) e = has_at (eqb x y) (eqb n y) x y ys (without n ys) refl e (has_without x n ys)

same_at : (a : Bool) (n y : ℕ) (ys : List ℕ) → cond a true (has n ys) ≡ false → (has n ys ≡ false → without n ys ≡ ys) → cond a (without n ys) (y ∷ without n ys) ≡ y ∷ ys
same_at true n y ys e ih = never e
same_at false n y ys e ih = ap (λ (zs : List ℕ). y ∷ zs) (ih e)

without_none : (n : ℕ) (xs : List ℕ) → has n xs ≡ false → without n xs ≡ xs
unfolding has without
without_none n [] e = refl
without_none n (y ∷ ys) e = same_at (eqb n y) n y ys e (without_none n ys)

lower_at : (a : Bool) (n x : ℕ) (xs : List ℕ) → eqb n x ≡ a → x < suc n → has x xs ≡ false → Below n (without n xs) → Below n (cond a (without n xs) (x ∷ without n xs))
lower_at true n x xs t l d b = b
lower_at false n x xs t l d b = let ne : n ≡ x → ⊥ = eqb-false n x t in more {x = x} (omega arith) (has_without x n xs d) b

lower : (n : ℕ) {xs : List ℕ} → Below (suc n) xs → Below n (without n xs)
unfolding without
lower n none = none
lower n (more {x = x} {xs = xs} l d b) = lower_at (eqb n x) n x xs refl l d (lower n b)

longer_at : (a : Bool) (n x : ℕ) (xs : List ℕ) → eqb n x ≡ a → has x xs ≡ false → length xs ≤ suc (length (without n xs)) → suc (length xs) ≤ suc (length (cond a (without n xs) (x ∷ without n xs)))
longer_at true n x xs t d h =
    let e : x ≡ n = sym (eqb-true n x t) in
    let f : has n xs ≡ false = rw e at d in
    omega (arith, ap length (without_none n xs f))
longer_at false n x xs t d h = omega arith

longer : (n : ℕ) {m : ℕ} {xs : List ℕ} → Below m xs → length xs ≤ suc (length (without n xs))
unfolding without
longer n none = omega arith
longer n (more {x = x} {xs = xs} l d b) = longer_at (eqb n x) n x xs refl d (longer n b)

pigeons : (n : ℕ) (xs : List ℕ) → Below n xs → length xs ≤ n
pigeons zero [] none = omega arith
pigeons zero (x ∷ xs) (more l d b) = absurd (omega arith)
pigeons (suc n) xs b = omega (arith, longer n b, pigeons n (without n xs) (lower n b))

-- ---- rows

abbrev place : List ℕ → ℕ
place x = (child_of x - 1) * 16 + form_number x

module _ (target : ℕ) (rows : List (List ℕ)) (places : List ℕ) (facts : List (List ℕ)) where
  differ_at : (a b : Bool) (x y : List ℕ) → eqb (child_of x) (child_of y) ≡ a → eqb (form_number x) (form_number y) ≡ b → a && b ≡ false
      → form_number x ≤ 15 → 1 ≤ child_of x → form_number y ≤ 15 → 1 ≤ child_of y → place x ≡ place y → ⊥
  differ_at true true x y p q e f c g d z = never e
  differ_at true false x y p q e f c g d z =
      let u : child_of x ≡ child_of y = eqb-true (child_of x) (child_of y) p in
      eqb-false (form_number x) (form_number y) q (omega arith)
  differ_at false b x y p q e f c g d z = eqb-false (child_of x) (child_of y) p (omega arith)

  apart : (x : List ℕ) → row_fits_by target rows places facts x ≡ true → (ys : List (List ℕ)) → rows_fit_by target rows places facts ys ≡ true
      → is_repeated (fact_row x) (map fact_row ys) ≡ false → has (place x) (map place ys) ≡ false
  unfolding rows_fit_by is_repeated has
  apart x f [] h e = refl
  apart x f (y ∷ ys) h e =
      let k = fits_known target rows places facts x f in
      let p = both (row_fits_by target rows places facts y) (rows_fit_by target rows places facts ys) h in
      let j = fits_known target rows places facts y p.0 in
      let q = either_false (same x y) (is_repeated (fact_row x) (map fact_row ys)) e in
      rw (ne_eqb (place x) (place y) (λ z. differ_at _ _ x y refl refl q.0 k.0 k.1 j.0 j.1 z)) (apart x f ys p.1 q.1)

  slots : (ys : List (List ℕ)) → none_repeated (map fact_row ys) ≡ true → rows_fit_by target rows places facts ys ≡ true → Below (length places * 16) (map place ys)
  unfolding none_repeated rows_fit_by
  slots [] u h = none
  slots (y ∷ ys) u h =
      let p = both (row_fits_by target rows places facts y) (rows_fit_by target rows places facts ys) h in
      let q = both (not (is_repeated (fact_row y) (map fact_row ys))) (none_repeated (map fact_row ys)) u in
      let k = fits_known target rows places facts y p.0 in
      more {x = place y} (omega (arith, k.0, k.1, k.2)) (apart y p.0 ys p.1 (not-true (is_repeated (fact_row y) (map fact_row ys)) q.0)) (slots ys q.1 p.1)

  -- rows that fit are at most sixteen to a child
  pub few_fit : (ys : List (List ℕ)) → fact_rows_fit target rows places facts ys ≡ true → length ys ≤ length places * 16
  few_fit ys e =
      let p = both (none_repeated (map fact_row ys)) (rows_fit_by target rows places facts ys) e in
      omega (arith, pigeons (length places * 16) (map place ys) (slots ys p.0 p.1), length-map ys place)

  -- with more, they do not
  pub crowd_unfit : (ys : List (List ℕ)) → length places * 16 < length ys → fact_rows_fit target rows places facts ys ≡ false
  crowd_unfit ys h = go (fact_rows_fit target rows places facts ys) refl
    where
      go : (t : Bool) → fact_rows_fit target rows places facts ys ≡ t → t ≡ false
      go true e = absurd (omega (arith, few_fit ys e))
      go false e = refl
