-- Where facts fit their tree, the row of a form whose topmost operator is a merge has one partition.
use Prim.Native.Nat.{ℕ}
use mathlib.Core.Path.{◌≡◌, refl, sym, ap, ◌∙◌}
use mathlib.Core.Bool.{Bool, true, false, cond, ◌&&◌}
use mathlib.Core.Option.{Option, some, none as nothing}
use mathlib.Core.List.{List, [], ◌∷◌}
use lib.Dec.{eqb, leb}
use borrow.Author.Tests.{eqb-true}
use Rattle.keys.proofs.Truths.{true_false, and_first, and_second}
use Rattle.exchange.specs.declared.settings.Settings.{Settings}
use Rattle.exchange.specs.Forms.{Form, form_number}
use Rattle.exchange.specs.Facts.{Row, row_of}
use Rattle.exchange.specs.States.{Child}
use Rattle.exchange.specs.Fit.{child_numbered, count_fits, row_fits_child, row_fits, rows_fit, within_bits}

module _ (s : Settings) (cs : List Child) (n : ℕ) (f : Form) where
  -- the row that is found has that form, and fits
  pub record Found (x : Row) : Type 0 where
    pub form : x.form ≡ form_number f
    pub fits : row_fits s cs x ≡ true

  found : (xs : List Row) (x : Row) → rows_fit s cs xs ≡ true → row_of xs n f ≡ some x → Found x
  unfolding row_of rows_fit
  found [] x h e = absurd (go e)
    where
      go : nothing ≡ some x → ⊥
      go p = cc
  found (y ∷ ys) x h e =
      go (eqb y.child n && eqb y.form (form_number f)) refl e (λ q. found ys x (and_second (row_fits s cs y) (rows_fit s cs ys) h) q)
    where
      go : (b : Bool) → (eqb y.child n && eqb y.form (form_number f)) ≡ b → cond b (some y) (row_of ys n f) ≡ some x
          → (row_of ys n f ≡ some x → Found x) → Found x
      go true t q k =
          let same : y ≡ x = cc in
          record {
            form = ap (λ (z : Row). z.form) (sym same) ∙ eqb-true y.form (form_number f) (and_second (eqb y.child n) (eqb y.form (form_number f)) t);
            fits = ap (λ (z : Row). row_fits s cs z) (sym same) ∙ and_first (row_fits s cs y) (rows_fit s cs ys) h;
          }
      go false t q k = k q

module _ (s : Settings) (cs : List Child) where
  -- form 2, a merge, and form 3, a merge over a split source
  merge_count : (x : Row) (o : Option Child) → row_fits_child s x o ≡ true → (k : ℕ) → x.form ≡ k → (eqb k 2 ≡ true → x.count ≡ 1) × (eqb k 3 ≡ true → x.count ≡ 1)
  merge_count x nothing h k e = absurd (true_false h refl)
  merge_count x (some c) h k e = (two, three)
    where
      fits : count_fits s c x ≡ true
      fits = and_first (count_fits s c x) (within_bits c.facts.entries x.const) h

      two : eqb k 2 ≡ true → x.count ≡ 1
      two q = eqb-true x.count 1 (rw (e ∙ eqb-true k 2 q) at fits)

      three : eqb k 3 ≡ true → x.count ≡ 1
      three q = eqb-true x.count 1 (rw (e ∙ eqb-true k 3 q) at fits)

  fits_child : (x : Row) → row_fits s cs x ≡ true → row_fits_child s x (child_numbered x.child cs) ≡ true
  fits_child x h = and_second (leb x.form 15) (row_fits_child s x (child_numbered x.child cs)) h

  -- a new merge has one partition
  pub merge_one : (xs : List Row) → rows_fit s cs xs ≡ true → (n : ℕ) (f : Form) (x : Row) → row_of xs n f ≡ some x
      → (eqb (form_number f) 2 ≡ true → x.count ≡ 1) × (eqb (form_number f) 3 ≡ true → x.count ≡ 1)
  merge_one xs h n f x e =
      let r : Found s cs n f x = found s cs n f xs x h e in
      merge_count x (child_numbered x.child cs) (fits_child x r.fits) (form_number f) r.form
