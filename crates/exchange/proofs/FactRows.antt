-- An X row looked up by child and form, as a record and as numbers, is the same (`row_found`): the same two numbers are tested in the same order.
-- Assumes nothing.
use mathlib.Core.Path.{◌≡◌, refl, sym, ap, ◌∙◌}
use mathlib.Core.Bool.{Bool, true, false, cond, ◌&&◌}
use mathlib.Core.Option.{Option, none, some}
use mathlib.Core.List.{List, [], ◌∷◌, map}
use Prim.Native.Nat.{ℕ, suc, ◌<◌}
use native.Mathlib.Omega.{arith}
use lib.Dec.{eqb}
use lib.ListN.{length, get_or}
use Rattle.exchange.specs.Forms.{Form, form_number}
use Rattle.exchange.specs.Facts.{Row, row_of}
use Rattle.exchange.specs.Found.{child_of, later, row_for}
use Rattle.exchange.specs.FactRows.{fact_row, row_at}

row_later : (x : List ℕ) (xs : List (List ℕ)) (p : Option ℕ) → row_at xs p ≡ row_at (x ∷ xs) (later p)
row_later x xs none = refl
row_later x xs (some p) = refl

row_turn : (t : Bool) (x : List ℕ) (xs : List (List ℕ)) (p : Option ℕ) (o : Option Row) → o ≡ row_at xs p
    → cond t (some (fact_row x)) o ≡ row_at (x ∷ xs) (cond t (some 0) (later p))
row_turn true x xs p o e = refl
row_turn false x xs p o e = e ∙ row_later x xs p

pub row_found : (xs : List (List ℕ)) (child : ℕ) (f : Form) → row_of (map fact_row xs) child f ≡ row_at xs (row_for xs child (form_number f))
unfolding row_of row_for
row_found [] child f = refl
row_found (x ∷ xs) child f =
    row_turn (eqb (child_of x) child && eqb (get_or x 1 0) (form_number f)) x xs (row_for xs child (form_number f)) _ (row_found xs child f)

-- ---- a row that was found

pub found_in : (xs : List (List ℕ)) (child n p : ℕ) → row_for xs child n ≡ some p → p < length xs
unfolding row_for
found_in [] child n p e = absurd (cc)
found_in (x ∷ xs) child n p e = go (eqb (child_of x) child && eqb (get_or x 1 0) n) (row_for xs child n) e (found_in xs child n)
  where
    go : (t : Bool) (o : Option ℕ) → cond t (some 0) (later o) ≡ some p → ((q : ℕ) → o ≡ some q → q < length xs) → p < length (x ∷ xs)
    go true o e h = let z : 0 ≡ p = cc in omega arith
    go false none e h = absurd (cc)
    go false (some q) e h = let z : suc q ≡ p = cc in omega (arith, h q refl)

module _ (rows : List (List ℕ)) (child : ℕ) (f : Form) where
  pub row_none : none ≡ row_for rows child (form_number f) → row_of (map fact_row rows) child f ≡ none
  row_none e = row_found rows child f ∙ ap (row_at rows) (sym e)

  pub row_placed : (p : ℕ) → some p ≡ row_for rows child (form_number f) → p < length rows
  row_placed p e = found_in rows child (form_number f) p (sym e)

  pub row_some : (p : ℕ) → some p ≡ row_for rows child (form_number f) → row_of (map fact_row rows) child f ≡ some (fact_row (get_or rows p []))
  row_some p e = row_found rows child f ∙ ap (row_at rows) (sym e)
