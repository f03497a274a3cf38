-- A search among two lists, one behind the other, is one among the first and, where that finds nothing, one among the second.
-- Assumes nothing.
use Prim.Native.Nat.{ℕ, suc, zero, ◌+◌}
use mathlib.Core.Path.{◌≡◌, refl, ap, sym, ◌∙◌}
use mathlib.Core.Bool.{Bool, true, false, cond}
use mathlib.Core.Option.{Option, none, some}
use mathlib.Core.List.{List, [], ◌∷◌, ◌++◌}
use native.Mathlib.Omega.{arith}
use lib.Dec.{eqb}
use lib.ListN.{length}
use Rattle.keys.specs.Lists.{next, place_of}
use Rattle.keys.proofs.Lists.{from, from_zero}

abbrev first_of : ℕ → Option ℕ → Option ℕ → Option ℕ
first_of n none b = from n b
first_of n (some p) b = some p

first_next : (n : ℕ) (a b : Option ℕ) → next (first_of n a b) ≡ first_of (suc n) (next a) b
first_next n none none = refl
first_next n none (some p) = ap {B = Option ℕ} some (omega arith)
first_next n (some q) b = refl

place_append : (x : ℕ) (xs ys : List ℕ) → place_of eqb x (xs ++ ys) ≡ first_of (length xs) (place_of eqb x xs) (place_of eqb x ys)
place_append x [] ys = sym (from_zero (place_of eqb x ys))
place_append x (c ∷ cs) ys = go (eqb c x) (place_append x cs ys)
  where
    go :
        (b : Bool) → place_of eqb x (cs ++ ys) ≡ first_of (length cs) (place_of eqb x cs) (place_of eqb x ys) →
        cond b (some zero) (next (place_of eqb x (cs ++ ys))) ≡ first_of (suc (length cs)) (cond b (some zero) (next (place_of eqb x cs))) (place_of eqb x ys)
    go true e = refl
    go false e = ap next e ∙ first_next (length cs) (place_of eqb x cs) (place_of eqb x ys)

module _ (x : ℕ) (xs ys : List ℕ) where
  pub place_first : (p : ℕ) → place_of eqb x xs ≡ some p → some p ≡ place_of eqb x (xs ++ ys)
  place_first p e = sym (place_append x xs ys ∙ rw e)

  pub place_second : (p : ℕ) → place_of eqb x xs ≡ none → place_of eqb x ys ≡ some p → some (length xs + p) ≡ place_of eqb x (xs ++ ys)
  place_second p e f = sym (place_append x xs ys ∙ rw (e, f))

  pub place_neither : place_of eqb x xs ≡ none → place_of eqb x ys ≡ none → none ≡ place_of eqb x (xs ++ ys)
  place_neither e f = sym (place_append x xs ys ∙ rw (e, f))
