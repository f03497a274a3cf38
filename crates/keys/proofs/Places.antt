-- What `position` gives on keys or names, as the leftmost place of one.
-- Assumes nothing.
use Prim.Native.Nat.{ℕ, zero, ◌+◌}
use mathlib.Core.Path.{◌≡◌, refl, ap, sym, ◌∙◌}
use mathlib.Core.Bool.{Bool, true, false, cond}
use mathlib.Core.Option as maybe
use mathlib.Core.Option.{some}
use mathlib.Core.List.{List, [], ◌∷◌, map}
use native.Mathlib.Nat.{add-zero}
use lib.Dec.{eqb}
use Rattle.std.specs.Prelude.{Some, position}
use Rattle.std.specs.List.{position_from}
use Rattle.std.proofs.lemmas.Iterator.Adapters.{position_from-zero}
use Rattle.keys.specs.Lists.{next, place_of}
use Rattle.keys.specs.Values.{found}
use Rattle.keys.proofs.Lists.{from, from_zero, from_next}

module _ {A : Type 0} (number : A → ℕ) (key : ℕ) where
  abbrev passes : A → Bool
  passes x = eqb (number x) key

  found_from : (i : ℕ) (xs : List A) → found (position_from passes i xs) ≡ from i (place_of eqb key (map number xs))
  found_from i [] = refl
  found_from i (x ∷ xs) = go (passes x) (found_from (i + 1) xs)
    where
      go :
          (b : Bool) → found (position_from passes (i + 1) xs) ≡ from (i + 1) (place_of eqb key (map number xs)) →
          found (cond b (Some i) (position_from passes (i + 1) xs)) ≡ from i (cond b (some zero) (next (place_of eqb key (map number xs))))
      go true e = ap {B = maybe.Option ℕ} some (sym (add-zero i))
      go false e = e ∙ sym (from_next i (place_of eqb key (map number xs)))

  pub found_position : (xs : List A) → found (position passes xs) ≡ place_of eqb key (map number xs)
  found_position xs = ap found (position_from-zero passes xs) ∙ found_from 0 xs ∙ from_zero (place_of eqb key (map number xs))
