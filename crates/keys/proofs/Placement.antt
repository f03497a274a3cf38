-- The positions that are searched: where they are found, as many as are expected, and each below the count of pairs. `try_reorder` reports none but where the pairs move.
-- Assumes nothing.
use Prim.Native.Nat.{ℕ, suc}
use mathlib.Core.Path.{◌≡◌, refl, ap, ◌∙◌}
use mathlib.Core.Bool.{Bool}
use mathlib.Core.Option.{Option, none, some}
use mathlib.Core.List.{List, [], ◌∷◌}
use lib.ListN.{length, set}
use Rattle.keys.specs.Lists.{also, and_then, or_else, place_of, take_places, expected_expr_positions}
use Rattle.keys.specs.Reorder.{Rule, rewrite, either_side}
use Rattle.keys.specs.Arrange.{AllBelow}
use Rattle.keys.proofs.Lists.{or_else_below}
use Rattle.keys.proofs.Tries.{either_below}
use Rattle.keys.proofs.Ways.{rewrite_length, searched}

-- as many places as are expected, where they are found
abbrev pub AllLong : ℕ → Option (List ℕ) → Type 0
AllLong n none = Unit {0}
AllLong n (some ps) = length ps ≡ n

also_long : (n p : ℕ) (o : Option (List ℕ)) → AllLong n o → AllLong (suc n) (also p o)
also_long n p none h = tt
also_long n p (some ps) h = ap suc h

or_else_long : (n : ℕ) (a b : Option (List ℕ)) → AllLong n a → AllLong n b → AllLong n (or_else a b)
or_else_long n none b h k = k
or_else_long n (some ps) b h k = h

module _ {A : Type 0} (same : A → A → Bool) (gone : A) where
  take_long : (expected current : List A) → AllLong (length expected) (take_places same gone current expected)
  take_long [] current = refl
  take_long (x ∷ xs) current = go (place_of same x current) (λ p. take_long xs (set current p gone))
    where
      go :
          (o : Option ℕ) → ((p : ℕ) → AllLong (length xs) (take_places same gone (set current p gone) xs)) →
          AllLong (suc (length xs)) (and_then o (λ p. take_places same gone (set current p gone) xs))
      go none h = tt
      go (some p) h = also_long (length xs) p (take_places same gone (set current p gone) xs) (h p)

  positions_long : (current expected : List A) → AllLong (length expected) (expected_expr_positions same gone current expected)
  positions_long [] ys = tt
  positions_long (x ∷ xs) [] = tt
  positions_long (x ∷ xs) (y ∷ ys) = take_long (y ∷ ys) (x ∷ xs)

  either_long : (r l g : List A) → AllLong (length r) (either_side same gone r l g)
  either_long r l g = or_else_long (length r) (expected_expr_positions same gone l r) (expected_expr_positions same gone g r) (positions_long l r) (positions_long g r)

  module _ (w : List (Rule A)) (r l g : List A) (n : length g ≡ length l) where
    pub searched_long : AllLong (length r) (searched same gone w r l g)
    searched_long =
        or_else_long (length r) (either_side same gone r l g) (either_side same gone (rewrite same w r) (rewrite same w l) (rewrite same w g))
        (either_long r l g) (rw (rewrite_length same w r) at (either_long (rewrite same w r) (rewrite same w l) (rewrite same w g)))

    pub searched_below : AllBelow (length l) (searched same gone w r l g)
    searched_below =
        or_else_below (length l) (either_side same gone r l g) (either_side same gone (rewrite same w r) (rewrite same w l) (rewrite same w g))
        (either_below same gone (length l) r l g refl n)
        (either_below same gone (length l) (rewrite same w r) (rewrite same w l) (rewrite same w g) (rewrite_length same w l) (rewrite_length same w g ∙ n))
