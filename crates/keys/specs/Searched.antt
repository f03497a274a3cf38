-- The second half of `try_reorder` of 000, for the contracts of private functions: the keys as they stand do not meet the requirement.
use Rattle.std.specs.Prelude.{Bool, cond, List}
use Rattle.keys.specs.Lists.{or_else}
use Rattle.keys.specs.Reorder.{Rule, Tried, met, moved_by, rewrite, meets, either_side}

module _ {A : Type 0} (same : A → A → Bool) (gone : A) where
  -- the rewritten keys meet it, or the search decides
  abbrev pub searched : List A → List A → List A → List A → List A → List A → Tried A
  searched r l g r' l' g' = cond (meets same r' l' g') (met l g) (moved_by gone l g (or_else (either_side same gone r l g) (either_side same gone r' l' g')))

  abbrev pub searched_by : List (Rule A) → List A → List A → List A → Tried A
  searched_by w r l g = searched r l g (rewrite same w r) (rewrite same w l) (rewrite same w g)
