-- What the answers of the search come to, case by case, for any type of keys.
-- Assumes nothing.
use Prim.Native.Nat.{ℕ, ◌+◌, ◌<◌}
use mathlib.Core.Path.{◌≡◌, refl, ap}
use mathlib.Core.Bool.{Bool, true, false}
use mathlib.Core.Option.{Option, none, some}
use mathlib.Core.List.{List, [], ◌∷◌}
use native.Mathlib.Numerals.{add-one}
use borrow.Author.Tests.{eq-eqb, ne_eqb}
use lib.ListN.{length, get_or, drop}
use lib.Seq.{drop-cons}
use Rattle.keys.specs.Lists.{expected_expr_positions, or_else}
use Rattle.keys.specs.Reorder.{Rule, met, moved_by, rewrite_one, rewrite, meets, either_side, try_reorder}
use Rattle.keys.specs.Searched.{searched_by}
use Rattle.keys.specs.Arrange.{AllBelow}
use Rattle.keys.proofs.Lists.{or_else_below, positions_below}

or_same : (a : Option (List ℕ)) → or_else a a ≡ a
or_same none = refl
or_same (some ps) = refl

module _ {A : Type 0} (same : A → A → Bool) where
  -- the first rule that fits, from the rule at i on
  module _ (ws : List (Rule A)) (e : A) (i : ℕ) (d : Rule A) where
    pub rule_fits : i < length ws → same (get_or ws i d).from e ≡ true → rewrite_one same (drop i ws) e ≡ (get_or ws i d).to
    rule_fits h k = rw (drop-cons ws i d h, k)

    pub rule_passes : i < length ws → same (get_or ws i d).from e ≡ false → rewrite_one same (drop i ws) e ≡ rewrite_one same (drop (i + 1) ws) e
    rule_passes h k = rw (add-one, drop-cons ws i d h, k)

  no_rules : (es : List A) → rewrite same [] es ≡ es
  no_rules [] = refl
  no_rules (e ∷ es) = ap (λ (r : List A). e ∷ r) (no_rules es)

module _ {A : Type 0} (same : A → A → Bool) (gone : A) where
  pub either_below : (n : ℕ) (r l g : List A) → length l ≡ n → length g ≡ n → AllBelow n (either_side same gone r l g)
  either_below n r l g p q =
      or_else_below n (expected_expr_positions same gone l r) (expected_expr_positions same gone g r)
      (rw p at (positions_below same gone l r)) (rw q at (positions_below same gone g r))

  module _ (w : List (Rule A)) (r l g : List A) where
    pub try_unequal : (length l ≡ length r → ⊥) → moved_by gone l g none ≡ try_reorder same gone w r l g
    unfolding try_reorder
    try_unequal h = rw (ne_eqb _ _ h)

    module _ (e : length l ≡ length r) where
      pub try_met : meets same r l g ≡ true → met l g ≡ try_reorder same gone w r l g
      unfolding try_reorder
      try_met m = rw (eq-eqb _ _ e, m)

      pub try_searched : meets same r l g ≡ false → searched_by same gone w r l g ≡ try_reorder same gone w r l g
      unfolding try_reorder
      try_searched m = rw (eq-eqb _ _ e, m)

  -- with no rules nothing more is tried
  pub try_raw :
      (r l g : List A) → length l ≡ length r → meets same r l g ≡ false →
      moved_by gone l g (either_side same gone r l g) ≡ try_reorder same gone [] r l g
  try_raw r l g e m =
      rw (← try_searched [] r l g e m, no_rules same r, no_rules same l, no_rules same g, m, or_same (either_side same gone r l g))
