-- The reports of `try_reorder` are right, for lists of every length:
--     moved_fits         moved: the positions are an arrangement that fits a side (any equality, no placeholder required)
--     met_fits           met: the keys in their own order fit a side (any equivalence)
--     impossible_none    impossible: no arrangement fits a side (any equivalence)
--     none_impossible    no arrangement fits a side: impossible (any equivalence, no placeholder required)
use Prim.Native.Nat.{ℕ, ◌<◌}
use mathlib.Core.Path.{◌≡◌, refl, sym, ◌∙◌}
use mathlib.Core.Bool.{Bool, true, false}
use mathlib.Core.Option.{none}
use mathlib.Core.List.{List, [], ◌∷◌}
use mathlib.Core.Logic.{⊎_elim}
use native.Mathlib.Omega.{arith}
use lib.ListN.{length}
use Rattle.std.proofs.lemmas.Bool.{or_left, or_cases}
use Rattle.keys.specs.Lists.{same_list, expected_expr_positions}
use Rattle.keys.specs.Reorder.{Rule, Tried, rewrite, meets, either_side, try_reorder}
use Rattle.keys.specs.Arrange.{Equivalence, Lacks, Fits, FitsSide, left, right, left_rewritten, right_rewritten}
use Rattle.keys.specs.Kept.{up_from}
use Rattle.keys.proofs.Truths.{true_false, neither_first, or_none_first, or_none_second}
use Rattle.keys.proofs.Exact.{positions_exact}
use Rattle.keys.proofs.OwnOrder.{own_order_fits, same_list_sym}
use Rattle.keys.proofs.Ways.{rewrite_length, meets_either, Way, unequal, meeting, moving, missing, way, side_length, found_fits}

both_empty : {A : Type 0} (same : A → A → Bool) (xs ys : List A) → length xs ≡ 0 → length ys ≡ 0 → same_list same xs ys ≡ true
both_empty same [] [] p q = refl
both_empty same [] (y ∷ ys) p q = absurd (omega arith)
both_empty same (x ∷ xs) ys p q = absurd (omega arith)

module _ {A : Type 0} (same : A → A → Bool) (gone : A) (w : List (Rule A)) where
  -- two sides of which one is the requirement fit in their own order
  pub meets_fits :
      Equivalence same → (r l g : List A) → length l ≡ length g → meets_either same w r l g ≡ true →
      FitsSide same gone w r l g (up_from 0 (length l))
  meets_fits eq r l g n m =
      ⊎_elim
      (λ a. ⊎_elim (λ s. left (fit l r refl s)) (λ s. right (fit g r (sym n) s)) (or_cases (same_list same r l) (same_list same r g) a))
      (λ a. ⊎_elim (λ s. left_rewritten (fit (new l) (new r) (rewrite_length same w l) s))
      (λ s. right_rewritten (fit (new g) (new r) (rewrite_length same w g ∙ sym n) s))
      (or_cases (same_list same (new r) (new l)) (same_list same (new r) (new g)) a))
      (or_cases (meets same r l g) (meets same (new r) (new l) (new g)) m)
    where
      new : List A → List A
      new xs = rewrite same w xs

      fit : (x y : List A) → length x ≡ length l → same_list same y x ≡ true → Fits same gone x y (up_from 0 (length l))
      fit x y z s = own_order_fits same gone x y (length l) z (same_list_sym same eq y x s)

  module _ (r l g : List A) (n : length l ≡ length g) where
    pub met_fits : Equivalence same → (try_reorder same gone w r l g).report ≡ 1 → FitsSide same gone w r l g (up_from 0 (length l))
    met_fits eq e = go (try_reorder same gone w r l g) (way same gone w r l g) e
      where
        go : (t : Tried A) → Way same gone w r l g t → t.report ≡ 1 → FitsSide same gone w r l g (up_from 0 (length l))
        go t (unequal u) e = absurd (omega arith)
        go t (meeting z m) e = meets_fits eq r l g n m
        go t (moving z qs o) e = absurd (omega arith)
        go t (missing z m o) e = absurd (omega arith)

    pub impossible_none : Equivalence same → (try_reorder same gone w r l g).report ≡ 3 → (ps : List ℕ) → FitsSide same gone w r l g ps → ⊥
    impossible_none eq e ps f = go (try_reorder same gone w r l g) (way same gone w r l g) e
      where
        new : List A → List A
        new xs = rewrite same w xs

        nowhere :
            0 < length r → either_side same gone r l g ≡ none → either_side same gone (new r) (new l) (new g) ≡ none →
            FitsSide same gone w r l g ps → ⊥
        nowhere h a b (left f) =
            positions_exact same gone eq l r h (or_none_first (expected_expr_positions same gone l r) (expected_expr_positions same gone g r) a) ps f
        nowhere h a b (right f) =
            positions_exact same gone eq g r h (or_none_second (expected_expr_positions same gone l r) (expected_expr_positions same gone g r) a) ps f
        nowhere h a b (left_rewritten f) =
            positions_exact same gone eq (new l) (new r) (rw (rewrite_length same w r) h)
            (or_none_first (expected_expr_positions same gone (new l) (new r)) (expected_expr_positions same gone (new g) (new r)) b) ps f
        nowhere h a b (right_rewritten f) =
            positions_exact same gone eq (new g) (new r) (rw (rewrite_length same w r) h)
            (or_none_second (expected_expr_positions same gone (new l) (new r)) (expected_expr_positions same gone (new g) (new r)) b) ps f

        filled : length l ≡ length r → meets_either same w r l g ≡ false → 0 < length r
        filled z m =
            let some : length r ≡ 0 → ⊥ = λ k. true_false
            (or_left (same_list same r l) (same_list same r g) (both_empty same r l k (z ∙ k)))
            (neither_first (meets same r l g) (meets same (new r) (new l) (new g)) m) in
            omega arith

        go : (t : Tried A) → Way same gone w r l g t → t.report ≡ 3 → ⊥
        go t (unequal u) e = u (side_length same gone w r l g n ps f)
        go t (meeting z m) e = omega arith
        go t (moving z qs o) e = omega arith
        go t (missing z m o) e =
            nowhere (filled z m)
            (or_none_first (either_side same gone r l g) (either_side same gone (new r) (new l) (new g)) o)
            (or_none_second (either_side same gone r l g) (either_side same gone (new r) (new l) (new g)) o) f

    module _ (clean : Lacks same gone r) (clean' : Lacks same gone (rewrite same w r)) where
      pub moved_fits : (try_reorder same gone w r l g).report ≡ 2 → FitsSide same gone w r l g (try_reorder same gone w r l g).positions
      moved_fits e = go (try_reorder same gone w r l g) (way same gone w r l g) e
        where
          go : (t : Tried A) → Way same gone w r l g t → t.report ≡ 2 → FitsSide same gone w r l g t.positions
          go t (unequal u) e = absurd (omega arith)
          go t (meeting z m) e = absurd (omega arith)
          go t (moving z ps o) e = found_fits same gone w r l g n z clean clean' ps o
          go t (missing z m o) e = absurd (omega arith)

      pub none_impossible : Equivalence same → ((ps : List ℕ) → FitsSide same gone w r l g ps → ⊥) → (try_reorder same gone w r l g).report ≡ 3
      none_impossible eq h = go (try_reorder same gone w r l g) (way same gone w r l g)
        where
          go : (t : Tried A) → Way same gone w r l g t → t.report ≡ 3
          go t (unequal u) = refl
          go t (meeting z m) = absurd (h (up_from 0 (length l)) (meets_fits eq r l g n m))
          go t (moving z ps o) = absurd (h ps (found_fits same gone w r l g n z clean clean' ps o))
          go t (missing z m o) = refl
