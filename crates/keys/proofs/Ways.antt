-- The ways to an answer of `try_reorder`, each with the tests that lead there; and that what is found fits a side.
use Prim.Native.Nat.{ℕ}
use mathlib.Core.Path.{◌≡◌, refl, sym, ◌∙◌}
use mathlib.Core.Bool.{Bool, true, false, cond, ◌||◌}
use mathlib.Core.Option.{Option, none, some}
use mathlib.Core.List.{List}
use borrow.Author.Tests.{eqb-true, eqb-false}
use lib.Dec.{eqb}
use lib.ListN.{length, length-map}
use Rattle.keys.specs.Lists.{expected_expr_positions, or_else}
use Rattle.keys.specs.Reorder.{Rule, Tried, met, moved_by, rewrite_one, rewrite, meets, either_side, try_reorder}
use Rattle.keys.specs.Arrange.{Arrangement, Lacks, FitsSide, left, right, left_rewritten, right_rewritten}
use Rattle.keys.proofs.Exact.{fits_length, positions_fit}

module _ {A : Type 0} (same : A → A → Bool) (w : List (Rule A)) where
  pub rewrite_length : (xs : List A) → length (rewrite same w xs) ≡ length xs
  rewrite_length xs = length-map xs (rewrite_one same w)

  -- the requirement is a side, both raw or both rewritten
  abbrev pub meets_either : List A → List A → List A → Bool
  meets_either r l g = meets same r l g || meets same (rewrite same w r) (rewrite same w l) (rewrite same w g)

module _ {A : Type 0} (same : A → A → Bool) (gone : A) (w : List (Rule A)) (r l g : List A) where
  -- the four searches, in turn
  abbrev pub searched : Option (List ℕ)
  searched = or_else (either_side same gone r l g) (either_side same gone (rewrite same w r) (rewrite same w l) (rewrite same w g))

  pub data Way : Tried A → Type 0 where
    unequal : (length l ≡ length r → ⊥) → Way (moved_by gone l g none)
    meeting : length l ≡ length r → meets_either same w r l g ≡ true → Way (met l g)
    moving : length l ≡ length r → (ps : List ℕ) → searched ≡ some ps → Way (moved_by gone l g (some ps))
    missing : length l ≡ length r → meets_either same w r l g ≡ false → searched ≡ none → Way (moved_by gone l g none)

  pub way : Way (try_reorder same gone w r l g)
  unfolding try_reorder
  way = tests (eqb (length l) (length r)) refl (meets_either same w r l g) refl searched refl
    where
      tests :
          (z : Bool) → eqb (length l) (length r) ≡ z → (m : Bool) → meets_either same w r l g ≡ m → (o : Option (List ℕ)) → searched ≡ o →
          Way (cond z (cond m (met l g) (moved_by gone l g o)) (moved_by gone l g none))
      tests false z m p o q = unequal (eqb-false (length l) (length r) z)
      tests true z true p o q = meeting (eqb-true (length l) (length r) z) p
      tests true z false p none q = missing (eqb-true (length l) (length r) z) p q
      tests true z false p (some ps) q = moving (eqb-true (length l) (length r) z) ps q

  module _ (n : length l ≡ length g) where
    -- a side that fits has the requirement's length
    pub side_length : (ps : List ℕ) → FitsSide same gone w r l g ps → length l ≡ length r
    side_length ps (left f) = fits_length same gone l r ps f
    side_length ps (right f) = n ∙ fits_length same gone g r ps f
    side_length ps (left_rewritten f) =
        sym (rewrite_length same w l) ∙ fits_length same gone (rewrite same w l) (rewrite same w r) ps f ∙ rewrite_length same w r
    side_length ps (right_rewritten f) =
        n ∙ sym (rewrite_length same w g) ∙ fits_length same gone (rewrite same w g) (rewrite same w r) ps f ∙ rewrite_length same w r

    pub side_arranges : (ps : List ℕ) → FitsSide same gone w r l g ps → Arrangement (length l) ps
    side_arranges ps (left f) = f.arrangement
    side_arranges ps (right f) = rw n f.arrangement
    side_arranges ps (left_rewritten f) = rw (rewrite_length same w l) at f.arrangement
    side_arranges ps (right_rewritten f) = rw n (rw (rewrite_length same w g) at f.arrangement)

    pub found_fits :
        length l ≡ length r → Lacks same gone r → Lacks same gone (rewrite same w r) →
        (ps : List ℕ) → searched ≡ some ps → FitsSide same gone w r l g ps
    found_fits z clean clean' ps k =
        go (expected_expr_positions same gone l r) refl (expected_expr_positions same gone g r) refl
        (expected_expr_positions same gone (rewrite same w l) (rewrite same w r)) refl
        (expected_expr_positions same gone (rewrite same w g) (rewrite same w r)) refl k
      where
        go :
            (a : Option (List ℕ)) → expected_expr_positions same gone l r ≡ a →
            (b : Option (List ℕ)) → expected_expr_positions same gone g r ≡ b →
            (d : Option (List ℕ)) → expected_expr_positions same gone (rewrite same w l) (rewrite same w r) ≡ d →
            (e : Option (List ℕ)) → expected_expr_positions same gone (rewrite same w g) (rewrite same w r) ≡ e →
            or_else (or_else a b) (or_else d e) ≡ some ps → FitsSide same gone w r l g ps
        go (some qs) p b q d s e t k = left (positions_fit same gone l r ps z clean (p ∙ k))
        go none p (some qs) q d s e t k = right (positions_fit same gone g r ps (sym n ∙ z) clean (q ∙ k))
        go none p none q (some qs) s e t k =
            left_rewritten (positions_fit same gone (rewrite same w l) (rewrite same w r) ps
            (rewrite_length same w l ∙ z ∙ sym (rewrite_length same w r)) clean' (s ∙ k))
        go none p none q none s e t k =
            right_rewritten (positions_fit same gone (rewrite same w g) (rewrite same w r) ps
            (rewrite_length same w g ∙ sym n ∙ z ∙ sym (rewrite_length same w r)) clean' (t ∙ k))
