-- What `try_reorder` answers, asked of it again; carried by the fact that moved keys meet the requirement.
--     comes_out   met or moved: one side fits as it comes out
--     again       the second answer is impossible where the first was, else met, with the first one's keys
use Prim.Native.Nat.{ℕ}
use mathlib.Core.Path.{◌≡◌, refl, sym, ◌∙◌}
use mathlib.Core.Bool.{Bool, true, cond}
use mathlib.Core.Option.{some}
use mathlib.Core.List.{List, [], ◌∷◌}
use native.Mathlib.Omega.{arith}
use borrow.Author.Tests.{eq-eqb}
use lib.Dec.{eqb}
use lib.ListN.{length, get_or, length-map, get_or-map}
use Rattle.std.proofs.lemmas.List.{get_or_default}
use Rattle.std.proofs.lemmas.Bool.{or_left, or_right}
use Rattle.keys.specs.Lists.{same_list, permute}
use Rattle.keys.specs.Reorder.{Rule, Tried, met, moved_by, rewrite_one, rewrite, meets, try_reorder}
use Rattle.keys.specs.Arrange.{Below, Equivalence, Lacks, FitsSide, left, right, left_rewritten, right_rewritten}
use Rattle.keys.specs.Kept.{up_from}
use Rattle.keys.proofs.OwnOrder.{same_list_sym}
use Rattle.keys.proofs.Ways.{rewrite_length, meets_either, Way, unequal, meeting, moving, missing, way, side_arranges, found_fits}
use Rattle.keys.proofs.Decided.{meets_fits}

-- an answer that is asked of its own keys
abbrev pub settled : {A : Type 0} → Tried A → Tried A
settled t = record { report = cond (eqb t.report 3) 3 1; positions = []; left = t.left; right = t.right }

module _ {A : Type 0} (same : A → A → Bool) (gone : A) (w : List (Rule A)) where
  -- rewriting what was permuted is permuting what was rewritten
  rewrite_permute : (xs : List A) (ps : List ℕ) → Below (length xs) ps → rewrite same w (permute gone xs ps) ≡ permute gone (rewrite same w xs) ps
  rewrite_permute xs [] b = refl
  rewrite_permute xs (p ∷ ps) b =
      let h : rewrite_one same w (get_or xs p gone) ≡ get_or (rewrite same w xs) p gone
      = sym (get_or-map (rewrite_one same w) xs p gone)
      ∙ get_or_default (rewrite same w xs) p (rewrite_one same w gone) gone (rw (rewrite_length same w xs) b.0) in
      rw (h, rewrite_permute xs ps b.1)

  -- two sides of which one meets the requirement, raw or rewritten
  record Meeting (r l g : List A) : Type 0 where
    required : length l ≡ length r
    even : length l ≡ length g
    meets : meets_either same w r l g ≡ true

  now_met : (r l g : List A) → Meeting r l g → try_reorder same gone w r l g ≡ met l g
  unfolding try_reorder
  now_met r l g m = rw (eq-eqb (length l) (length r) m.required, m.meets)

  module _ (eq : Equivalence same) (r l g : List A) (n : length l ≡ length g) where
    side_meets : (ps : List ℕ) → FitsSide same gone w r l g ps → meets_either same w r (permute gone l ps) (permute gone g ps) ≡ true
    side_meets ps f = go f
      where
        new : List A → List A
        new xs = rewrite same w xs

        l' : List A
        l' = permute gone l ps

        g' : List A
        g' = permute gone g ps

        go : FitsSide same gone w r l g ps → meets_either same w r l' g' ≡ true
        go (left f) =
            or_left (meets same r l' g') (meets same (new r) (new l') (new g'))
            (or_left (same_list same r l') (same_list same r g') (same_list_sym same eq l' r f.equal))
        go (right f) =
            or_left (meets same r l' g') (meets same (new r) (new l') (new g'))
            (or_right (same_list same r l') (same_list same r g') (same_list_sym same eq g' r f.equal))
        go (left_rewritten f) =
            or_right (meets same r l' g') (meets same (new r) (new l') (new g'))
            (or_left (same_list same (new r) (new l')) (same_list same (new r) (new g'))
            (rw (rewrite_permute l ps (rw (rewrite_length same w l) at f.arrangement.within)) (same_list_sym same eq (permute gone (new l) ps) (new r) f.equal)))
        go (right_rewritten f) =
            or_right (meets same r l' g') (meets same (new r) (new l') (new g'))
            (or_right (same_list same (new r) (new l')) (same_list same (new r) (new g'))
            (rw (rewrite_permute g ps (rw (rewrite_length same w g) at f.arrangement.within)) (same_list_sym same eq (permute gone (new g) ps) (new r) f.equal)))

    module _ (clean : Lacks same gone r) (clean' : Lacks same gone (rewrite same w r)) where
      out_meets : (t : Tried A) → Way same gone w r l g t → (t.report ≡ 3 → ⊥) → Meeting r t.left t.right
      out_meets t (unequal u) e = absurd (e refl)
      out_meets t (meeting z m) e = record { required = z; even = n; meets = m }
      out_meets t (moving z ps o) e =
          let f : FitsSide same gone w r l g ps = found_fits same gone w r l g n z clean clean' ps o in
          record {
            required = length-map ps (λ p. get_or l p gone) ∙ (side_arranges same gone w r l g n ps f).long ∙ z;
            even = length-map ps (λ p. get_or l p gone) ∙ sym (length-map ps (λ p. get_or g p gone));
            meets = side_meets ps f;
          }
      out_meets t (missing z m o) e = absurd (e refl)

      pub comes_out :
          ((try_reorder same gone w r l g).report ≡ 3 → ⊥) →
          FitsSide same gone w r (try_reorder same gone w r l g).left (try_reorder same gone w r l g).right (up_from 0 (length (try_reorder same gone w r l g).left))
      comes_out e =
          let m : Meeting r (try_reorder same gone w r l g).left (try_reorder same gone w r l g).right
          = out_meets (try_reorder same gone w r l g) (way same gone w r l g) e in
          meets_fits same gone w eq r (try_reorder same gone w r l g).left (try_reorder same gone w r l g).right m.even m.meets

      pub again : (t : Tried A) → try_reorder same gone w r l g ≡ t → try_reorder same gone w r t.left t.right ≡ settled t
      again t e = go t (rw e at (way same gone w r l g)) e
        where
          go : (t : Tried A) → Way same gone w r l g t → try_reorder same gone w r l g ≡ t → try_reorder same gone w r t.left t.right ≡ settled t
          go t (unequal u) e = e
          go t (meeting z m) e = e
          go t (missing z m o) e = e
          go t (moving z ps o) e =
              now_met r (permute gone l ps) (permute gone g ps)
              (out_meets (moved_by gone l g (some ps)) (moving z ps o) (λ k. absurd (omega arith)))
