-- The pairs of a join, as `try_reorder` moves them and `directions_of` their directions: what holds on K and I sheets alike.
use Prim.Native.Nat.{ℕ, ◌≤◌}
use mathlib.Core.Path.{◌≡◌, refl, ap}
use mathlib.Core.Bool.{Bool}
use mathlib.Core.List.{List, []}
use mathlib.Core.Logic.{◌⊎◌, inl, inr, ◌↔◌}
use native.Mathlib.Omega.{arith}
use lib.ListN.{length}
use lib.Seq.{take_all}
use Rattle.keys.specs.Lists.{permute}
use Rattle.keys.specs.Reorder.{Rule, Tried, try_reorder}
use Rattle.keys.specs.Expressions.{Expression, placeholder}
use Rattle.keys.specs.Arrange.{Arrangement, Equivalence, Lacks}
use Rattle.keys.specs.Adjust.{moved_directions, directions_of}
use Rattle.keys.specs.Kept.{Pairs, PairsKept, LacksPlaceholder, LacksRules, NothingFits, ComesOutFitting}
use Rattle.keys.proofs.Ways.{Way, unequal, meeting, moving, missing, way, side_arranges, found_fits}
use Rattle.keys.proofs.Decided.{met_fits, moved_fits, impossible_none, none_impossible}
use Rattle.keys.proofs.Again.{comes_out}
use Rattle.keys.proofs.Equalities.{rewrite_lacks}

-- it suffices that neither the required list nor a rule's right side is the placeholder
pub lacks_placeholder :
    (same : Expression → Expression → Bool) (w : List (Rule Expression)) (r : List Expression) →
    LacksRules same placeholder w → Lacks same placeholder r → LacksPlaceholder same w r
lacks_placeholder same w r h k = record { raw = k; rewritten = rewrite_lacks same placeholder w r h k }

abbrev pub tried_pairs : Pairs → Tried Expression → Pairs
tried_pairs p t = record { left = t.left; right = t.right; directions = directions_of p.directions t }

no_directions : (s : List ℕ) (ps : List ℕ) → s ≡ [] → moved_directions s ps ≡ []
no_directions s ps e = rw e

all_directions : (s : List ℕ) (ps : List ℕ) → length ps ≤ length s → moved_directions s ps ≡ permute 0 s ps
all_directions s ps h = ap (permute 0 s) (take_all (length s) ps h)

module _ (same : Expression → Expression → Bool) (w : List (Rule Expression)) (r : List Expression) (p : Pairs) where
  abbrev pub tried : Tried Expression
  tried = try_reorder same placeholder w r p.left p.right

  module _ (even : length p.left ≡ length p.right) where
    pub tried_kept : LacksPlaceholder same w r → PairsKept p (tried_pairs p tried) tried.report tried.positions
    tried_kept clean = go tried (way same placeholder w r p.left p.right)
      where
        go : (t : Tried Expression) → Way same placeholder w r p.left p.right t → PairsKept p (tried_pairs p t) t.report t.positions
        go t (unequal u) = record { moved = λ e. absurd (omega arith); stood = λ h. (refl, refl) }
        go t (meeting z m) = record { moved = λ e. absurd (omega arith); stood = λ h. (refl, refl) }
        go t (missing z m o) = record { moved = λ e. absurd (omega arith); stood = λ h. (refl, refl) }
        go t (moving z ps o) =
            let a : Arrangement (length p.left) ps
            = side_arranges same placeholder w r p.left p.right even ps
            (found_fits same placeholder w r p.left p.right even z clean.raw clean.rewritten ps o) in
            record {
              moved = λ e. record {
                arrangement = a;
                left = refl;
                right = refl;
                directed = λ n. all_directions p.directions ps (omega (arith, a.long));
                undirected = no_directions p.directions ps;
              };
              stood = λ h. absurd (h refl);
            }

    module _ (eq : Equivalence same) (clean : LacksPlaceholder same w r) where
      pub tried_exact : (tried.report ≡ 3) ↔ NothingFits same w r p
      tried_exact = (
        impossible_none same placeholder w r p.left p.right even eq,
        none_impossible same placeholder w r p.left p.right even clean.raw clean.rewritten eq,
      )

      met_or_moved : (t : Tried Expression) → Way same placeholder w r p.left p.right t → (t.report ≡ 3 → ⊥) → (t.report ≡ 1) ⊎ (t.report ≡ 2)
      met_or_moved t (unequal u) h = absurd (h refl)
      met_or_moved t (meeting z m) h = inl refl
      met_or_moved t (moving z ps o) h = inr refl
      met_or_moved t (missing z m o) h = absurd (h refl)

      pub tried_fits : (tried.report ≡ 3 → ⊥) → ComesOutFitting same w r p (tried_pairs p tried) tried.report tried.positions
      tried_fits h = record {
        either = met_or_moved tried (way same placeholder w r p.left p.right) h;
        met = met_fits same placeholder w r p.left p.right even eq;
        moved = moved_fits same placeholder w r p.left p.right even clean.raw clean.rewritten;
        out = comes_out same placeholder w eq r p.left p.right even clean.raw clean.rewritten h;
      }
