-- An order that is tried keeps the sizes of lists and numbers: positions are places of a side, moved keys and directions are entries of the sheet.
use mathlib.Core.Path.{subst}
use Prim.Native.Nat.{ℕ, suc, ◌+◌, ◌≤◌}
use native.Mathlib.Omega.{arith}
use mathlib.Core.List.{List, [], ◌∷◌}
use mathlib.Core.Bool.{Bool}
use mathlib.Core.Option.{Option, none, some}
use lib.Dec.{eqb}
use lib.ListN.{length, take, set, length-take}
use Rattle.keys.specs.Lists.{also, and_then, place_of, take_places, expected_expr_positions, or_else}
use Rattle.keys.specs.Reorder.{Rule, Tried, rewrite, either_side, try_reorder}
use Rattle.keys.specs.Arrange.{Below, AllBelow}
use Rattle.keys.specs.Expressions.{Expression, placeholder}
use Rattle.keys.specs.Adjust.{directions_of}
use Rattle.keys.proofs.Truths.{by_test}
use Rattle.keys.proofs.Lists.{positions_below}
use Rattle.keys.proofs.Ways.{Way, unequal, meeting, moving, missing, way, rewrite_length, searched}
use Rattle.sheet.specs.Sizes.{Each, Within, NumberList, ExprList}
use Rattle.sheet.proofs.Entries.{nothing_few, few_permuted}

-- ---- positions

-- places below n, and no more than n of them, where they are found
abbrev pub Placed : ℕ → Option (List ℕ) → Type 0
Placed n none = Unit {0}
Placed n (some ps) = (length ps ≤ n) × Below n ps

abbrev Long : ℕ → Option (List ℕ) → Type 0
Long n none = Unit {0}
Long n (some ps) = length ps ≤ n

also_long : (n p : ℕ) (o : Option (List ℕ)) → Long n o → Long (suc n) (also p o)
also_long n p none h = tt
also_long n p (some ps) h = omega arith

then_long : (n : ℕ) (o : Option ℕ) (f : ℕ → Option (List ℕ)) → ((p : ℕ) → Long n (f p)) → Long (suc n) (and_then o f)
then_long n none f h = tt
then_long n (some p) f h = also_long n p (f p) (h p)

below_wider : (n e : ℕ) → n ≤ e → (ps : List ℕ) → Below n ps → Below e ps
below_wider n e h [] b = tt
below_wider n e h (p ∷ ps) b = (omega (arith, b.0), below_wider n e h ps b.1)

pub below_small : (n m : ℕ) → n ≤ m → (ps : List ℕ) → Below n ps → Each (λ p. p ≤ m) ps
below_small n m h [] b = tt
below_small n m h (p ∷ ps) b = (omega (arith, b.0), below_small n m h ps b.1)

placed_of : (e k n : ℕ) (o : Option (List ℕ)) → k ≤ e → n ≤ e → Long k o → AllBelow n o → Placed e o
placed_of e k n none h i l b = tt
placed_of e k n (some ps) h i l b = (omega arith, below_wider n e i ps b)

pub placed_either : (e : ℕ) (a b : Option (List ℕ)) → Placed e a → Placed e b → Placed e (or_else a b)
placed_either e none b h k = k
placed_either e (some ps) b h k = h

module _ {A : Type 0} (same : A → A → Bool) (gone : A) (e : ℕ) where
  take_long : (expected current : List A) → Long (length expected) (take_places same gone current expected)
  take_long [] current = omega arith
  take_long (x ∷ xs) current =
      then_long (length xs) (place_of same x current) (λ p. take_places same gone (set current p gone) xs) (λ p. take_long xs (set current p gone))

  positions_long : (current expected : List A) → Long (length expected) (expected_expr_positions same gone current expected)
  positions_long [] ys = tt
  positions_long (x ∷ xs) [] = tt
  positions_long (x ∷ xs) (y ∷ ys) = take_long (y ∷ ys) (x ∷ xs)

  pub positions_placed : (current expected : List A) → length current ≤ e → length expected ≤ e → Placed e (expected_expr_positions same gone current expected)
  positions_placed xs ys h k = placed_of e (length ys) (length xs) (expected_expr_positions same gone xs ys) k h (positions_long xs ys) (positions_below same gone xs ys)

-- ---- the order tried

pub record SizedTried (m e : ℕ) (t : Tried Expression) : Type 0 where
  pub report : t.report ≤ 3
  pub positions : NumberList m e t.positions
  pub left : ExprList m e t.left
  pub right : ExprList m e t.right

pub placeholder_within : (m : ℕ) → 3 ≤ m → Within m placeholder
placeholder_within m h = record { kind = omega arith; name = omega arith; index = omega arith }

module _ (m e : ℕ) (places : e + e ≤ m) (codes : 3 ≤ m) where
  pub placed_list : (ps : List ℕ) → Placed e (some ps) → NumberList m e ps
  placed_list ps p = record { few = p.0; each = below_small e m (omega arith) ps p.1 }

  module _ (same : Expression → Expression → Bool) (w : List (Rule Expression)) (r l g : List Expression) (hr : ExprList m e r) (hl : ExprList m e l) (hg : ExprList m e g) where
    either_placed : (r l g : List Expression) → length r ≤ e → length l ≤ e → length g ≤ e → Placed e (either_side same placeholder r l g)
    either_placed r l g a b c =
        placed_either e (expected_expr_positions same placeholder l r) (expected_expr_positions same placeholder g r)
        (positions_placed same placeholder e l r b a) (positions_placed same placeholder e g r c a)

    searched_placed : Placed e (searched same placeholder w r l g)
    searched_placed =
        let rewritten : (xs : List Expression) → length xs ≤ e → length (rewrite same w xs) ≤ e = λ xs h. omega (arith, rewrite_length same w xs) in
        placed_either e (either_side same placeholder r l g) (either_side same placeholder (rewrite same w r) (rewrite same w l) (rewrite same w g))
        (either_placed r l g hr.few hl.few hg.few)
        (either_placed (rewrite same w r) (rewrite same w l) (rewrite same w g) (rewritten r hr.few) (rewritten l hl.few) (rewritten g hg.few))

    stood : (report : ℕ) → report ≤ 3 → SizedTried m e (record { report = report; positions = []; left = l; right = g })
    stood report h = record { report = h; positions = nothing_few e _; left = hl; right = hg }

    by_way : (t : Tried Expression) → Way same placeholder w r l g t → SizedTried m e t
    by_way t (unequal u) = stood 3 (omega arith)
    by_way t (meeting z m) = stood 1 (omega arith)
    by_way t (missing z m o) = stood 3 (omega arith)
    by_way t (moving z ps o) =
        let p : Placed e (some ps) = subst (Placed e) o searched_placed in
        record {
          report = omega arith;
          positions = placed_list ps p;
          left = few_permuted e (Within m) placeholder (placeholder_within m codes) l hl ps p.0;
          right = few_permuted e (Within m) placeholder (placeholder_within m codes) g hg ps p.0;
        }

    pub tried_sized : SizedTried m e (try_reorder same placeholder w r l g)
    tried_sized = by_way (try_reorder same placeholder w r l g) (way same placeholder w r l g)

  -- directions move with the pairs
  pub directions_sized : (s : List ℕ) (t : Tried Expression) → NumberList m e s → NumberList m e (directions_of s t)
  directions_sized s t h =
      by_test (NumberList m e) (eqb t.report 2)
      (λ q. few_permuted e (λ n. n ≤ m) 0 (omega arith) s h (take (length s) t.positions) (omega (arith, length-take (length s) t.positions, h.few)))
      (λ q. h)
