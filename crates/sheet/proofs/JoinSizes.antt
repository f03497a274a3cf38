-- The answer of an I sheet is no larger than the sheet: no longer lists, no larger numbers.
use Prim.Native.Nat.{ℕ, ◌+◌, ◌≤◌}
use native.Mathlib.Omega.{arith}
use mathlib.Core.List.{List}
use mathlib.Core.Bool.{Bool, ◌&&◌, ◌||◌}
use mathlib.Core.Option.{Option, none, some}
use lib.Dec.{eqb}
use Rattle.keys.specs.Reorder.{Rule, Tried, try_reorder}
use Rattle.keys.specs.Expressions.{Expression, placeholder}
use Rattle.keys.specs.Inputs.{JoinSheet, JoinAnswer, as_stood, following, try_side, try_right, reorder_join_keys_to_inputs}
use Rattle.keys.proofs.Truths.{by_test}
use Rattle.sheet.specs.Sizes.{InputList, SizedJoinSheet, SizedJoinAnswer}
use Rattle.sheet.proofs.Entries.{nothing_few}
use Rattle.sheet.proofs.TriedSizes.{SizedTried, tried_sized, directions_sized}

module _ (m e : ℕ) (places : e + e ≤ m) (codes : 3 ≤ m) (same : Expression → Expression → Bool) (s : JoinSheet) (h : SizedJoinSheet m e s) where
  abbrev Sized : JoinAnswer → Type 0
  Sized a = SizedJoinAnswer m e a

  stood_sized : (report : ℕ) → report ≤ 3 → Sized (as_stood s report)
  stood_sized report l = record { report = omega arith; followed = omega arith; positions = nothing_few e _; left = h.left; right = h.right; directions = h.directions }

  following_sized : (side : ℕ) → side ≤ 2 → (t : Tried Expression) → SizedTried m e t → Sized (following s side t)
  following_sized side l t z = record {
    report = omega (arith, z.report);
    followed = omega arith;
    positions = z.positions;
    left = z.left;
    right = z.right;
    directions = directions_sized m e places codes s.directions t h.directions;
  }

  side_sized :
      (side : ℕ) → side ≤ 2 → (w : List (Rule Expression)) (impossible unhashed : JoinAnswer) →
      Sized impossible → Sized unhashed → (o : Option (List Expression)) → InputList m e o →
      Sized (try_side s same side w impossible unhashed o)
  side_sized side l w i u hi hu none k = hu
  side_sized side l w i u hi hu (some keys) k =
      let t : Tried Expression = try_reorder same placeholder w keys s.left s.right in
      by_test Sized (eqb t.report 3) (λ q. hi) (λ q. following_sized side l t (tried_sized m e places codes same w keys s.left s.right k h.left h.right))

  right_sized : (report : ℕ) → report ≤ 3 → Sized (try_right s same report)
  right_sized report l = side_sized 2 (omega arith) s.right_rewriting (as_stood s 3) (as_stood s report) (stood_sized 3 (omega arith)) (stood_sized report l) s.right_input h.right_input

  pub join_answer_sized : SizedJoinAnswer m e (reorder_join_keys_to_inputs s same)
  unfolding reorder_join_keys_to_inputs
  join_answer_sized =
      by_test Sized (eqb s.op 2 || (eqb s.op 0 && eqb s.mode 0))
      (λ t. side_sized 1 (omega arith) s.left_rewriting (try_right s same 3) (try_right s same 0) (right_sized 3 (omega arith)) (right_sized 0 (omega arith)) s.left_input h.left_input)
      (λ t. stood_sized 0 (omega arith))
