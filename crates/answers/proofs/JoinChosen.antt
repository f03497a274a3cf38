-- The lists that were chosen for an I sheet's answer are short, and their text is the answer's.
-- Assumes nothing.
use Prim.Native.Nat.{ℕ, ◌≤◌}
use mathlib.Core.Path.{◌≡◌, sym, ap, ◌∙◌}
use mathlib.Core.List.{List}
use native.Mathlib.Omega.{arith}
use lib.ListN.{length}
use Rattle.keys.specs.Expressions.{gone_number}
use Rattle.keys.specs.InputValues.{side_number, attempt_of, report_by, side_by, positions_by}
use Rattle.keys.specs.declared.inputs.Attempt.{Attempt}
use Rattle.sheet.specs.KeyAnswers.{join_answer_text}
use Rattle.sheet.specs.Held.{held_at, held_join_sheet, JoinHeld}
use Rattle.moves.specs.Chosen.{followed_or}
use Rattle.moves.specs.Moved.{MovedBy}
use Rattle.moves.specs.declared.moved.MovedPairs.{MovedPairs}
use Rattle.answers.specs.AnswerLists.{JoinFew}
use Rattle.lines.specs.Texts.{join_lists_text, join_text_of}
use Rattle.lines.specs.declared.join_text.JoinLists.{JoinLists}
use Rattle.lines.proofs.AnswerParts.{join_answer_text_lem}
use Rattle.moves.proofs.Choices.{Short, moved_short, turned_short, followed_any}
use Rattle.moves.proofs.HeldJoins.{join_few, join_even, join_directions}
use Rattle.answers.proofs.JoinLists.{join_lists}

module _ (lists : List (List ℕ)) (counts : List ℕ) (o : Attempt) (m : MovedPairs) where
  abbrev ps : List ℕ
  ps = positions_by o

  abbrev At : ℕ → List ℕ
  At i = held_at lists counts i

  -- what was chosen, by the outcome
  pub record JoinChosen (x : JoinLists) : Type 0 where
    pub reports : x.report ≡ report_by o
    pub follows : x.followed ≡ side_number (side_by o)
    pub positions : x.positions.now ≡ m.positions.now
    pub left_is : x.left.now ≡ followed_or o m.left.now (At 1)
    pub right_is : x.right.now ≡ followed_or o m.right.now (At 2)
    pub directions : x.directions.now ≡ followed_or o m.directions.now (At 3)

  module _ {x : JoinLists} (c : JoinChosen x) (few : length ps ≤ 32) (ready : MovedBy (At 1) (At 2) (At 3) ps m) where
    pub join_short_lists : JoinHeld lists counts → JoinFew x
    join_short_lists h =
        let second : Short (At 2) = omega (arith, join_few lists counts h, join_even lists counts h) in
        record {
          positions = rw (c.positions, ready.positions) few;
          left = rw c.left_is (followed_any Short o m.left.now (At 1) (rw ready.left (moved_short gone_number (At 1) ps few)) (join_few lists counts h));
          right = rw c.right_is (followed_any Short o m.right.now (At 2) (rw ready.right (moved_short gone_number (At 2) ps few)) second);
          directions = rw c.directions (followed_any Short o m.directions.now (At 3) (rw ready.directions (turned_short (At 3) ps few)) (join_directions lists counts h));
        }

    pub chosen_join_text : join_text_of x ≡ join_answer_text (attempt_of (held_join_sheet lists counts) o)
    chosen_join_text =
        (λ i. join_lists_text (c.reports i) (c.follows i) ((c.positions ∙ ready.positions) i)
        ((c.left_is ∙ ap (λ (ks : List ℕ). followed_or o ks (At 1)) ready.left) i) ((c.right_is ∙ ap (λ (ks : List ℕ). followed_or o ks (At 2)) ready.right) i)
        ((c.directions ∙ ap (λ (ds : List ℕ). followed_or o ds (At 3)) ready.directions) i))
        ∙ sym (join_answer_text_lem _ _ _ _ _ _ _ (join_lists lists counts o))
