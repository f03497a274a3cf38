-- The lists of a K sheet's answer, by what was decided.
-- Assumes nothing.
use Prim.Native.Nat.{ℕ, zero, suc, ◌≤◌}
use mathlib.Core.Path.{◌≡◌, refl, ap, sym, ◌∙◌}
use mathlib.Core.Bool.{Bool, true, false, cond}
use mathlib.Core.List.{List, []}
use native.Mathlib.Omega.{arith}
use lib.ListN.{length, get_or}
use Rattle.keys.specs.Lists.{permute}
use Rattle.keys.specs.Expressions.{Expression, placeholder, gone_number, expressions}
use Rattle.keys.specs.Adjust.{KeySheet, KeyAnswer, hand_over, moved_directions, shift_right_required}
use Rattle.keys.specs.Answers.{changed_by, report_by, moved_or, handed, side_by, answer_by}
use Rattle.keys.specs.declared.reorder.Reordered.TheVariants.{Met, Moved, Impossible}
use Rattle.keys.specs.declared.answer.Handed.{Handed}
use Rattle.keys.specs.declared.answer.Handed.TheVariants.{Kept, Cleared, Required, Keys, Shifted, Mapped}
use Rattle.keys.specs.declared.answer.Outcome.{Outcome}
use Rattle.keys.specs.declared.answer.Outcome.TheVariants.{Unchanged, Passed, Tried, Regrouped}
use Rattle.keys.proofs.Packed.{permute_expressions}
use Rattle.sheet.specs.Held.{held_at, expr_lists, child_count, held_key_sheet, KeyHeld}
use Rattle.moves.specs.Chosen.{handed_list, shifted_for}
use Rattle.lines.specs.Children.{chosen}
use Rattle.lines.proofs.AnswerParts.{KeyLists}
use Rattle.answers.specs.AnswerLists.{held_projection}
use Rattle.moves.proofs.Choices.{ShiftedBy, shifted_first, shifted_others}

moved_packed : (o : Outcome) (moved stood : List ℕ) → moved_or o (expressions moved) (expressions stood) ≡ expressions (moved_or o moved stood)
moved_packed Unchanged moved stood = refl
moved_packed Passed moved stood = refl
moved_packed (Tried Met) moved stood = refl
moved_packed (Tried (Moved at)) moved stood = refl
moved_packed (Tried Impossible) moved stood = refl
moved_packed (Regrouped at places) moved stood = refl

cleared_packed : (b : Bool) (r : List ℕ) → cond b [] (expressions r) ≡ expressions (cond b [] r)
cleared_packed true r = refl
cleared_packed false r = refl

pub handed_is :
    (s : KeySheet) (side' : List Expression) (r side k m : List ℕ) → s.required ≡ expressions r → side' ≡ expressions side → s.mapped ≡ expressions m →
    (h : Handed) → ShiftedBy h s.columns r k → (c : List Expression) → handed s side' h c ≡ chosen (handed_list h r side k m) c
handed_is s side' r side k m p q u Kept t c = refl
handed_is s side' r side k m p q u Cleared t c = refl
handed_is s side' r side k m p q u Required t c = p
handed_is s side' r side k m p q u Keys t c = q
handed_is s side' r side k m p q u Shifted t c = ap (shift_right_required s.columns) p ∙ sym (t refl)
handed_is s side' r side k m p q u Mapped t c = u

module _ (lists : List (List ℕ)) (counts : List ℕ) where
  abbrev At : ℕ → List ℕ
  At i = held_at lists counts i

  exprs_long : (i n : ℕ) → length (expr_lists lists counts i n) ≡ n
  exprs_long i zero = refl
  exprs_long i (suc n) = ap suc (exprs_long (suc i) n)

  -- at most eight children
  pub key_children : KeyHeld lists counts → child_count lists counts ≤ 8
  unfolding held_key_sheet
  key_children h = omega (arith, h.legal.few, exprs_long 9 (child_count lists counts))

  module _ (o : Outcome) (cleared : Bool) (first others : Handed) (ps places : List ℕ) where
    -- a side's keys as they come out
    abbrev side : ℕ → List ℕ
    side i = moved_or o (permute gone_number (At i) ps) (At i)

    side_packed : (i : ℕ) → moved_or o (permute placeholder (expressions (At i)) ps) (expressions (At i)) ≡ expressions (side i)
    side_packed i = ap (λ (ks : List Expression). moved_or o ks (expressions (At i))) (permute_expressions (At i) ps) ∙ moved_packed o (permute gone_number (At i) ps) (At i)

    abbrev the_answer : KeyAnswer
    the_answer = answer_by (held_key_sheet lists counts) o cleared first others ps places

    pub key_lists :
        KeyLists the_answer (changed_by o) (report_by o) ps (cond cleared [] (At 1)) (side 2) (side 3)
        (moved_or o (moved_directions (At 4) ps) (At 4)) (held_projection lists counts o places)
    unfolding held_key_sheet
    key_lists = record {
      changed = refl;
      report = refl;
      positions = refl;
      required = cleared_packed cleared (At 1);
      left = side_packed 2;
      right = side_packed 3;
      directions = refl;
      projection = refl;
    }

    -- what the children are handed; k is R shifted, where one is handed it
    pub key_handed :
        (k : List ℕ) → expressions k ≡ shifted_for first others (get_or (At 0) 3 0) (expressions (At 1)) →
        the_answer.children ≡
        hand_over (chosen (handed_list first (At 1) (side 2) k (At 8))) (chosen (handed_list others (At 1) (side 3) k (At 8))) (expr_lists lists counts 9 (child_count lists counts))
    unfolding held_key_sheet
    key_handed k t =
        let s = held_key_sheet lists counts in
        let child : (i : ℕ) (h : Handed) → ShiftedBy h (get_or (At 0) 3 0) (At 1) k → (c : List Expression) →
        handed s (side_by s o cleared first others ps places (expressions (At i))) h c ≡ chosen (handed_list h (At 1) (side i) k (At 8)) c
        = λ i h d c. handed_is s (side_by s o cleared first others ps places (expressions (At i))) (At 1) (side i) k (At 8) refl (side_packed i) refl h d c in
        λ j. hand_over (λ c. child 2 first (shifted_first first others (get_or (At 0) 3 0) (At 1) k t) c j) (λ c. child 3 others (shifted_others first others (get_or (At 0) 3 0) (At 1) k t) c j) (expr_lists lists counts 9 (child_count lists counts))
