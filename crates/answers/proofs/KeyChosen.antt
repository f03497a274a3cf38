-- The lists that were chosen for a K sheet's answer are short, and their text is the answer's.
-- Assumes nothing.
use Prim.Native.Nat.{ℕ, ◌≤◌}
use mathlib.Core.Path.{◌≡◌, sym, ap, ◌∙◌}
use mathlib.Core.Bool.{Bool, cond}
use mathlib.Core.List.{List, [], ◌++◌}
use native.Mathlib.Omega.{arith}
use lib.ListN.{length, get_or}
use Rattle.keys.specs.Lists.{permute}
use Rattle.keys.specs.Expressions.{gone_number, expressions}
use Rattle.keys.specs.Answers.{changed_by, report_by, moved_or, answer_by}
use Rattle.keys.specs.declared.answer.Handed.{Handed}
use Rattle.keys.specs.declared.answer.Outcome.{Outcome}
use Rattle.sheet.specs.KeyAnswers.{key_answer_text}
use Rattle.sheet.specs.Held.{held_at, child_count, held_key_sheet, KeyHeld}
use Rattle.std.specs.Prelude.{option_copied}
use Rattle.moves.specs.Chosen.{handed_list, shifted_for}
use Rattle.moves.specs.Moved.{MovedBy}
use Rattle.moves.specs.declared.moved.MovedPairs.{MovedPairs}
use Rattle.answers.specs.AnswerLists.{KeyFew, held_projection}
use Rattle.lines.specs.Children.{children_text}
use Rattle.lines.specs.Texts.{key_lists_text, key_text_of}
use Rattle.lines.specs.declared.key_text.KeyLists.{KeyLists}
use Rattle.lines.specs.declared.children.Children.{Children}
use Rattle.lines.proofs.AnswerParts.{key_answer_held}
use Rattle.moves.proofs.Choices.{Short, moved_short, turned_short, cleared_any, moved_any, handed_any}
use Rattle.moves.proofs.HeldKeys.{key_lines, key_directions, key_mapped}
use Rattle.answers.proofs.KeyLists.{key_lists, key_handed}

module _ (lists : List (List ℕ)) (counts : List ℕ) (outcome : Outcome) (cleared : Bool) (first others : Handed) (ps : List ℕ) (m : MovedPairs) (shifted : List ℕ) where
  abbrev At : ℕ → List ℕ
  At i = held_at lists counts i

  -- what stands at the positions ps, and R shifted, where a child is handed it
  pub record ReadyKey : Type 0 where
    pub few : length ps ≤ 32
    pub moved : MovedBy (At 2) (At 3) (At 4) ps m
    pub shifts : expressions shifted ≡ shifted_for first others (get_or (At 0) 3 0) (expressions (At 1))
    pub short : length shifted ≤ 32

  -- what was chosen, by the outcome
  pub record KeyChosen (x : KeyLists) (c : Children) : Type 0 where
    pub changes : x.changed ≡ changed_by outcome
    pub reports : x.report ≡ report_by outcome
    pub positions : x.positions.now ≡ m.positions.now
    pub required : x.required.now ≡ cond cleared [] (At 1)
    pub left_is : x.left.now ≡ moved_or outcome m.left.now (At 2)
    pub right_is : x.right.now ≡ moved_or outcome m.right.now (At 3)
    pub directions : x.directions.now ≡ moved_or outcome m.directions.now (At 4)
    pub first_is : option_copied c.first ≡ handed_list first (At 1) x.left.now shifted (At 8)
    pub others_are : option_copied c.others ≡ handed_list others (At 1) x.right.now shifted (At 8)

  module _ {x : KeyLists} {c : Children} (k : KeyChosen x c) (ready : ReadyKey) where
    pub key_few : length x.projection.now ≤ 128 → KeyHeld lists counts → KeyFew x c
    key_few few h =
        let lines = key_lines lists counts h in
        let none : Short [] = omega arith in
        let third : Short (At 3) = omega (arith, lines.1, lines.2) in
        let mapped = key_mapped lists counts h in
        let b : Short x.left.now = rw k.left_is (moved_any Short outcome m.left.now (At 2) (rw ready.moved.left (moved_short gone_number (At 2) ps ready.few)) lines.1) in
        let d : Short x.right.now = rw k.right_is (moved_any Short outcome m.right.now (At 3) (rw ready.moved.right (moved_short gone_number (At 3) ps ready.few)) third) in
        record {
          positions = rw (k.positions, ready.moved.positions) ready.few;
          required = rw k.required (cleared_any Short cleared (At 1) none lines.0);
          left = b;
          right = d;
          directions = rw k.directions (moved_any Short outcome m.directions.now (At 4) (rw ready.moved.directions (turned_short (At 4) ps ready.few)) (key_directions lists counts h));
          projection = few;
          first = rw k.first_is (handed_any Short first (At 1) x.left.now shifted (At 8) none lines.0 b ready.short mapped);
          others = rw k.others_are (handed_any Short others (At 1) x.right.now shifted (At 8) none lines.0 d ready.short mapped);
        }

    pub chosen_text :
        (places : List ℕ) → x.projection.now ≡ held_projection lists counts outcome places →
        key_text_of x ++ children_text (option_copied c.first) (option_copied c.others) lists counts (child_count lists counts)
        ≡ key_answer_text (answer_by (held_key_sheet lists counts) outcome cleared first others ps places)
    chosen_text places e =
        (λ i. key_lists_text (k.changes i) (k.reports i) ((k.positions ∙ ready.moved.positions) i) (k.required i) (left_comes i) (right_comes i) ((k.directions ∙ ap (λ (ds : List ℕ). moved_or outcome ds (At 4)) ready.moved.directions) i) (e i)
        ++ children_text ((k.first_is ∙ ap (λ (ks : List ℕ). handed_list first (At 1) ks shifted (At 8)) left_comes) i)
        ((k.others_are ∙ ap (λ (ks : List ℕ). handed_list others (At 1) ks shifted (At 8)) right_comes) i) lists counts (child_count lists counts))
        ∙ sym (key_answer_held _ _ _ _ _ _ _ _ _ (key_lists lists counts outcome cleared first others ps places) _ _ lists counts (child_count lists counts)
        (key_handed lists counts outcome cleared first others ps places shifted ready.shifts))
      where
        left_comes : x.left.now ≡ moved_or outcome (permute gone_number (At 2) ps) (At 2)
        left_comes = k.left_is ∙ ap (λ (ks : List ℕ). moved_or outcome ks (At 2)) ready.moved.left

        right_comes : x.right.now ≡ moved_or outcome (permute gone_number (At 3) ps) (At 3)
        right_comes = k.right_is ∙ ap (λ (ks : List ℕ). moved_or outcome ks (At 3)) ready.moved.right
