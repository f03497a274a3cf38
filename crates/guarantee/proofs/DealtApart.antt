-- An answer in which the engine calls children unsatisfied is not guaranteed: a partitioned join whose sides are each in one partition, and need a relationship
-- exchange both, copied as it stands.
use Prim.Native.Nat.{ℕ, ◌/◌, ◌%◌}
use mathlib.Core.Path.{◌≡◌, refl}
use mathlib.Core.Option.{none as absent}
use mathlib.Core.List.{List, [], ◌∷◌}
use native.Mathlib.Omega.{arith}
use Rattle.text.specs.Text.{onto, parts, run, field, fields, line_fields}
use Rattle.text.specs.Lines.{first_of}
use Rattle.text.specs.Bounds.{fits, allows_all}
use Rattle.text.proofs.Examples.{bytes}
use Rattle.linekinds.specs.Lines.{line_number, rows_of, chain}
use Rattle.sheet.specs.KeySheets.{sheet}
use Rattle.sheet.specs.KeyAnswers.{wrote}
use Rattle.exchange.specs.Trees.{node, none, ◌∷ᶠ◌}
use Rattle.exchange.specs.Rows.{row_of as packed_row, flatten, grow}
use Rattle.exchange.specs.Fit.{within_bits, all_within_bits, is_repeated, none_repeated, child_numbered, rows_fit, facts_fit}
use Rattle.exchange.specs.Children.{remove_dist_changing_operators}
use Rattle.exchange.specs.States.{children_from}
use Rattle.exchange.specs.Ensure.{Answer}
use Rattle.exchange.proofs.Cases.{settings, child, row, facts, line, told, leaf}
use Rattle.plansheet.specs.Shapes.{over_any}
use Rattle.plansheet.specs.PlanLines.{two_to}
use Rattle.plansheet.specs.PlanSheets.{PlanSheet, operator_rows, plan_of, child_count, read_masks, read_children, read_facts, read_plan}
use Rattle.plananswer.specs.PlanTexts.{plan_lines, plan_answer_text}
use Rattle.guarantee.specs.Partitioning.{new_on_top}
use Rattle.guarantee.specs.Guarantee.{PlanKept, Guaranteed}
use Rattle.guarantee.specs.BadPlanners.{answer_with, trees_copied}
use Rattle.guarantee.proofs.PlanSpeaks.{plan_says}

abbrev pub join_sheet : List ℕ
join_sheet = bytes "D,4,0,0,8192,0,9,0,0,0\nT,5,1,0,,0,0,0,2\nT,0,1,0,,0,0,2,0\nT,0,1,0,,0,0,2,0\nB,0,0,0,0\nF,0,1,2,0,0,0,0\nF,0,1,2,0,0,0,0\nX,1,0,1,0,0,0,0,0,0,0,0,0,0\nX,2,0,1,0,0,0,0,0,0,0,0,0,0\nX,1,8,4,0,0,0,0,0,0,0,0,0,0\nX,2,8,4,0,0,0,0,0,0,0,0,0,0\nY,3,0,0,0\n"

abbrev asked : PlanSheet
asked = record {
  settings = settings 4 0 0 8192 0 9 0 0 0;
  plan = node (line 1 5 1 0 absent 0 0 0) (leaf (line 2 0 1 0 absent 0 0 2) ∷ᶠ leaf (line 3 0 1 0 absent 0 0 2) ∷ᶠ none);
  facts =
      facts 0 0 0 0 (child 0 1 2 0 0 0 0 ∷ child 0 1 2 0 0 0 0 ∷ [])
      (row 1 0 1 0 0 0 0 0 0 0 0 0 0 ∷ row 2 0 1 0 0 0 0 0 0 0 0 0 0 ∷ row 1 8 4 0 0 0 0 0 0 0 0 0 0 ∷ row 2 8 4 0 0 0 0 0 0 0 0 0 0 ∷ [])
      (3 ∷ 0 ∷ 0 ∷ 0 ∷ []);
}

abbrev given : Answer
given = answer_with (node (told 1 5 1 0 absent 0 0 0 0) (leaf (told 2 0 1 0 absent 0 0 0 0) ∷ᶠ leaf (told 3 0 1 0 absent 0 0 0 0) ∷ᶠ none))

join_read : read_plan join_sheet ≡ sheet asked
unfolding onto parts run field fields line_fields first_of fits allows_all line_number rows_of chain packed_row flatten grow within_bits all_within_bits is_repeated none_repeated child_numbered rows_fit facts_fit remove_dist_changing_operators children_from over_any two_to operator_rows plan_of child_count read_masks read_children read_facts read_plan
join_read = refl

copied_writes : trees_copied join_sheet ≡ wrote (plan_answer_text given)
unfolding trees_copied remove_dist_changing_operators plan_lines plan_answer_text
copied_writes = rw join_read

-- nothing is new on either child, so the set is empty, and Y there names both
apart : PlanKept asked given → ⊥
unfolding new_on_top
apart k =
    let set : ℕ = k.together.set in
    let shown = k.together.shown in
    let first : set % 2 ≡ 1 → ⊥ = λ e. omega (arith, shown.0.given e) in
    let second : set / 2 % 2 ≡ 1 → ⊥ = λ e. omega (arith, shown.1.0.given e) in
    let rest : set / 2 / 2 ≡ 0 = shown.1.1 in
    let none_in : set ≡ 0 = omega (arith, first, second) in
    let y : ◌≡◌ {A = ℕ} 3 0 = rw none_in at k.together.satisfied in
    omega arith

pub apart_fails : (a : List ℕ) → trees_copied join_sheet ≡ wrote a → Guaranteed join_sheet a → ⊥
apart_fails a e g = apart (plan_says join_sheet a asked given join_read (cc copied_writes) (refl, ((refl, tt), ((refl, tt), tt))) g)
