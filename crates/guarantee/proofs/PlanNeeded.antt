-- The condition on splits is needed: of a sheet whose keyed child, with mark `gains` 0, is split at its source, what `decision` writes isn't guaranteed.
-- The child comes out with four partitions and no exchange, and its row says neither `exact` nor `subset`.
use Prim.Native.Nat.{ℕ}
use mathlib.Core.Path.{◌≡◌, refl}
use mathlib.Core.Option.{none as absent}
use mathlib.Core.List.{List}
use Rattle.text.specs.Text.{onto, parts, run, field, fields, line_fields}
use Rattle.text.specs.Lines.{first_of}
use Rattle.text.specs.Bounds.{fits, allows_all}
use Rattle.text.specs.Write.{digits, decimal, field_text, fields_text, line_text}
use Rattle.text.proofs.Examples.{bytes}
use Rattle.keys.proofs.Truths.{true_false}
use Rattle.linekinds.specs.Lines.{line_number, rows_of, chain}
use Rattle.sheet.specs.KeySheets.{sheet}
use Rattle.sheet.specs.KeyAnswers.{wrote}
use Rattle.exchange.specs.Rows.{row_of as packed_row, flatten, grow}
use Rattle.exchange.specs.Fit.{within_bits, all_within_bits, is_repeated, none_repeated, child_numbered, rows_fit, facts_fit}
use Rattle.exchange.specs.Facts.{row_of}
use Rattle.exchange.specs.Operators.{above}
use Rattle.exchange.specs.Children.{any_unspecified, update_each, remove_dist_changing_operators}
use Rattle.exchange.specs.States.{children_from, each_of}
use Rattle.exchange.specs.Status.{needs_alignment}
use Rattle.exchange.specs.Step.{ensure_child}
use Rattle.exchange.specs.Relationships.{given_set, rounds}
use Rattle.exchange.specs.Replace.{replace_order_preserving_variants}
use Rattle.exchange.specs.Order.{handle_order}
use Rattle.exchange.specs.Ensure.{Answer, child_states, handled, finished, ensured}
use Rattle.exchange.specs.Partitioning.{beneath_sorts}
use Rattle.exchange.proofs.Cases.{leaf, told}
use Rattle.exchange.proofs.UnmetChild as unmet
use Rattle.plansheet.specs.Shapes.{over_any}
use Rattle.plansheet.specs.PlanLines.{two_to}
use Rattle.plansheet.specs.PlanSheets.{PlanSheet, operator_rows, plan_of, child_count, read_masks, read_children, read_facts, read_plan}
use Rattle.plananswer.specs.PlanTexts.{plan_lines, plan_answer_text}
use Rattle.plananswer.specs.PlanDecision.{plan_decision}
use Rattle.lochkave.specs.Decision.{decision}
use Rattle.guarantee.specs.Conditions.{NoPlaceholder}
use Rattle.guarantee.specs.Partitioning.{new_on_top, needs_had}
use Rattle.guarantee.specs.Guarantee.{PlanKept, Guaranteed}
use Rattle.guarantee.specs.BadPlanners.{answer_with}
use Rattle.guarantee.proofs.SheetsOnce.{not_key_and_plan, not_join_and_plan}
use Rattle.guarantee.proofs.PlanSpeaks.{plan_says}

-- examples/finding-keyed-child-unmet
abbrev pub unmet_sheet : List ℕ
unmet_sheet = bytes "D,4,0,1,8192,0,9,0,0,0\nT,0,1,0,,0,0,0,1\nT,0,1,0,,0,0,2,0\nB,0,0,0,0\nF,0,1,2,0,0,1,0\nX,1,0,1,0,0,1,1,0,0,0,0,0,0\nX,1,1,4,0,0,0,0,0,0,0,0,0,0\nY,0,0\n"

abbrev pub unmet_answer : List ℕ
unmet_answer = bytes "d,1,0,0,0\nt,1,0,1,0,,0,0,0,1\nt,2,0,4,0,,0,0,1,0\n"

pub unmet_decided : decision unmet_sheet ≡ wrote unmet_answer
unfolding onto parts run field fields line_fields first_of fits allows_all digits decimal field_text fields_text line_text line_number rows_of chain decision packed_row flatten grow within_bits all_within_bits is_repeated none_repeated child_numbered rows_fit facts_fit remove_dist_changing_operators children_from over_any two_to operator_rows plan_of child_count read_masks read_children read_facts read_plan row_of any_unspecified update_each each_of needs_alignment ensure_child given_set rounds replace_order_preserving_variants handle_order child_states handled finished ensured plan_lines plan_answer_text plan_decision
unmet_decided = refl

-- ---- the sheet as it is read, and the answer whose text was written

abbrev asked : PlanSheet
asked = record { settings = unmet.s; plan = unmet.t; facts = unmet.f }

abbrev given : Answer
given = answer_with (above (told 1 0 1 0 absent 0 0 0 0) (leaf (told 2 0 4 0 absent 0 0 1 0)))

unmet_read : read_plan unmet_sheet ≡ sheet asked
unfolding onto parts run field fields line_fields first_of fits allows_all line_number rows_of chain packed_row flatten grow within_bits all_within_bits is_repeated none_repeated child_numbered rows_fit facts_fit remove_dist_changing_operators children_from over_any two_to operator_rows plan_of child_count read_masks read_children read_facts read_plan
unmet_read = refl

unmet_text : unmet_answer ≡ plan_answer_text given
unfolding digits decimal field_text fields_text line_text plan_lines plan_answer_text
unmet_text = refl

unhad : PlanKept asked given → ⊥
unfolding needs_had new_on_top beneath_sorts remove_dist_changing_operators children_from row_of
unhad k = true_false k.partitioning refl

pub gains_needed : Guaranteed unmet_sheet unmet_answer → ⊥
gains_needed g = unhad (plan_says unmet_sheet unmet_answer asked given unmet_read unmet_text (refl, ((refl, tt), tt)) g)

-- the other condition holds of it, since it is neither a K nor an I sheet
pub unmet_no_placeholder : NoPlaceholder unmet_sheet
unmet_no_placeholder = record {
  keys = λ x e. absurd (not_key_and_plan unmet_sheet x asked e unmet_read);
  inputs = λ x e. absurd (not_join_and_plan unmet_sheet x asked e unmet_read);
}
