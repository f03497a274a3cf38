-- The other bad planners. Trees that are copied aren't guaranteed: on marked sheet 9 a child of which one partition is asked has two. One stock decision and
-- "every sheet turned back" differ from `decision`.
--     copied_fails    keys ordered, trees copied
--     stock_differs   one stock decision: on one of two sheets
--     turned_differs  every sheet turned back
use Prim.Native.Nat.{ℕ}
use mathlib.Core.Path.{◌≡◌, refl, sym, ap, ◌∙◌}
use mathlib.Core.Option.{none as absent}
use mathlib.Core.List.{List, [], ◌∷◌}
use native.Mathlib.Omega.{arith}
use lib.ListN.{get_or}
use Rattle.text.specs.Text.{onto, parts, run, field, fields, line_fields}
use Rattle.text.specs.Lines.{first_of}
use Rattle.text.specs.Bounds.{fits, allows_all}
use Rattle.text.proofs.Examples.{bytes}
use Rattle.keys.proofs.Truths.{true_false}
use Rattle.linekinds.specs.Lines.{line_number, rows_of, chain}
use Rattle.sheet.specs.KeySheets.{sheet}
use Rattle.sheet.specs.KeyAnswers.{refused, wrote}
use Rattle.exchange.specs.Rows.{row_of as packed_row, flatten, grow}
use Rattle.exchange.specs.Fit.{within_bits, all_within_bits, is_repeated, none_repeated, child_numbered, rows_fit, facts_fit}
use Rattle.exchange.specs.Facts.{row_of}
use Rattle.exchange.specs.Operators.{above}
use Rattle.exchange.specs.Children.{remove_dist_changing_operators}
use Rattle.exchange.specs.States.{children_from}
use Rattle.exchange.specs.Ensure.{Answer}
use Rattle.exchange.specs.Partitioning.{beneath_sorts}
use Rattle.exchange.proofs.Cases.{settings, child, row, facts, line, told, leaf}
use Rattle.plansheet.specs.Shapes.{over_any}
use Rattle.plansheet.specs.PlanLines.{two_to}
use Rattle.plansheet.specs.PlanSheets.{PlanSheet, operator_rows, plan_of, child_count, read_masks, read_children, read_facts, read_plan}
use Rattle.plananswer.specs.PlanTexts.{plan_lines, plan_answer_text}
use Rattle.lochkave.specs.Decision.{decision}
use Rattle.guarantee.specs.Partitioning.{new_on_top, needs_had}
use Rattle.guarantee.specs.Guarantee.{PlanKept, Guaranteed}
use Rattle.guarantee.specs.BadPlanners.{answer_with, trees_copied, stock, turned_back}
use Rattle.guarantee.proofs.KeyNeeded.{marked_sheet, marked_answer, marked_decided}
use Rattle.guarantee.proofs.PlanNeeded.{unmet_sheet, unmet_answer, unmet_decided}
use Rattle.guarantee.proofs.PlanSpeaks.{plan_says}

-- ---- keys ordered, trees copied

-- "(9) at 2: one": a merge is asked at count 2
abbrev pub merge_sheet : List ℕ
merge_sheet = bytes "D,4,0,0,8192,0,9,0,0,0\nT,0,1,0,,0,0,0,1\nT,0,2,0,,0,0,1,0\nB,0,0,0,0\nF,0,1,2,0,0,0,0\nX,1,0,2,0,0,0,0,0,0,0,0,0,0\nX,1,2,1,0,0,0,0,0,0,0,0,0,0\nY,0,0\n"

abbrev pub asked : PlanSheet
asked = record {
  settings = settings 4 0 0 8192 0 9 0 0 0;
  plan = above (line 1 0 1 0 absent 0 0 0) (leaf (line 2 0 2 0 absent 0 0 1));
  facts = facts 0 0 0 0 (child 0 1 2 0 0 0 0 ∷ []) (row 1 0 2 0 0 0 0 0 0 0 0 0 0 ∷ row 1 2 1 0 0 0 0 0 0 0 0 0 0 ∷ []) (0 ∷ 0 ∷ []);
}

-- the copy as it is read
abbrev given : Answer
given = answer_with (above (told 1 0 1 0 absent 0 0 0 0) (leaf (told 2 0 2 0 absent 0 0 0 0)))

pub merge_read : read_plan merge_sheet ≡ sheet asked
unfolding onto parts run field fields line_fields first_of fits allows_all line_number rows_of chain packed_row flatten grow within_bits all_within_bits is_repeated none_repeated child_numbered rows_fit facts_fit remove_dist_changing_operators children_from over_any two_to operator_rows plan_of child_count read_masks read_children read_facts read_plan
merge_read = refl

pub copied_writes : trees_copied merge_sheet ≡ wrote (plan_answer_text given)
unfolding trees_copied remove_dist_changing_operators plan_lines plan_answer_text
copied_writes = rw merge_read

two_partitions : PlanKept asked given → ⊥
unfolding needs_had new_on_top beneath_sorts remove_dist_changing_operators children_from row_of
two_partitions k = true_false k.partitioning refl

pub copied_fails : (a : List ℕ) → trees_copied merge_sheet ≡ wrote a → Guaranteed merge_sheet a → ⊥
copied_fails a e g = two_partitions (plan_says merge_sheet a asked given merge_read (cc copied_writes) (refl, ((refl, tt), tt)) g)

-- ---- one stock decision

-- what was written begins with k or d
same_first : (a b : List ℕ) → wrote a ≡ wrote b → get_or a 0 0 ≡ get_or b 0 0
same_first a b e = let z : a ≡ b = cc in ap (λ (s : List ℕ). get_or s 0 0) z

pub stock_differs : (a : List ℕ) → decision marked_sheet ≡ stock a marked_sheet → decision unmet_sheet ≡ stock a unmet_sheet → ⊥
stock_differs a e f =
    let k : ◌≡◌ {A = ℕ} 107 (get_or a 0 0) = same_first marked_answer a (sym marked_decided ∙ e) in
    let d : ◌≡◌ {A = ℕ} 100 (get_or a 0 0) = same_first unmet_answer a (sym unmet_decided ∙ f) in
    omega arith

-- ---- every sheet turned back

pub turned_differs : (number line : List ℕ → ℕ) → decision marked_sheet ≡ turned_back number line marked_sheet → ⊥
turned_differs number line e = let f : wrote marked_answer ≡ refused (number marked_sheet) (line marked_sheet) = sym marked_decided ∙ e in cc
