-- A limit on a sort that isn't directly above its coalesce is not kept: an answer to marked sheet 10 with a round robin between them isn't guaranteed.
use Prim.Native.Nat.{ℕ}
use mathlib.Core.Path.{◌≡◌, refl}
use mathlib.Core.Logic.{inl, inr}
use mathlib.Core.Option.{some, none as absent}
use mathlib.Core.List.{List, [], ◌∷◌}
use native.Mathlib.Omega.{arith}
use Rattle.text.specs.Text.{onto, parts, run, field, fields, line_fields}
use Rattle.text.specs.Lines.{first_of}
use Rattle.text.specs.Bounds.{fits, allows_all}
use Rattle.text.specs.Write.{digits, decimal, field_text, fields_text, line_text}
use Rattle.text.proofs.Examples.{bytes}
use Rattle.keys.proofs.Truths.{true_false}
use Rattle.linekinds.specs.Lines.{line_number, rows_of, chain}
use Rattle.sheet.specs.KeySheets.{sheet}
use Rattle.exchange.specs.Trees.{Operator, Plan}
use Rattle.exchange.specs.Rows.{row_of as packed_row, flatten, grow}
use Rattle.exchange.specs.Fit.{within_bits, all_within_bits, is_repeated, none_repeated, child_numbered, rows_fit, facts_fit}
use Rattle.exchange.specs.Operators.{above}
use Rattle.exchange.specs.Children.{remove_dist_changing_operators}
use Rattle.exchange.specs.States.{children_from}
use Rattle.exchange.specs.Ensure.{Answer}
use Rattle.exchange.proofs.Cases.{settings, child, row, facts, line, told, leaf}
use Rattle.plansheet.specs.Shapes.{over_any}
use Rattle.plansheet.specs.PlanLines.{two_to}
use Rattle.plansheet.specs.PlanSheets.{PlanSheet, operator_rows, plan_of, child_count, read_masks, read_children, read_facts, read_plan}
use Rattle.plananswer.specs.PlanTexts.{plan_lines, plan_answer_text}
use Rattle.guarantee.specs.Limits.{LimitIn}
use Rattle.guarantee.specs.Guarantee.{PlanKept, Guaranteed}
use Rattle.guarantee.specs.BadPlanners.{answer_with}
use Rattle.guarantee.proofs.PlanSpeaks.{plan_says}

-- "(10) merge with limit 0: coalesce, sort above with limit 0"
abbrev pub limited_sheet : List ℕ
limited_sheet = bytes "D,4,0,0,8192,0,9,0,0,0\nT,0,1,0,,0,0,0,1\nT,1,1,0,0,1,0,0,1\nT,0,2,0,,1,0,0,0\nB,0,0,0,0\nF,0,0,2,0,0,0,0\nX,1,0,1,0,0,0,0,0,0,0,0,0,1\nY,0,0\n"

abbrev pub elsewhere : List ℕ
elsewhere = bytes "d,1,0,0,0\nt,1,0,1,0,,0,0,0,1\nt,0,11,1,0,0,1,0,0,1\nt,0,13,4,0,,0,0,1,1\nt,2,2,1,0,,0,0,1,1\nt,3,0,2,0,,1,0,0,0\n"

abbrev merge : Operator
merge = line 2 1 1 0 (some 0) 1 0 0

abbrev asked : PlanSheet
asked = record {
  settings = settings 4 0 0 8192 0 9 0 0 0;
  plan = above (line 1 0 1 0 absent 0 0 0) (above merge (leaf (line 3 0 2 0 absent 1 0 0)));
  facts = facts 0 0 0 0 (child 0 0 2 0 0 0 0 ∷ []) (row 1 0 1 0 0 0 0 0 0 0 0 0 1 ∷ []) (0 ∷ 0 ∷ []);
}

abbrev tree : Plan
tree =
    above (told 1 0 1 0 absent 0 0 0 0)
    (above (told 0 11 1 0 (some 0) 1 0 0 0) (above (told 0 13 4 0 absent 0 0 1 0) (above (told 2 2 1 0 absent 0 0 1 0) (leaf (told 3 0 2 0 absent 1 0 0 0)))))

abbrev given : Answer
given = answer_with tree

limited_read : read_plan limited_sheet ≡ sheet asked
unfolding onto parts run field fields line_fields first_of fits allows_all line_number rows_of chain packed_row flatten grow within_bits all_within_bits is_repeated none_repeated child_numbered rows_fit facts_fit remove_dist_changing_operators children_from over_any two_to operator_rows plan_of child_count read_masks read_children read_facts read_plan
limited_read = refl

elsewhere_text : elsewhere ≡ plan_answer_text given
unfolding digits decimal field_text fields_text line_text plan_lines plan_answer_text
elsewhere_text = refl

-- line by line: neither on an operator with its id, nor on a sort over a coalesce with it
lost : LimitIn merge 0 tree → ⊥
lost (inl (inl h)) = omega (arith, h.0)
lost (inl (inr h)) = true_false h.1 refl
lost (inr (inl (inl (inl h)))) = omega (arith, h.0)
lost (inr (inl (inl (inr h)))) = omega (arith, h.3.0)
lost (inr (inl (inr (inl (inl (inl h)))))) = omega (arith, h.0)
lost (inr (inl (inr (inl (inl (inr h)))))) = true_false h.1 refl
lost (inr (inl (inr (inl (inr (inl (inl (inl h)))))))) = cc h.1
lost (inr (inl (inr (inl (inr (inl (inl (inr h)))))))) = true_false h.1 refl
lost (inr (inl (inr (inl (inr (inl (inr (inl (inl (inl h)))))))))) = omega (arith, h.0)
lost (inr (inl (inr (inl (inr (inl (inr (inl (inl (inr h)))))))))) = true_false h.1 refl
lost (inr (inl (inr (inl (inr (inl (inr (inl (inr h))))))))) = h
lost (inr (inl (inr (inl (inr (inl (inr (inr h)))))))) = h
lost (inr (inl (inr (inl (inr (inr h)))))) = h
lost (inr (inl (inr (inr h)))) = h
lost (inr (inr h)) = h

pub elsewhere_fails : Guaranteed limited_sheet elsewhere → ⊥
elsewhere_fails g =
    let k : PlanKept asked given = plan_says limited_sheet elsewhere asked given limited_read elsewhere_text (refl, ((refl, ((refl, ((refl, ((refl, tt), tt)), tt)), tt)), tt)) g in
    lost (k.limits.1.0.0 0 refl)
