-- The printed sheet and the ten marked sheets of document 01, with their answers, as rows of one table, by computation.
use mathlib.Core.Path.{◌≡◌, refl}
use mathlib.Core.List.{List, [], ◌∷◌, map}
use Prim.Native.String.{String}
use Rattle.text.specs.Text.{until, onto, parts, run, field, fields, line, line_fields}
use Rattle.text.specs.Lines.{first_of}
use Rattle.text.specs.Bounds.{fits, allows_all}
use Rattle.text.proofs.Examples.{bytes}
use Rattle.text.specs.Write.{digits, decimal, field_text, fields_text, line_text}
use Rattle.keys.specs.Reorder.{try_reorder}
use Rattle.keys.specs.Adjust.{adjust_input_keys_ordering}
use Rattle.linekinds.specs.Lines.{line_number, rows_of, chain}
use Rattle.linekinds.specs.KeyLines.{undefined_exprs, over}
use Rattle.sheet.specs.KeySheets.{exprs, rules_of, key_lists_fit, read_key_sheet}
use Rattle.sheet.specs.KeyAnswers.{wrote, key_answer_text, adjust_decision}
use Rattle.exchange.specs.Rows.{row_of as packed_row, flatten, grow}
use Rattle.exchange.specs.Fit.{within_bits, all_within_bits, is_repeated, none_repeated, child_numbered, rows_fit, facts_fit}
use Rattle.exchange.specs.Facts.{row_of}
use Rattle.exchange.specs.Children.{any_unspecified, update_each, remove_dist_changing_operators}
use Rattle.exchange.specs.States.{children_from, each_of}
use Rattle.exchange.specs.Status.{needs_alignment}
use Rattle.exchange.specs.Step.{ensure_child}
use Rattle.exchange.specs.Relationships.{given_set, any_givable, round, rounds}
use Rattle.exchange.specs.Replace.{replace_order_preserving_variants}
use Rattle.exchange.specs.Order.{kept_entries, handle_order}
use Rattle.exchange.specs.Ensure.{all_layouts, child_states, handled, finished, ensured}
use Rattle.plansheet.specs.Shapes.{over_any}
use Rattle.plansheet.specs.PlanLines.{two_to}
use Rattle.plansheet.specs.PlanSheets.{operator_rows, plan_of, child_count, read_masks, read_children, read_facts, read_plan}
use Rattle.plananswer.specs.PlanTexts.{plan_lines, plan_answer_text}
use Rattle.plananswer.specs.PlanDecision.{plan_decision}
use Rattle.lochkave.specs.Decision.{decision}

pub record Row : Type 0 where
  pub sheet : String
  pub answer : String

abbrev pub table : List Row
table =
    -- printed
    record {
      sheet = "K,2,0,0,0,1,0,2\nR,0,2,1,0,1,0\nL,0,1,0,0,2,1\nG,0,5,0,0,6,1\nS,0,3\nW\nO\nA\nM\nC\nC\n";
      answer = "k,1,2\nP,1,0\nR,0,2,1,0,1,0\nL,0,2,1,0,1,0\nG,0,6,1,0,5,0\nS,3,0\nJ\nC,0,2,1,0,1,0\nC,0,6,1,0,5,0\n";
    }
    -- 1: both lists empty
    ∷ record {
      sheet = "K,2,0,0,0,0,0,2\nR\nL\nG\nS\nW\nO\nA\nM\nC\nC\n";
      answer = "k,1,1\nP\nR\nL\nG\nS\nJ\nC\nC\n";
    }
    -- 2: L a,b,a, R a,a,b
    ∷ record {
      sheet = "K,2,0,0,0,0,0,2\nR,0,1,0,0,1,0,0,2,1\nL,0,1,0,0,2,1,0,1,0\nG,0,5,0,0,6,1,0,7,2\nS,0,1,2\nW\nO\nA\nM\nC\nC\n";
      answer = "k,1,2\nP,0,2,1\nR,0,1,0,0,1,0,0,2,1\nL,0,1,0,0,1,0,0,2,1\nG,0,5,0,0,7,2,0,6,1\nS,0,2,1\nJ\nC,0,1,0,0,1,0,0,2,1\nC,0,5,0,0,7,2,0,6,1\n";
    }
    -- 3: L a,b, R a,placeholder
    ∷ record {
      sheet = "K,2,0,0,0,0,0,2\nR,0,1,0,2,0,0\nL,0,1,0,0,2,1\nG,0,5,0,0,6,1\nS,0,1\nW\nO\nA\nM\nC\nC\n";
      answer = "k,1,2\nP,0,0\nR,0,1,0,2,0,0\nL,0,1,0,0,1,0\nG,0,5,0,0,5,0\nS,0,0\nJ\nC,0,1,0,0,1,0\nC,0,5,0,0,5,0\n";
    }
    -- 4: R one longer
    ∷ record {
      sheet = "K,2,0,0,0,0,0,2\nR,0,1,0,0,2,1,0,1,0\nL,0,1,0,0,2,1\nG,0,5,0,0,6,1\nS,0,1\nW\nO\nA\nM\nC\nC\n";
      answer = "k,1,3\nP\nR,0,1,0,0,2,1,0,1,0\nL,0,1,0,0,2,1\nG,0,5,0,0,6,1\nS,0,1\nJ\nC,0,1,0,0,2,1\nC,0,5,0,0,6,1\n";
    }
    -- 5: batch 8192, exact 8192 rows: no gain
    ∷ record {
      sheet = "D,4,1,0,8192,0,9,0,0,0\nT,0,1,0,,0,0,0,1\nT,0,1,0,,0,0,0,0\nB,0,0,0,0\nF,1,1,0,8192,0,0,0\nX,1,0,1,0,0,0,0,0,0,0,0,0,0\nX,1,6,4,0,0,0,0,0,0,0,0,0,0\nY,0,0\n";
      answer = "d,1,0,0,0\nt,1,0,1,0,,0,0,0,1\nt,2,0,1,0,,0,0,1,0\n";
    }
    -- 6: 8193: gain
    ∷ record {
      sheet = "D,4,1,0,8192,0,9,0,0,0\nT,0,1,0,,0,0,0,1\nT,0,1,0,,0,0,0,0\nB,0,0,0,0\nF,1,1,0,8193,0,0,0\nX,1,0,1,0,0,0,0,0,0,0,0,0,0\nX,1,6,4,0,0,0,0,0,0,0,0,0,0\nY,0,0\n";
      answer = "d,1,0,0,0\nt,1,0,1,0,,0,0,0,1\nt,0,13,4,0,,0,0,1,1\nt,2,0,1,0,,0,0,1,0\n";
    }
    -- 7: absent: gain
    ∷ record {
      sheet = "D,4,1,0,8192,0,9,0,0,0\nT,0,1,0,,0,0,0,1\nT,0,1,0,,0,0,0,0\nB,0,0,0,0\nF,1,1,2,0,0,0,0\nX,1,0,1,0,0,0,0,0,0,0,0,0,0\nX,1,6,4,0,0,0,0,0,0,0,0,0,0\nY,0,0\n";
      answer = "d,1,0,0,0\nt,1,0,1,0,,0,0,0,1\nt,0,13,4,0,,0,0,1,1\nt,2,0,1,0,,0,0,1,0\n";
    }
    -- 8: merge asked at count 1: none
    ∷ record {
      sheet = "D,4,0,0,8192,0,9,0,0,0\nT,0,1,0,,0,0,0,1\nT,0,1,0,,0,0,1,0\nB,0,0,0,0\nF,0,1,2,0,0,0,0\nX,1,0,1,0,0,0,0,0,0,0,0,0,0\nY,0,0\n";
      answer = "d,1,0,0,0\nt,1,0,1,0,,0,0,0,1\nt,2,0,1,0,,0,0,1,0\n";
    }
    -- 9: at 2: one
    ∷ record {
      sheet = "D,4,0,0,8192,0,9,0,0,0\nT,0,1,0,,0,0,0,1\nT,0,2,0,,0,0,1,0\nB,0,0,0,0\nF,0,1,2,0,0,0,0\nX,1,0,2,0,0,0,0,0,0,0,0,0,0\nX,1,2,1,0,0,0,0,0,0,0,0,0,0\nY,0,0\n";
      answer = "d,1,0,0,0\nt,1,0,1,0,,0,0,0,1\nt,0,2,1,0,,0,0,1,1\nt,2,0,2,0,,0,0,1,0\n";
    }
    -- 10: merge with limit 0: coalesce, sort above with limit 0
    ∷ record {
      sheet = "D,4,0,0,8192,0,9,0,0,0\nT,0,1,0,,0,0,0,1\nT,1,1,0,0,1,0,0,1\nT,0,2,0,,1,0,0,0\nB,0,0,0,0\nF,0,0,2,0,0,0,0\nX,1,0,1,0,0,0,0,0,0,0,0,0,1\nY,0,0\n";
      answer = "d,1,0,0,0\nt,1,0,1,0,,0,0,0,1\nt,0,11,1,0,0,1,0,0,1\nt,2,2,1,0,,0,0,1,1\nt,3,0,2,0,,1,0,0,0\n";
    }
    ∷ []

pub marked : map (λ (r : Row). decision (bytes r.sheet)) table ≡ map (λ (r : Row). wrote (bytes r.answer)) table
unfolding until onto parts run field fields line line_fields first_of fits allows_all digits decimal field_text fields_text line_text try_reorder adjust_input_keys_ordering line_number rows_of chain undefined_exprs over exprs rules_of key_lists_fit read_key_sheet key_answer_text adjust_decision decision packed_row flatten grow within_bits all_within_bits is_repeated none_repeated child_numbered rows_fit facts_fit remove_dist_changing_operators children_from over_any two_to operator_rows plan_of child_count read_masks read_children read_facts read_plan row_of any_unspecified update_each each_of needs_alignment ensure_child given_set any_givable round rounds replace_order_preserving_variants kept_entries handle_order all_layouts child_states handled finished ensured plan_lines plan_answer_text plan_decision
marked = refl
