-- K and I answers as text, and the decisions on the bytes of such sheets.
-- Renders document 01, "Answer: `k,changed,report`", "Answer `i,report,followed`", and refusal 10.
use Rattle.std.specs.Prelude.{ℕ, List, [], ◌∷◌, ◌++◌, map}
use Rattle.text.specs.declared.field.Field.TheVariants.{Number as number}
use Rattle.text.specs.Write.{line_text}
use Rattle.keys.specs.Expressions.{Expression, same_expr}
use Rattle.keys.specs.Adjust.{KeySheet, KeyAnswer, Projected, Adjustment, answered, name_not_found, adjust_input_keys_ordering}
use Rattle.keys.specs.Inputs.{JoinSheet, JoinAnswer, reorder_join_keys_to_inputs}
use Rattle.sheet.specs.KeySheets.{Reading, sheet, turned, read_key_sheet, read_join_sheet}

-- a refusal and its line, or the answer's bytes
pub data Outcome : Type 0 where
  refused : ℕ → ℕ → Outcome
  wrote : List ℕ → Outcome

-- a line of numbers
abbrev pub numbers_line : ℕ → List ℕ → List ℕ
numbers_line letter ns = line_text letter (map number ns)

abbrev pub expr_numbers : List Expression → List ℕ
expr_numbers [] = []
expr_numbers (e ∷ es) = e.kind ∷ e.name ∷ e.index ∷ expr_numbers es

abbrev pub exprs_line : ℕ → List Expression → List ℕ
exprs_line letter es = numbers_line letter (expr_numbers es)

abbrev pub projected_numbers : List Projected → List ℕ
projected_numbers [] = []
projected_numbers (p ∷ ps) = p.name ∷ p.place ∷ projected_numbers ps

abbrev pub child_lines : List (List Expression) → List ℕ
child_lines [] = []
child_lines (c ∷ cs) = exprs_line 67 c ++ child_lines cs

unfoldable pub key_answer_text : KeyAnswer → List ℕ
key_answer_text a =
    numbers_line 107 (a.changed ∷ a.report ∷ []) ++ (numbers_line 80 a.positions ++ (exprs_line 82 a.required
    ++ (exprs_line 76 a.left ++ (exprs_line 71 a.right ++ (numbers_line 83 a.directions
    ++ (numbers_line 74 (projected_numbers a.projection) ++ child_lines a.children))))))

unfoldable pub join_answer_text : JoinAnswer → List ℕ
join_answer_text a =
    numbers_line 105 (a.report ∷ a.followed ∷ []) ++ (numbers_line 80 a.positions
    ++ (exprs_line 76 a.left ++ (exprs_line 71 a.right ++ numbers_line 83 a.directions)))

abbrev pub adjusted : Adjustment → Outcome
adjusted (answered a) = wrote (key_answer_text a)
adjusted name_not_found = refused 10 0

abbrev pub key_outcome : Reading KeySheet → Outcome
key_outcome (turned n l) = refused n l
key_outcome (sheet s) = adjusted (adjust_input_keys_ordering same_expr s)

abbrev pub join_outcome : Reading JoinSheet → Outcome
join_outcome (turned n l) = refused n l
join_outcome (sheet s) = wrote (join_answer_text (reorder_join_keys_to_inputs s same_expr))

unfoldable pub adjust_decision : List ℕ → Outcome
adjust_decision s = key_outcome (read_key_sheet s)

unfoldable pub inputs_decision : List ℕ → Outcome
inputs_decision s = join_outcome (read_join_sheet s)
