-- K and I sheets as text: what is written again from a sheet that was read.
-- Renders document 01, "Key sheet", "`I,op,mode` then ..", and demand 2, "Sheets written from a read sheet have the same bytes".
use Rattle.std.specs.Prelude.{ℕ, List, [], ◌∷◌, ◌++◌, Bool, cond, length}
use Rattle.std.proofs.Math.Option.{Option, none, some}
use Rattle.keys.specs.Reorder.{Rule}
use Rattle.keys.specs.Expressions.{Expression}
use Rattle.keys.specs.Adjust.{KeySheet}
use Rattle.keys.specs.Inputs.{JoinSheet}
use Rattle.sheet.specs.KeyAnswers.{numbers_line, expr_numbers, exprs_line, child_lines}

abbrev pub mark_number : Bool → ℕ
mark_number b = cond b 1 0

abbrev pub rule_exprs : List (Rule Expression) → List Expression
rule_exprs [] = []
rule_exprs (r ∷ rs) = r.from ∷ r.to ∷ rule_exprs rs

abbrev pub rules_line : ℕ → List (Rule Expression) → List ℕ
rules_line letter rs = exprs_line letter (rule_exprs rs)

unfoldable pub key_sheet_text : KeySheet → List ℕ
key_sheet_text s =
    numbers_line 75 (s.op ∷ s.mode ∷ s.join ∷ s.columns ∷ mark_number s.plain ∷ mark_number s.partial ∷ length s.children ∷ [])
    ++ (exprs_line 82 s.required ++ (exprs_line 76 s.left ++ (exprs_line 71 s.right ++ (numbers_line 83 s.directions
    ++ (rules_line 87 s.rewriting ++ (numbers_line 79 s.groups ++ (numbers_line 65 s.aggregates ++ (exprs_line 77 s.mapped
    ++ child_lines s.children))))))))

-- a mark, and the keys after mark 1
abbrev pub input_numbers : Option (List Expression) → List ℕ
input_numbers none = 0 ∷ []
input_numbers (some es) = 1 ∷ expr_numbers es

unfoldable pub join_sheet_text : JoinSheet → List ℕ
join_sheet_text s =
    numbers_line 73 (s.op ∷ s.mode ∷ [])
    ++ (exprs_line 76 s.left ++ (exprs_line 71 s.right ++ (numbers_line 83 s.directions
    ++ (numbers_line 72 (input_numbers s.left_input) ++ (numbers_line 78 (input_numbers s.right_input)
    ++ (rules_line 87 s.left_rewriting ++ rules_line 86 s.right_rewriting))))))
