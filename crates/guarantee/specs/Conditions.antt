-- The conditions of demand 3: "that holds no placeholder expression, where no child whose mark `gains` is 0 is split at its source".
-- The third, "no operator with a limit is taken off above the worked node", always holds (`nothing_taken`).
use Rattle.std.specs.Prelude.{ℕ, ◌≡◌, true, List, [], ◌∷◌, ◌++◌}
use Rattle.keys.specs.Expressions.{Expression, same_expr, placeholder}
use Rattle.keys.specs.Arrange.{Lacks}
use Rattle.keys.specs.Adjust.{KeySheet}
use Rattle.keys.specs.Inputs.{JoinSheet, input_keys}
use Rattle.exchange.specs.Partitioning.{splits_gain}
use Rattle.sheet.specs.KeySheets.{sheet, read_key_sheet, read_join_sheet}
use Rattle.sheet.specs.KeyTexts.{rule_exprs}
use Rattle.plansheet.specs.PlanSheets.{PlanSheet, read_plan}
use Rattle.guarantee.specs.Partitioning.{children}

abbrev pub joined : List (List Expression) → List Expression
joined [] = []
joined (es ∷ rest) = es ++ joined rest

-- all expressions of a K sheet, in the order of its lines
abbrev pub key_expressions : KeySheet → List Expression
key_expressions x = x.required ++ (x.left ++ (x.right ++ (rule_exprs x.rewriting ++ (x.mapped ++ joined x.children))))

-- all of an I sheet
abbrev pub join_expressions : JoinSheet → List Expression
join_expressions x =
    x.left ++ (x.right ++ (input_keys x.left_input ++ (input_keys x.right_input ++ (rule_exprs x.left_rewriting ++ rule_exprs x.right_rewriting))))

-- the sheet of these bytes holds no placeholder
pub record NoPlaceholder (s : List ℕ) : Type 0 where
  pub keys : (x : KeySheet) → read_key_sheet s ≡ sheet x → Lacks same_expr placeholder (key_expressions x)
  pub inputs : (x : JoinSheet) → read_join_sheet s ≡ sheet x → Lacks same_expr placeholder (join_expressions x)

-- every child of it that is split at its source has the mark `gains`
abbrev pub SplitsGain : List ℕ → Type 0
SplitsGain s = (x : PlanSheet) → read_plan s ≡ sheet x → splits_gain x.settings (children x) ≡ true
