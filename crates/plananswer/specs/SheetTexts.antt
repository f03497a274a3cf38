-- Cited by the contracts: a D sheet's text from the rows that are held of it. That it is the text of the sheet's value
-- (`plan_text` of crate `plansheet`) is proved in proofs/SheetRows.antt.
-- Renders document 01, "Exchange sheet", and demand 2, "Sheets written from a read sheet have the same bytes".
use Rattle.std.specs.Prelude.{ℕ, List, ◌++◌}
use Rattle.text.specs.Write.{line_text}
use Rattle.sheet.specs.KeyAnswers.{numbers_line}
use Rattle.exchange.specs.declared.settings.Settings.{Settings}
use Rattle.exchange.specs.FactRows.{node_facts, child_facts, fact_row}
use Rattle.plansheet.specs.PlanTexts.{settings_numbers, row_fields, node_numbers, child_numbers, row_numbers}
use Rattle.plananswer.specs.RowTexts.{lines_of}

-- a row's T line
unfoldable pub tree_row_line : List ℕ → List ℕ
tree_row_line x = line_text 84 (row_fields x)

-- a row's F line
unfoldable pub child_row_line : List ℕ → List ℕ
child_row_line x = numbers_line 70 (child_numbers (child_facts x))

-- a row's X line
unfoldable pub fact_row_line : List ℕ → List ℕ
fact_row_line x = numbers_line 88 (row_numbers (fact_row x))

-- D, T, B, F, X, Y
unfoldable pub sheet_rows_text : Settings → List (List ℕ) → List ℕ → List (List ℕ) → List (List ℕ) → List ℕ → List ℕ
sheet_rows_text s tree b children facts masks =
    numbers_line 68 (settings_numbers s) ++ (lines_of tree_row_line tree ++ (numbers_line 66 (node_numbers (node_facts b))
    ++ (lines_of child_row_line children ++ (lines_of fact_row_line facts ++ numbers_line 89 masks))))
