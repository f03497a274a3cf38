-- Cited by the contracts: lines from rows, and the answer's text from the numbers of its d line and the rows of its tree.
-- That the rows of a tree give its lines is proved in proofs/RowLines.antt.
-- Renders document 01, "then `t,id,kind,count,keeps,limit,order,mask,tracked,children`".
use Rattle.std.specs.Prelude.{ℕ, List, [], ◌∷◌, ◌++◌}
use Rattle.text.specs.declared.field.Field.{Field}
use Rattle.sheet.specs.KeyAnswers.{numbers_line}
use Rattle.exchange.specs.Trees.{Operator}
use Rattle.exchange.specs.Rows.{unpacked, children_of, operator_of}
use Rattle.plananswer.specs.PlanTexts.{operator_fields, operator_line}

-- what is said of the operator, and the number of its children, that a row stands for
abbrev pub of_row : {A : Type 0} → (Operator → ℕ → A) → List ℕ → A
of_row f x = f (operator_of (unpacked x)) (children_of x)

-- a line for each entry
unfoldable pub lines_of : {A : Type 0} → (A → List ℕ) → List A → List ℕ
lines_of line [] = []
lines_of line (x ∷ xs) = line x ++ lines_of line xs

-- the fields of a row's t line
abbrev pub row_fields : List ℕ → List Field
row_fields x = of_row operator_fields x

-- a row's t line
unfoldable pub row_line : List ℕ → List ℕ
row_line x = of_row operator_line x

-- the d line
unfoldable pub head_line : ℕ → ℕ → ℕ → ℕ → List ℕ
head_line changed window interleave tracked = numbers_line 100 (changed ∷ window ∷ interleave ∷ tracked ∷ [])

unfoldable pub rows_text : ℕ → ℕ → ℕ → ℕ → List (List ℕ) → List ℕ
rows_text changed window interleave tracked rows = head_line changed window interleave tracked ++ lines_of row_line rows
