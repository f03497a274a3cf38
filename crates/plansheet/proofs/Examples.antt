-- D sheets of examples/ by computation: each is refused as its answer says, or written as it stood (`read_again`).
use mathlib.Core.Path.{◌≡◌, refl}
use Prim.Native.Nat.{ℕ}
use Prim.Native.String.{String}
use mathlib.Core.List.{List, [], ◌∷◌, map}
use mathlib.Core.Bool.{cond}
use lib.Dec.{eqb}
use lib.ListN.{length}
use Rattle.text.specs.Text.{until, onto, parts, run, field, fields, line, line_fields}
use Rattle.text.specs.Lines.{first_of}
use Rattle.text.specs.Bounds.{fits, allows_all}
use Rattle.text.proofs.Examples.{bytes}
use Rattle.text.specs.Write.{digits, decimal, field_text, fields_text, line_text}
use Rattle.exchange.specs.Rows.{row_of as packed_row, flatten, grow}
use Rattle.exchange.specs.Fit.{within_bits, all_within_bits, is_repeated, none_repeated, child_numbered, rows_fit, facts_fit}
use Rattle.exchange.specs.Children.{remove_dist_changing_operators}
use Rattle.exchange.specs.States.{children_from}
use Rattle.linekinds.specs.Lines.{line_number, rows_of}
use Rattle.sheet.specs.KeySheets.{Reading, sheet, turned}
use Rattle.plansheet.specs.Shapes.{over_any}
use Rattle.plansheet.specs.PlanLines.{two_to}
use Rattle.plansheet.specs.PlanSheets.{PlanSheet, operator_rows, plan_of, child_count, read_masks, read_children, read_facts, read_plan}
use Rattle.plansheet.specs.PlanTexts.{lines_text, facts_text, plan_text}

pub record Example : Type 0 where
  pub sheet : String
  pub said : List ℕ

-- number and line; of a sheet that is read, no number and its text
abbrev pub told : Reading PlanSheet → List ℕ
told (turned n l) = n ∷ l ∷ []
told (sheet x) = 0 ∷ plan_text x

-- where nothing is said, the sheet itself
abbrev pub expected : Example → List ℕ
expected r = cond (eqb (length r.said) 0) (0 ∷ bytes r.sheet) r.said

abbrev pub sheets : List Example
sheets =
    -- bound-batch-0
    record { sheet = "D,4,0,0,0,0,9,0,0,0\nT,0,1,0,,0,0,0,0\nB,0,0,0,0\nY,0\n"; said = 7 ∷ 0 ∷ [] }
    -- bound-batch-65536
    ∷ record { sheet = "D,4,0,0,65536,0,9,0,0,0\nT,0,1,0,,0,0,0,0\nB,0,0,0,0\nY,0\n"; said = 2 ∷ 1 ∷ [] }
    -- bound-limit-4294967295
    ∷ record { sheet = "D,4,0,0,8192,0,9,0,0,0\nT,0,1,0,4294967295,0,0,0,0\nB,0,0,0,0\nY,0\n"; said = [] }
    -- bound-limit-4294967296
    ∷ record { sheet = "D,4,0,0,8192,0,9,0,0,0\nT,0,1,0,4294967296,0,0,0,0\nB,0,0,0,0\nY,0\n"; said = 2 ∷ 2 ∷ [] }
    -- bound-rows-4294967295
    ∷ record { sheet = "D,4,1,0,8192,0,9,0,0,0\nT,0,1,0,,0,0,0,1\nT,0,1,0,,0,0,0,0\nB,0,0,0,0\nF,1,1,0,4294967295,0,0,0\nX,1,0,1,0,0,0,0,0,0,0,0,0,0\nX,1,6,4,0,0,0,0,0,0,0,0,0,0\nY,0,0\n"; said = [] }
    -- bound-rows-4294967296
    ∷ record { sheet = "D,4,1,0,8192,0,9,0,0,0\nT,0,1,0,,0,0,0,1\nT,0,1,0,,0,0,0,0\nB,0,0,0,0\nF,1,1,0,4294967296,0,0,0\nX,1,0,1,0,0,0,0,0,0,0,0,0,0\nX,1,6,4,0,0,0,0,0,0,0,0,0,0\nY,0,0\n"; said = 2 ∷ 5 ∷ [] }
    -- bound-target-4096
    ∷ record { sheet = "D,4096,0,0,8192,0,9,0,0,0\nT,0,1,0,,0,0,0,0\nB,0,0,0,0\nY,0\n"; said = [] }
    -- bound-target-4097
    ∷ record { sheet = "D,4097,0,0,8192,0,9,0,0,0\nT,0,1,0,,0,0,0,0\nB,0,0,0,0\nY,0\n"; said = 7 ∷ 0 ∷ [] }
    -- child-count-of-merge
    ∷ record { sheet = "D,4,0,0,8192,0,9,0,0,0\nT,1,1,0,,0,0,0,0\nB,0,0,0,0\nY,0\n"; said = 6 ∷ 2 ∷ [] }
    -- code-need-3
    ∷ record { sheet = "D,4,0,0,8192,0,9,0,0,0\nT,0,1,0,,0,0,3,0\nB,0,0,0,0\nY,0\n"; said = 4 ∷ 2 ∷ [] }
    -- code-rowkind-3
    ∷ record { sheet = "D,4,0,0,8192,0,9,0,0,0\nT,0,1,0,,0,0,0,1\nT,0,1,0,,0,0,0,0\nB,0,0,0,0\nF,0,1,3,0,0,0,0\nX,1,0,1,0,0,0,0,0,0,0,0,0,0\nY,0,0\n"; said = 4 ∷ 5 ∷ [] }
    -- code-tree-kind-12
    ∷ record { sheet = "D,4,0,0,8192,0,9,0,0,0\nT,12,1,0,,0,0,0,1\nT,0,1,0,,0,0,0,0\nB,0,0,0,0\nF,0,1,2,0,0,0,0\nX,1,0,1,0,0,0,0,0,0,0,0,0,0\nY,0,0\n"; said = 4 ∷ 2 ∷ [] }
    -- decision-02-worked-under-root
    ∷ record { sheet = "D,4,0,0,8192,0,9,0,0,0\nT,3,4,0,,0,0,0,1\nT,0,2,0,,0,0,0,1\nT,0,2,0,,0,1,0,0\nB,0,0,0,0\nF,0,1,2,0,0,0,0\nX,1,0,2,0,0,0,0,0,0,0,0,0,0\nY,0,0\n"; said = [] }
    -- decision-06-limit-on-repartition
    ∷ record { sheet = "D,4,0,0,8192,0,9,0,0,0\nT,3,4,0,7,0,0,0,1\nT,0,2,0,,0,0,0,0\nB,0,0,0,0\nY,0\n"; said = 2 ∷ 2 ∷ [] }
    -- decision-07-nine-entries
    ∷ record { sheet = "D,4,0,0,8192,0,9,0,0,0\nT,0,1,0,,0,0,0,1\nT,0,1,0,,0,0,0,0\nB,0,0,0,0\nF,0,1,2,0,0,0,9\nX,1,0,1,0,0,0,0,0,0,0,0,0,0\nY,0,0\n"; said = 3 ∷ 5 ∷ [] }
    -- decision-10-one-mask
    ∷ record { sheet = "D,4,0,0,8192,0,9,0,0,0\nT,0,1,0,,0,0,0,1\nT,0,1,0,,0,0,0,0\nB,0,0,0,0\nF,0,1,2,0,0,0,0\nX,1,0,1,0,0,0,0,0,0,0,0,0,0\nY,0\n"; said = 2 ∷ 7 ∷ [] }
    -- decision-11-rows-not-used
    ∷ record { sheet = "D,4,1,0,8192,0,9,0,0,0\nT,0,1,0,,0,0,0,1\nT,0,1,0,,0,0,0,0\nB,0,0,0,0\nF,1,1,2,5,0,0,0\nX,1,0,1,0,0,0,0,0,0,0,0,0,0\nX,1,6,4,0,0,0,0,0,0,0,0,0,0\nY,0,0\n"; said = [] }
    -- decision-12-no-masks
    ∷ record { sheet = "D,4,0,0,8192,0,9,0,0,0\nT,0,1,0,,0,0,0,1\nT,0,1,0,,0,0,0,0\nB,0,0,0,0\nF,0,1,2,0,0,0,0\nX,1,0,1,0,0,0,0,0,0,0,0,0,0\n"; said = 1 ∷ 7 ∷ [] }
    -- decision-12-row-after-masks
    ∷ record { sheet = "D,4,0,0,8192,0,9,0,0,0\nT,0,1,0,,0,0,0,1\nT,0,1,0,,0,0,0,0\nB,0,0,0,0\nF,0,1,2,0,0,0,0\nX,1,0,1,0,0,0,0,0,0,0,0,0,0\nY,0,0\nX,1,6,4,0,0,0,0,0,0,0,0,0,0\n"; said = 1 ∷ 8 ∷ [] }
    -- decision-13-tree-line-too-few
    ∷ record { sheet = "D,4,0,0,8192,0,9,0,0,0\nT,0,1,0,,0,0,0,1\nB,0,0,0,0\nF,0,1,2,0,0,0,0\nX,1,0,1,0,0,0,0,0,0,0,0,0,0\nY,0,0\n"; said = 1 ∷ 3 ∷ [] }
    -- decision-13-tree-line-too-many
    ∷ record { sheet = "D,4,0,0,8192,0,9,0,0,0\nT,0,1,0,,0,0,0,0\nT,0,1,0,,0,0,0,0\nB,0,0,0,0\nY,0\n"; said = 1 ∷ 3 ∷ [] }
    -- decision-14-child-0
    ∷ record { sheet = "D,4,0,0,8192,0,9,0,0,0\nT,0,1,0,,0,0,0,1\nT,0,1,0,,0,0,0,0\nB,0,0,0,0\nF,0,1,2,0,0,0,0\nX,0,0,1,0,0,0,0,0,0,0,0,0,0\nX,1,0,1,0,0,0,0,0,0,0,0,0,0\nY,0,0\n"; said = 8 ∷ 0 ∷ [] }
    -- decision-14-form-16
    ∷ record { sheet = "D,4,0,0,8192,0,9,0,0,0\nT,0,1,0,,0,0,0,1\nT,0,1,0,,0,0,0,0\nB,0,0,0,0\nF,0,1,2,0,0,0,0\nX,1,0,1,0,0,0,0,0,0,0,0,0,0\nX,1,16,4,0,0,0,0,0,0,0,0,0,0\nY,0,0\n"; said = 8 ∷ 0 ∷ [] }
    -- decision-14-row-repeated
    ∷ record { sheet = "D,4,0,0,8192,0,9,0,0,0\nT,0,1,0,,0,0,0,1\nT,0,1,0,,0,0,0,0\nB,0,0,0,0\nF,0,1,2,0,0,0,0\nX,1,0,1,0,0,0,0,0,0,0,0,0,0\nX,1,0,1,0,0,0,0,0,0,0,0,0,0\nY,0,0\n"; said = 8 ∷ 0 ∷ [] }
    -- decision-19-row-missing
    ∷ record { sheet = "D,4,0,0,8192,0,9,0,0,0\nT,0,1,0,,0,0,0,2\nT,0,1,0,,0,0,2,0\nT,0,1,0,,0,0,1,0\nB,0,0,0,0\nF,0,1,2,0,0,0,0\nF,0,1,2,0,0,0,0\nX,1,0,1,0,0,1,1,0,0,0,0,0,0\nX,2,0,1,0,0,0,0,0,0,0,0,0,0\nY,1,2,0,0\n"; said = [] }
    -- decision-19-row-there
    ∷ record { sheet = "D,4,0,0,8192,0,9,0,0,0\nT,0,1,0,,0,0,0,2\nT,0,1,0,,0,0,2,0\nT,0,1,0,,0,0,1,0\nB,0,0,0,0\nF,0,1,2,0,0,0,0\nF,0,1,2,0,0,0,0\nX,1,0,1,0,0,1,1,0,0,0,0,0,0\nX,1,8,4,1,1,1,1,0,0,0,0,0,0\nX,2,0,1,0,0,0,0,0,0,0,0,0,0\nY,1,2,0,0\n"; said = [] }
    -- decision-20-window
    ∷ record { sheet = "D,4,0,0,8192,0,9,0,0,0\nT,7,1,0,,0,0,0,1\nT,0,1,0,,0,0,0,0\nB,0,1,0,0\nF,0,1,2,0,0,0,0\nX,1,0,1,0,0,0,0,0,0,0,0,0,0\nY,0,0\n"; said = [] }
    -- decision-22-interleave
    ∷ record { sheet = "D,4,0,0,8192,0,9,0,0,0\nT,9,8,0,3,5,0,0,2\nT,0,4,0,,5,0,0,0\nT,0,4,0,,5,0,0,0\nB,0,0,0,0\nF,0,1,2,0,0,0,0\nF,0,1,2,0,0,0,0\nX,1,0,4,1,1,0,0,0,0,0,0,0,5\nX,2,0,4,1,1,0,0,0,0,0,0,0,5\nY,0,0,0,0\n"; said = [] }
    -- decision-25-leaf-refused
    ∷ record { sheet = "D,0,0,0,8192,0,9,0,0,0\nT,0,1,0,,0,1,0,0\nB,0,0,0,0\nY,0\n"; said = 7 ∷ 0 ∷ [] }
    -- decision-25-leaf
    ∷ record { sheet = "D,4,0,0,8192,0,9,0,0,0\nT,0,1,0,,0,1,0,0\nB,0,0,0,0\nY,0\n"; said = [] }
    -- marked-05
    ∷ record { sheet = "D,4,1,0,8192,0,9,0,0,0\nT,0,1,0,,0,0,0,1\nT,0,1,0,,0,0,0,0\nB,0,0,0,0\nF,1,1,0,8192,0,0,0\nX,1,0,1,0,0,0,0,0,0,0,0,0,0\nX,1,6,4,0,0,0,0,0,0,0,0,0,0\nY,0,0\n"; said = [] }
    -- marked-06
    ∷ record { sheet = "D,4,1,0,8192,0,9,0,0,0\nT,0,1,0,,0,0,0,1\nT,0,1,0,,0,0,0,0\nB,0,0,0,0\nF,1,1,0,8193,0,0,0\nX,1,0,1,0,0,0,0,0,0,0,0,0,0\nX,1,6,4,0,0,0,0,0,0,0,0,0,0\nY,0,0\n"; said = [] }
    -- marked-07
    ∷ record { sheet = "D,4,1,0,8192,0,9,0,0,0\nT,0,1,0,,0,0,0,1\nT,0,1,0,,0,0,0,0\nB,0,0,0,0\nF,1,1,2,0,0,0,0\nX,1,0,1,0,0,0,0,0,0,0,0,0,0\nX,1,6,4,0,0,0,0,0,0,0,0,0,0\nY,0,0\n"; said = [] }
    -- marked-08
    ∷ record { sheet = "D,4,0,0,8192,0,9,0,0,0\nT,0,1,0,,0,0,0,1\nT,0,1,0,,0,0,1,0\nB,0,0,0,0\nF,0,1,2,0,0,0,0\nX,1,0,1,0,0,0,0,0,0,0,0,0,0\nY,0,0\n"; said = [] }
    -- marked-09
    ∷ record { sheet = "D,4,0,0,8192,0,9,0,0,0\nT,0,1,0,,0,0,0,1\nT,0,2,0,,0,0,1,0\nB,0,0,0,0\nF,0,1,2,0,0,0,0\nX,1,0,2,0,0,0,0,0,0,0,0,0,0\nX,1,2,1,0,0,0,0,0,0,0,0,0,0\nY,0,0\n"; said = [] }
    -- marked-10
    ∷ record { sheet = "D,4,0,0,8192,0,9,0,0,0\nT,0,1,0,,0,0,0,1\nT,1,1,0,0,1,0,0,1\nT,0,2,0,,1,0,0,0\nB,0,0,0,0\nF,0,0,2,0,0,0,0\nX,1,0,1,0,0,0,0,0,0,0,0,0,1\nY,0,0\n"; said = [] }
    -- mask-beyond-children
    ∷ record { sheet = "D,4,0,0,8192,0,9,0,0,0\nT,0,1,0,,0,0,0,1\nT,0,1,0,,0,0,0,0\nB,0,0,0,0\nF,0,1,2,0,0,0,0\nX,1,0,1,0,0,0,0,0,0,0,0,0,0\nY,2,0\n"; said = 8 ∷ 0 ∷ [] }
    -- row-constant-beyond-entries
    ∷ record { sheet = "D,4,0,0,8192,0,9,0,0,0\nT,0,1,0,,0,0,0,1\nT,0,1,0,,0,0,0,0\nB,0,0,0,0\nF,0,1,2,0,0,0,1\nX,1,0,1,0,0,0,0,0,0,2,0,0,0\nY,0,0\n"; said = 8 ∷ 0 ∷ [] }
    -- row-count-of-exchange
    ∷ record { sheet = "D,4,0,0,8192,0,9,0,0,0\nT,0,1,0,,0,0,0,1\nT,0,1,0,,0,0,0,0\nB,0,0,0,0\nF,0,1,2,0,0,0,0\nX,1,0,1,0,0,0,0,0,0,0,0,0,0\nX,1,4,3,0,0,0,0,0,0,0,0,0,0\nY,0,0\n"; said = 8 ∷ 0 ∷ [] }
    -- row-count-of-merge
    ∷ record { sheet = "D,4,0,0,8192,0,9,0,0,0\nT,0,1,0,,0,0,0,1\nT,0,1,0,,0,0,0,0\nB,0,0,0,0\nF,0,1,2,0,0,0,0\nX,1,0,1,0,0,0,0,0,0,0,0,0,0\nX,1,2,2,0,0,0,0,0,0,0,0,0,0\nY,0,0\n"; said = 8 ∷ 0 ∷ [] }
    -- row-order-of-form-0
    ∷ record { sheet = "D,4,0,0,8192,0,9,0,0,0\nT,0,1,0,,0,0,0,1\nT,0,1,0,,0,0,0,0\nB,0,0,0,0\nF,0,1,2,0,0,0,0\nX,1,0,1,0,0,0,0,0,0,0,0,0,1\nY,0,0\n"; said = 8 ∷ 0 ∷ [] }
    ∷ []

pub read_again : map (λ (r : Example). told (read_plan (bytes r.sheet))) sheets ≡ map expected sheets
unfolding until onto parts run field fields line line_fields first_of fits allows_all digits decimal field_text fields_text line_text packed_row flatten grow within_bits all_within_bits is_repeated none_repeated child_numbered rows_fit facts_fit remove_dist_changing_operators children_from line_number rows_of over_any two_to operator_rows plan_of child_count read_masks read_children read_facts read_plan lines_text facts_text plan_text
read_again = refl
