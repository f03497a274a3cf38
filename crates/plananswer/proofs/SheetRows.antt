-- A D sheet's text from the rows that are held of it.
-- Assumes nothing.
use mathlib.Core.Path.{◌≡◌, refl, sym, ap, ap₂, ◌∙◌}
use mathlib.Core.List.{List, [], ◌∷◌, ◌++◌, map, append-nil}
use Prim.Native.Nat.{ℕ, zero, suc, ◌+◌, ◌≤◌}
use native.Mathlib.Omega.{arith}
use lib.ListN.{length, get_or, drop}
use lib.Seq.{drop-cons}
use Rattle.std.proofs.lemmas.List.{drop_all}
use Rattle.std.proofs.lemmas.Simd.{map-map}
use Rattle.text.specs.declared.field.Field.{Field}
use Rattle.text.specs.Write.{line_text}
use Rattle.sheet.specs.KeyAnswers.{numbers_line}
use Rattle.exchange.specs.declared.settings.Settings.{Settings}
use Rattle.exchange.specs.Trees.{Plan}
use Rattle.exchange.specs.Rows.{flatten}
use Rattle.exchange.specs.Facts.{ChildFacts, Row}
use Rattle.exchange.specs.FactRows.{node_facts, child_facts, fact_row}
use Rattle.lines.proofs.Pieces.{Due, due_all}
use Rattle.plananswer.specs.RowTexts.{lines_of}
use Rattle.plansheet.specs.PlanTexts.{lines_text, number_fields, settings_numbers, row_fields, node_numbers, child_numbers, row_numbers, child_fields, fact_fields, facts_text, plan_text}
use Rattle.plananswer.specs.SheetTexts.{tree_row_line, child_row_line, fact_row_line, sheet_rows_text}

-- what the text is made of: its lines D, T, B, F, X and Y, one after another
module _ (s : Settings) (tree : List (List ℕ)) (b : List ℕ) (children facts : List (List ℕ)) (masks : List ℕ) where
  abbrev pub sheet_parts : List (List ℕ)
  sheet_parts =
      numbers_line 68 (settings_numbers s)
      ∷ lines_of tree_row_line tree
      ∷ numbers_line 66 (node_numbers (node_facts b))
      ∷ lines_of child_row_line children
      ∷ lines_of fact_row_line facts
      ∷ numbers_line 89 masks
      ∷ []

  -- where there is room for the text, all of them are to be written
  pub sheet_due : (out : List ℕ) (at : ℕ) → at + length (sheet_rows_text s tree b children facts masks) ≤ length out → Due out at (sheet_rows_text s tree b children facts masks) out at sheet_parts
  unfolding sheet_rows_text
  sheet_due out at room = due_all out at (rw (append-nil (numbers_line 89 masks))) room

-- ---- rows of numbers as the lines of their numbers

-- n entries from i on
abbrev entries : ℕ → ℕ → List ℕ → List ℕ
entries i zero xs = []
entries i (suc n) xs = get_or xs i 0 ∷ entries (suc i) n xs

entries_all : (i n : ℕ) (xs : List ℕ) → i + n ≡ length xs → drop i xs ≡ entries i n xs
entries_all i zero xs h = drop_all i xs (omega arith)
entries_all i (suc n) xs h = drop-cons xs i 0 (omega arith) ∙ ap (λ (t : List ℕ). get_or xs i 0 ∷ t) (entries_all (suc i) n xs (omega arith))

pub child_numbers_lem : (row : List ℕ) → length row ≡ 7 → child_row_line row ≡ numbers_line 70 row
unfolding child_row_line
child_numbers_lem row h = ap (numbers_line 70) (sym (entries_all 0 7 row (sym h)))

pub fact_numbers_lem : (row : List ℕ) → length row ≡ 13 → fact_row_line row ≡ numbers_line 88 row
unfolding fact_row_line
fact_numbers_lem row h = ap (numbers_line 88) (sym (entries_all 0 13 row (sym h)))

-- a line for each row of fields
lines_text_lem : {A : Type 0} (letter : ℕ) (line : A → List ℕ) (fields : A → List Field) → ((x : A) → line x ≡ line_text letter (fields x)) → (xs : List A)
    → lines_of line xs ≡ lines_text letter (map fields xs)
unfolding lines_of lines_text
lines_text_lem letter line fields e [] = refl
lines_text_lem letter line fields e (x ∷ xs) = ap₂ ◌++◌ (e x) (lines_text_lem letter line fields e xs)

tree_text : (rows : List (List ℕ)) → lines_of tree_row_line rows ≡ lines_text 84 (map row_fields rows)
unfolding tree_row_line
tree_text rows = lines_text_lem 84 tree_row_line row_fields (λ x. refl) rows

child_text : (rows : List (List ℕ)) → lines_of child_row_line rows ≡ lines_text 70 (child_fields (map child_facts rows))
unfolding child_row_line
child_text rows =
    lines_text_lem 70 child_row_line (λ x. number_fields (child_numbers (child_facts x))) (λ x. refl) rows
    ∙ ap (lines_text 70) (sym (map-map (λ (f : ChildFacts). number_fields (child_numbers f)) child_facts rows))

fact_text : (rows : List (List ℕ)) → lines_of fact_row_line rows ≡ lines_text 88 (fact_fields (map fact_row rows))
unfolding fact_row_line
fact_text rows =
    lines_text_lem 88 fact_row_line (λ x. number_fields (row_numbers (fact_row x))) (λ x. refl) rows
    ∙ ap (lines_text 88) (sym (map-map (λ (x : Row). number_fields (row_numbers x)) fact_row rows))

-- a sheet's text is that of its settings, the rows of its tree, and the rows of its facts
pub rows_sheet :
    (s : Settings) (t : Plan) (b : List ℕ) (children facts : List (List ℕ)) (masks : List ℕ) →
    sheet_rows_text s (flatten t) b children facts masks
    ≡ plan_text (record { settings = s; plan = t; facts = record { node = node_facts b; children = map child_facts children; rows = map fact_row facts; masks = masks } })
unfolding sheet_rows_text plan_text facts_text
rows_sheet s t b children facts masks = rw (tree_text (flatten t), child_text children, fact_text facts)
