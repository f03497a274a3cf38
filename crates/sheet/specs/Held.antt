-- A sheet that was read, as it is held: line i is the first numbers of list i, so many as its count says, its expressions packed;
-- line 0 is the head. What K and I sheets the lists make, and their text. Renders document 01, "Key sheet", "Lines in order".
use Rattle.std.specs.Prelude.{ℕ, zero, suc, ◌+◌, ◌≤◌, ◌<◌, ◌≡◌, List, [], ◌∷◌, ◌++◌, length, get_or, take, drop}
use Rattle.keys.specs.Expressions.{Expression, expressions}
use Rattle.keys.specs.Adjust.{KeySheet}
use Rattle.keys.specs.Inputs.{JoinSheet}
use Rattle.keys.specs.Answers.{key_sheet}
use Rattle.keys.specs.InputValues.{join_sheet}
use Rattle.keys.specs.declared.answer.Operator.{Operator}
use Rattle.linekinds.specs.ListLines.{line_letter, line_codes}
use Rattle.linekinds.specs.declared.kind.Codes.{Codes}
use Rattle.linekinds.specs.declared.kind.Codes.TheVariants as C
use Rattle.linekinds.specs.declared.lists.SheetKind.{SheetKind}
use Rattle.sheet.specs.KeySheets.{mark}
use Rattle.sheet.specs.KeyAnswers.{numbers_line, expr_numbers}
use Rattle.sheet.specs.LegalSheets.{LegalKeySheet, LegalJoinSheet}

-- the numbers of line i
unfoldable pub held_at : List (List ℕ) → List ℕ → ℕ → List ℕ
held_at lists counts i = take (get_or counts i 0) (get_or lists i [])

-- every two numbers a row
unfoldable pub pair_rows : List ℕ → List (List ℕ)
pair_rows [] = []
pair_rows (a ∷ []) = []
pair_rows (a ∷ b ∷ rest) = (a ∷ b ∷ []) ∷ pair_rows rest

-- op, mode, join, left, plain, partial of a K line's numbers
abbrev pub operator_of : List ℕ → Operator
operator_of h = record {
  op = get_or h 0 0;
  mode = get_or h 1 0;
  join = get_or h 2 0;
  columns = get_or h 3 0;
  plain = mark (get_or h 4 0);
  partial = mark (get_or h 5 0);
}

module _ (lists : List (List ℕ)) (counts : List ℕ) where
  -- n lists of expressions from line i on
  abbrev pub expr_lists : ℕ → ℕ → List (List Expression)
  expr_lists i zero = []
  expr_lists i (suc n) = expressions (held_at lists counts i) ∷ expr_lists (suc i) n

  -- how many children the K line has
  abbrev pub child_count : ℕ
  child_count = get_or (held_at lists counts 0) 6 0

  unfoldable pub held_key_sheet : KeySheet
  held_key_sheet =
      key_sheet (operator_of (held_at lists counts 0)) (held_at lists counts 1) (held_at lists counts 2) (held_at lists counts 3) (held_at lists counts 4)
      (pair_rows (held_at lists counts 5)) (held_at lists counts 6) (held_at lists counts 7) (held_at lists counts 8) (expr_lists 9 child_count)

  unfoldable pub held_join_sheet : JoinSheet
  held_join_sheet =
      join_sheet (get_or (held_at lists counts 0) 0 0) (get_or (held_at lists counts 0) 1 0) (held_at lists counts 1) (held_at lists counts 2)
      (held_at lists counts 3) (held_at lists counts 4) (held_at lists counts 5) (pair_rows (held_at lists counts 6)) (pair_rows (held_at lists counts 7))

  -- room for all lines, a whole head, and a legal sheet in it
  pub record KeyHeld : Type 0 where
    pub lines : (17 ≤ length lists) × (17 ≤ length counts)
    pub room : (i : ℕ) → i < 9 + child_count → get_or counts i 0 ≤ 64
    pub head : length (held_at lists counts 0) ≡ 7
    pub legal : LegalKeySheet held_key_sheet

  pub record JoinHeld : Type 0 where
    pub lines : (8 ≤ length lists) × (8 ≤ length counts)
    pub room : (i : ℕ) → i < 8 → get_or counts i 0 ≤ 64
    pub head : length (held_at lists counts 0) ≡ 2
    pub inputs : (length (held_at lists counts 4) ≤ 33) × (length (held_at lists counts 5) ≤ 33)
    pub legal : LegalJoinSheet held_join_sheet

-- the fields of a line whose numbers are so held
abbrev pub field_numbers : Codes → List ℕ → List ℕ
field_numbers C.Key ns = ns
field_numbers C.Join ns = ns
field_numbers C.Exprs ns = expr_numbers (expressions ns)
field_numbers C.Rules ns = expr_numbers (expressions ns)
field_numbers C.Input ns = take 1 ns ++ expr_numbers (expressions (drop 1 ns))
field_numbers C.Directions ns = ns
field_numbers C.Names ns = ns

-- n lines from line i on, as text
abbrev pub held_text : SheetKind → List (List ℕ) → List ℕ → ℕ → ℕ → List ℕ
held_text k lists counts i zero = []
held_text k lists counts i (suc n) =
    numbers_line (line_letter k i) (field_numbers (line_codes k i) (held_at lists counts i)) ++ held_text k lists counts (suc i) n
