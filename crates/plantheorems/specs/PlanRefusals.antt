-- What is wrong with a D sheet: for each line the number that turns it back, for the sheet whether settings and facts fit;
-- and which of these is the refusal.
-- Renders document 01, "Lowest line first, then lowest number; then Sheet, Work, Write in table order",
-- and "a missing line counts as the line after the last".
use Rattle.std.specs.Prelude.{◌≡◌, ◌⊎◌, ℕ, List, [], ◌∷◌, ◌++◌, Bool, true, false, length, drop}
use Rattle.text.specs.Text.{parts}
use Rattle.text.specs.Lines.{first_of}
use Rattle.exchange.specs.Trees.{Plan}
use Rattle.exchange.specs.Settings.{settings_fit}
use Rattle.exchange.specs.Fit.{facts_fit}
use Rattle.linekinds.specs.Lines.{Kind, fields_of}
use Rattle.sheet.specs.Refusals.{line_numbers, line_rows, NoLine, FirstLine}
use Rattle.plansheet.specs.PlanLines.{settings_line, plan_line, node_line, child_line, fact_line, mask_line}
use Rattle.linekinds.specs.KeyLines.{values}
use Rattle.plansheet.specs.PlanSheets.{PlanSheet, FactLines, plan_of, child_count, plan_sheet, settings_of}
use Rattle.plantheorems.specs.RunKinds.{run_kinds}

-- ---- the lines after the tree, of a worked node with n children: B, F for each child, X rows while they come, Y

module _ (n : ℕ) (ls : List (List ℕ)) where
  abbrev pub child_kinds : List Kind
  child_kinds = run_kinds child_line n 0 (drop 1 ls)

  -- the lines after the F lines, and after the X rows
  abbrev pub after_children : List (List ℕ)
  after_children = drop (length child_kinds) (drop 1 ls)

  abbrev pub row_kinds : List Kind
  row_kinds = run_kinds fact_line 0 0 after_children

  abbrev pub after_rows : List (List ℕ)
  after_rows = drop (length row_kinds) after_children

  abbrev pub fact_kinds : List Kind
  fact_kinds = node_line ∷ (child_kinds ++ (row_kinds ++ (mask_line n ∷ [])))

  abbrev pub fact_lines_in : FactLines
  fact_lines_in = record {
    node = fields_of (first_of 66 ls);
    children = line_rows child_kinds (drop 1 ls);
    rows = line_rows row_kinds after_children;
    masks = fields_of (first_of 89 after_rows);
  }

-- ---- the lines of a sheet

module _ (s : List ℕ) where
  -- T lines until the tree is complete
  abbrev pub tree_kinds : List Kind
  tree_kinds = run_kinds plan_line 1 0 (drop 1 (parts 10 s))

  abbrev pub plan_in : Plan
  plan_in = plan_of (line_rows tree_kinds (drop 1 (parts 10 s)))

  abbrev pub after_tree : List (List ℕ)
  after_tree = drop (length tree_kinds) (drop 1 (parts 10 s))

  -- the kind of each line: D, T lines, and those that the tree asks for
  abbrev pub plan_kinds : List Kind
  plan_kinds = settings_line ∷ (tree_kinds ++ fact_kinds (child_count plan_in) after_tree)

  -- for each line its number, or 0; and the sheet that its lines make
  unfoldable pub plan_numbers : List ℕ
  plan_numbers = line_numbers plan_kinds 0 (parts 10 s)

  unfoldable pub plan_sheet_in : PlanSheet
  plan_sheet_in = plan_sheet (settings_of (values (fields_of (first_of 68 (parts 10 s))))) plan_in (fact_lines_in (child_count plan_in) after_tree)

  abbrev pub plan_settings_fit : Bool
  plan_settings_fit = settings_fit plan_sheet_in.settings

  abbrev pub plan_facts_fit : Bool
  plan_facts_fit = facts_fit plan_sheet_in.settings plan_sheet_in.facts plan_sheet_in.plan

  -- no line is turned back, and target or batch is out of range: number 7, line 0
  pub record OutOfRange (n l : ℕ) : Type 0 where
    pub lines : NoLine plan_numbers
    pub unfit : plan_settings_fit ≡ false
    pub number : n ≡ 7
    pub line : l ≡ 0

  -- no line is turned back, settings are in range, and X rows or Y masks do not fit: number 8, line 0
  pub record Unfit (n l : ℕ) : Type 0 where
    pub lines : NoLine plan_numbers
    pub settings : plan_settings_fit ≡ true
    pub unfit : plan_facts_fit ≡ false
    pub number : n ≡ 8
    pub line : l ≡ 0

  -- number n and line l turn the sheet back
  abbrev pub PlanTurned : ℕ → ℕ → Type 0
  PlanTurned n l = FirstLine 1 plan_numbers n l ⊎ (OutOfRange n l ⊎ Unfit n l)
