-- What turns a D sheet back: a line, the sheet, or the work; and what its answer is.
-- Renders document 01, "Where a sheet is turned back": numbers 9 and 11, after those of place Line and Sheet.
use Rattle.std.specs.Prelude.{◌≡◌, ◌⊎◌, ℕ, List}
use Rattle.exchange.specs.Ensure.{Answer, missing_row, unenforceable, answered, ensured}
use Rattle.sheet.specs.KeySheets.{sheet}
use Rattle.plansheet.specs.PlanSheets.{PlanSheet, read_plan}
use Rattle.plananswer.specs.PlanTexts.{plan_answer_text}
use Rattle.plantheorems.specs.PlanRefusals.{PlanTurned}

module _ (s : List ℕ) where
  -- an X row is needed and missing: number 9, line 0
  pub record RowMissing (n l : ℕ) : Type 0 where
    pub is : PlanSheet
    pub reads : read_plan s ≡ sheet is
    pub missing : ensured is.settings is.facts is.plan ≡ missing_row
    pub number : n ≡ 9
    pub line : l ≡ 0

  -- relationships can't be enforced: number 11, line 0
  pub record Unenforceable (n l : ℕ) : Type 0 where
    pub is : PlanSheet
    pub reads : read_plan s ≡ sheet is
    pub rounds : ensured is.settings is.facts is.plan ≡ unenforceable
    pub number : n ≡ 11
    pub line : l ≡ 0

  abbrev pub DecisionTurned : ℕ → ℕ → Type 0
  DecisionTurned n l = PlanTurned s n l ⊎ (RowMissing n l ⊎ Unenforceable n l)

  -- the sheet was read and answered, and these are the answer's bytes
  pub record PlanAnswered (bytes : List ℕ) : Type 0 where
    pub is : PlanSheet
    pub reads : read_plan s ≡ sheet is
    pub answer : Answer
    pub answers : ensured is.settings is.facts is.plan ≡ answered answer
    pub text : bytes ≡ plan_answer_text answer
