-- The decision on the bytes of a D sheet: a refusal, or the answer's bytes.
-- Renders document 01, "Exchange sheet: read by `ensure_distribution`", and refusals 1 to 11.
use Rattle.std.specs.Prelude.{ℕ, List}
use Rattle.sheet.specs.KeySheets.{Reading, sheet, turned}
use Rattle.sheet.specs.KeyAnswers.{Outcome, refused}
use Rattle.exchange.specs.Ensure.{ensured}
use Rattle.plansheet.specs.PlanSheets.{PlanSheet, read_plan}
use Rattle.plananswer.specs.PlanTexts.{distributed}

-- of a sheet that was read, refusals 9 and 11 or the answer
abbrev pub plan_outcome : Reading PlanSheet → Outcome
plan_outcome (turned n l) = refused n l
plan_outcome (sheet x) = distributed (ensured x.settings x.facts x.plan)

unfoldable pub plan_decision : List ℕ → Outcome
plan_decision s = plan_outcome (read_plan s)
