-- The decision on a sheet's bytes, whatever its kind.
-- Renders document 01, "Key sheet", "Exchange sheet" and "Where a sheet is turned back".
use Rattle.std.specs.Prelude.{ℕ, List, cond, eqb, get_or}
use Rattle.sheet.specs.KeyAnswers.{Outcome, adjust_decision, inputs_decision}
use Rattle.plananswer.specs.PlanDecision.{plan_decision}

-- by the first byte: a K sheet, an I sheet; anything else must be a D sheet, whose reading refuses any other first line by 1
unfoldable pub decision : List ℕ → Outcome
decision s = cond (eqb (get_or s 0 0) 75) (adjust_decision s) (cond (eqb (get_or s 0 0) 73) (inputs_decision s) (plan_decision s))
