-- DEMAND 3: whatever is decided of any sheet is guaranteed, where the sheet holds no placeholder and no child whose mark `gains` is 0 is split at its source.
-- Each of the two conditions is needed (`KeyNeeded`, `PlanNeeded`); the third of the demand always holds (`PlanGuaranteed`, `nothing_taken`).
use mathlib.Core.Path.{◌≡◌}
use mathlib.Core.Bool.{Bool, true, false, cond}
use lib.Dec.{eqb}
use lib.ListN.{get_or}
use Rattle.sheet.specs.KeyAnswers.{wrote, adjust_decision, inputs_decision}
use Rattle.plananswer.specs.PlanDecision.{plan_decision}
use Rattle.lochkave.specs.Decision.{decision}
use Rattle.guarantee.specs.Guarantee.{Guaranteed, AnswersGuaranteed}
use Rattle.guarantee.proofs.KeysGuaranteed.{keys_guaranteed, inputs_guaranteed}
use Rattle.guarantee.proofs.PlanGuaranteed.{plan_guaranteed}

pub guaranteed : AnswersGuaranteed
unfolding decision
guaranteed s a e clean gains = go (eqb (get_or s 0 0) 75) (eqb (get_or s 0 0) 73) e
  where
    go : (k i : Bool) → cond k (adjust_decision s) (cond i (inputs_decision s) (plan_decision s)) ≡ wrote a → Guaranteed s a
    go true i e = keys_guaranteed s a e clean
    go false true e = inputs_guaranteed s a e clean
    go false false e = plan_guaranteed s a e gains
