-- What a guarantee says of a D sheet: that the one answer whose text was written keeps sentences 3 to 6.
use Prim.Native.Nat.{ℕ}
use mathlib.Core.Path.{◌≡◌, sym, subst, ◌∙◌}
use mathlib.Core.List.{List}
use Rattle.exchange.specs.Ensure.{Answer}
use Rattle.sheet.specs.KeySheets.{sheet}
use Rattle.plansheet.specs.PlanSheets.{PlanSheet, read_plan}
use Rattle.plananswer.specs.PlanTexts.{plan_answer_text}
use Rattle.guarantee.specs.Guarantee.{PlanKept, NoNeeds, Guaranteed}
use Rattle.guarantee.proofs.SheetsOnce.{plan_speaks}
use Rattle.guarantee.proofs.PlanAnswersOnce.{plan_answer_once}

pub plan_says : (s a : List ℕ) (x : PlanSheet) (r : Answer) → read_plan s ≡ sheet x → a ≡ plan_answer_text r → NoNeeds r → Guaranteed s a → PlanKept x r
plan_says s a x r e t n g =
    let p = plan_speaks s a x e g in
    subst (PlanKept x) (plan_answer_once p.0 r p.2 n (sym p.1 ∙ t)) p.3
