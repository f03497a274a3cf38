-- `plansheet::plan::judge_plan` meets its contract. One law for each way out (`PlanJudged`).
use mathlib.Core.Path.{sym, ap, ◌∙◌}
use Rattle.exchange.specs.declared.settings.Settings.{Settings}
use Rattle.plansheet.specs.PlanSheets.{settings_of}
use Rattle.plansheet.proofs.PlanJudged.{settings_fine, settings_out, judge_seven, judge_eight, judge_held}
use Rattle.std.specs.Prelude.{Result, Err}
use Rattle.refusals.specs.declared.Refused.{Refused}
use Rattle.plansheet.specs.declared.plan.Plan as P
use Rattle.plansheet.proofs.plan.judge_plan.Goals as goal

abbrev back : Refused → Result P.Plan Refused
back w = Err w

pub returns-in_default-clause-answer : goal.returns-in_default-clause-answer
returns-in_default-clause-answer c = let e = settings_out ((settings_of c.args.head.now)) (sym c.in_default.is ∙ c.checked_settings.ensures) in
    (λ t g l r. ap back c.on_line.ensures ∙ judge_seven ((settings_of c.args.head.now)) t g e)

pub returns-then-not-plan_fits-clause-answer : goal.returns-then-not-plan_fits-clause-answer
returns-then-not-plan_fits-clause-answer c = let e = settings_fine ((settings_of c.args.head.now)) _ (sym c.in-Some.is ∙ c.checked_settings.ensures) in (λ t g l r. ap back c.on_line-then-not-plan_fits.ensures ∙ judge_eight ((settings_of c.args.head.now)) t g e.0 (sym (c.plan_fits.ensures.answer ((settings_of c.args.head.now)) t g (ap (λ (y : Settings). y.target) (sym e.1)) r) ∙ c.if-not-plan_fits.true))

pub returns-clause-answer : goal.returns-clause-answer
returns-clause-answer c = let e = settings_fine ((settings_of c.args.head.now)) _ (sym c.in-Some.is ∙ c.checked_settings.ensures) in
    let y = c.if-not-plan_fits.false in (λ t g l r. judge_held ((settings_of c.args.head.now)) t g e.0 (sym (c.plan_fits.ensures.answer ((settings_of c.args.head.now)) t g (ap (λ (y : Settings). y.target) (sym e.1)) r) ∙ y) _ _ _ _ _ e.1 l r.place r.many r.counted)
