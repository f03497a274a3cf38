-- `answer_plan` meets its contract: refusals 9 and 11, or the rows of the answer written.
use Rattle.std.proofs.Common.{◌≤◌, ◌∙◌, arith, rules, sym, length}
use Rattle.std.proofs.lemmas.Result.{err_from_is_err_and}
use lib.Seq.{length-take-le}
use Rattle.exchange.specs.Ensure.{ensured}
use Rattle.ensure.specs.Outcomes.{facts_of}
use Rattle.ensure.proofs.Distributed.{sheet_fits}
use Rattle.plansheet.proofs.Mapped.{mapped_ok, mapped_err}
use Rattle.lochkave.proofs.PlanAnswered.{answered_lines, gives_refused, gives_answered}
use Rattle.lochkave.proofs.plan.answer_plan.Goals as goal
use Rattle.lochkave.proofs.plan.answer_plan.Goals.{In_ok-done}

-- the answer's lines are in the room
fits : (c : In_ok-done) → c.in_ok-done.done.lines ≤ length c.args.dst.now
fits c =
    let a = c.args in let q = c.requires in let p = q.sheet in let d = c.ensure_distribution in
    answered_lines d.result _ (mapped_ok _ _ _ c.map_err.ensures.cases _ c.in_ok-done.was) (ensured a.s (facts_of a.f) p.tree) a.dst.now _ (length a.dst.now) (d.ensures.ends p.tree p.rest p.stands)
    (sheet_fits a.s (facts_of a.f) a.src.now (length a.f.children.now) (length a.dst.now) p a.f.few q.roomy.1)

pub slice_bounds-rows-end : goal.slice_bounds-rows-end
slice_bounds-rows-end c = omega (arith, fits (goal.at.slice_bounds-rows-end c).In_ok-done, c.ensure_distribution.auto.dst)

pub slice_bounds-rows-end-2 : goal.slice_bounds-rows-end-2
slice_bounds-rows-end-2 c = let d = c.ensure_distribution in sym (length-take-le c.in_ok-done.done.lines d.new.dst (omega (arith, fits (goal.at.slice_bounds-rows-end-2 c).In_ok-done, d.auto.dst)))

pub returns-in_err-done : goal.returns-in_err-done
returns-in_err-done c =
    let a = c.args in
    let d = c.ensure_distribution in
    let was = mapped_err _ _ _ c.map_err.ensures.cases _ c.in_err-done.was in
    let p = err_from_is_err_and c.from_residual.result c.from_residual.ensures.1 in
    λ t rest h. rw p.1 (gives_refused (ensured a.s (facts_of a.f) t) d.result a.dst.now _ was.0 (d.ensures.ends t rest h) was.1 (length a.out.now) a.out.now _ (p.2 ∙ search (rules, was.2)))

pub returns : goal.returns
returns c =
    let a = c.args in let d = c.ensure_distribution in
    λ t rest h. gives_answered d.result _ (mapped_ok _ _ _ c.map_err.ensures.cases _ c.in_ok-done.was) (ensured a.s (facts_of a.f) t) a.dst.now _ (length a.out.now) _ a.out.now _
    (d.ensures.ends t rest h) (fits (goal.at.returns c).In_ok-done) c.write_plan.ensures
