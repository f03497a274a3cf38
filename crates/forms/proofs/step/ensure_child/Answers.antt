-- `forms::step::ensure_child` meets its contract: the row of form 0 is found or not, the child is split or not, and then the row of its split form is found or not.
use mathlib.Core.Path.{refl, sym, ◌∙◌}
use Rattle.exchange.specs.FactRows.{child_at}
use Rattle.forms.proofs.Steps.{step_none, step_whole, step_cut_none, step_cut}
use Rattle.forms.proofs.step.ensure_child.Goals as goal

pub returns-in_err-unsplit : goal.returns-in_err-unsplit
returns-in_err-unsplit c = λ o b k n m. let a = c.args in
    c.from_residual.ensures ∙ step_none a.w.settings a.w.xs.rows.now a.w.aligned a.w.worked a.number a.a o b k n m (sym c.in_err-unsplit.was ∙ c.standing_in.ensures)

pub returns-then-not-splits_at_source : goal.returns-then-not-splits_at_source
returns-then-not-splits_at_source c = λ o b k n m. let a = c.args in let t = c.get_repartition_requirement_status-t in
    c.satisfy_distribution.ensures
    ∙ step_whole a.w.settings a.w.xs.rows.now a.w.aligned a.w.worked a.number a.a o b k n m c.in_ok-unsplit.unsplit (sym c.in_ok-unsplit.was ∙ c.standing_in.ensures)
    t.result (t.ensures (child_at a.number a.a) refl refl refl) (sym c.splits_at_source.ensures ∙ c.if-not-splits_at_source.true)

pub returns-in_err-standing : goal.returns-in_err-standing
returns-in_err-standing c = λ o b k n m. let a = c.args in let t = c.get_repartition_requirement_status-t in
    c.from_residual-in_err-standing.ensures
    ∙ step_cut_none a.w.settings a.w.xs.rows.now a.w.aligned a.w.worked a.number a.a o b k n m c.in_ok-unsplit.unsplit (sym c.in_ok-unsplit.was ∙ c.standing_in.ensures)
    t.result (t.ensures (child_at a.number a.a) refl refl refl) (sym c.splits_at_source.ensures ∙ c.if-not-splits_at_source.false) (sym c.in_err-standing.was ∙ c.standing_in-2.ensures)

pub returns : goal.returns
returns c = λ o b k n m. let a = c.args in let t = c.get_repartition_requirement_status-t in
    c.satisfy_distribution-2.ensures
    ∙ step_cut a.w.settings a.w.xs.rows.now a.w.aligned a.w.worked a.number a.a o b k n m c.in_ok-unsplit.unsplit (sym c.in_ok-unsplit.was ∙ c.standing_in.ensures)
    t.result (t.ensures (child_at a.number a.a) refl refl refl) (sym c.splits_at_source.ensures ∙ c.if-not-splits_at_source.false) c.in_ok-standing.standing (sym c.in_ok-standing.was ∙ c.standing_in-2.ensures)
