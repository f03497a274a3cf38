-- `fixed_at` meets its contract: what is judged are the rows of the line that was read.
use mathlib.Core.Path.{sym, ◌∙◌}
use native.Mathlib.Omega.{arith}
use Rattle.text.specs.Text.{after, line_at}
use Rattle.text.proofs.Judging.{wrong, other_count, fit, unfit}
use Rattle.text.proofs.bounds.fixed_at.Goals as goal
use Rattle.text.proofs.bounds.fixed_at.Goals.{then-count-bounds-via-then-count-bounds, then-count-bounds-via-else-count-bounds+then-not-rows_fit}

pub returns-in_default-clause-answer : goal.returns-in_default-clause-answer
returns-in_default-clause-answer c = let a = c.args in let r = c.line_at.ensures in wrong a.bounds.now (after a.s.now a.at) (line_at a.letter a.s.now a.at) (sym c.in_default.is ∙ r.answer)

pub returns-in_default-clause-stored : goal.returns-in_default-clause-stored
returns-in_default-clause-stored c = let r = c.line_at.ensures in r.stored

pub returns-then-count-bounds-clause-answer : goal.returns-then-count-bounds-clause-answer
returns-then-count-bounds-clause-answer c =
    let a = c.args in let r = c.line_at.ensures in
    elim c.then-count-bounds.branch [
      | then-count-bounds-via-then-count-bounds w ↦ other_count a.bounds.now a.letter a.s.now a.at _ (sym c.in-Some.is ∙ r.answer) (λ e. omega (arith, w.if-count-bounds.true))
      | then-count-bounds-via-else-count-bounds+then-not-rows_fit w ↦ unfit a.bounds.now a.letter a.s.now a.at _ (sym c.in-Some.is ∙ r.answer) _ _ r.stored (omega (arith, w.if-count-bounds.false)) _ w.rows_fit.ensures w.if-not-rows_fit.true
    ]

pub returns-then-count-bounds-clause-stored : goal.returns-then-count-bounds-clause-stored
returns-then-count-bounds-clause-stored c = let r = c.line_at.ensures in r.stored

pub returns-clause-answer : goal.returns-clause-answer
returns-clause-answer c = let a = c.args in let r = c.line_at.ensures in fit a.bounds.now a.letter a.s.now a.at _ (sym c.in-Some.is ∙ r.answer) _ _ r.stored (omega arith) _ c.rows_fit.ensures c.if-not-rows_fit.false

pub returns-clause-stored : goal.returns-clause-stored
returns-clause-stored c = let r = c.line_at.ensures in r.stored
