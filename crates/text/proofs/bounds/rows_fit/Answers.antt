-- `rows_fit` meets its contract: what is left is within its bounds exactly where all of it is.
use mathlib.Core.Path.{sym, ap, ◌∙◌}
use mathlib.Core.Logic.{⊎_elim}
use native.Mathlib.Omega.{arith}
use lib.ListN.{length}
use Rattle.text.proofs.Limits.{uneven, over_state, over_value, within_both, none_left}
use Rattle.text.proofs.bounds.rows_fit.Goals as goal
use Rattle.text.proofs.bounds.rows_fit.Goals.{then-bound-row-via-then-bound-row, then-bound-row-via-else-bound-row+then-bound-row-2}

pub returns-then-rows-bounds : goal.returns-then-rows-bounds
returns-then-rows-bounds c = sym (uneven _ _ c.if-rows-bounds.true)

pub returns-then-bound-row : goal.returns-then-bound-row
returns-then-bound-row c =
    rw (c.loop-bound.invariant.0, c.in-Some.ensures.steps.0, c.in-Some.ensures.steps.1) (
    elim c.then-bound-row.branch [
      | then-bound-row-via-then-bound-row w ↦ sym (over_state c.in-Some.bound.now c.in-Some.row.now _ _ w.if-bound-row.true)
      | then-bound-row-via-else-bound-row+then-bound-row-2 w ↦ sym (over_value c.in-Some.bound.now c.in-Some.row.now _ _ w.if-bound-row-2.true)
    ]
    )

pub loop-bound-preserved : goal.loop-bound-preserved
loop-bound-preserved c =
    let i = c.loop-bound.invariant in let steps = c.in-Some.ensures.steps in (
      i.0 ∙ rw (steps.0, steps.1) (within_both c.in-Some.bound.now c.in-Some.row.now _ _ c.if-bound-row.false c.if-bound-row-2.false),
      omega (arith, i.1, ap length steps.0, ap length steps.1),
    )

pub returns : goal.returns
returns c = let i = c.loop-bound.invariant in sym (i.0 ∙ ⊎_elim (λ h. none_left _ _ h.1.0 (omega (arith, i.1, h.1.0))) (λ h. none_left _ _ (omega (arith, i.1, h.1.0)) h.1.0) c.in-None.ensures.steps)
