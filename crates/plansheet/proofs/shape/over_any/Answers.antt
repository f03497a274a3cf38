-- `shape::over_any` meets its contract: what is left is over its largest exactly where all of it is.
use mathlib.Core.Path.{◌∙◌}
use mathlib.Core.Logic.{⊎_elim}
use borrow.Author.Tests.{lt-ltb, le-ltb}
use Rattle.plansheet.specs.Shapes.{over_any}
use Rattle.plansheet.proofs.Overs.{over_first, over_second}
use Rattle.plansheet.proofs.shape.over_any.Goals as goal

pub returns-then-most-field : goal.returns-then-most-field
unfolding over_any
returns-then-most-field c = rw (c.loop-most.invariant, c.in-Some.ensures.steps.0, c.in-Some.ensures.steps.1, lt-ltb _ _ c.if-most-field.true)

pub loop-most-preserved : goal.loop-most-preserved
unfolding over_any
loop-most-preserved c = c.loop-most.invariant ∙ rw (c.in-Some.ensures.steps.0, c.in-Some.ensures.steps.1, le-ltb _ _ c.if-most-field.false)

pub returns : goal.returns
unfolding over_any
returns c = rw c.loop-most.invariant (⊎_elim (λ h. over_first c.loop-most.most-iterator.a.rest.now c.loop-most.most-iterator.b.rest.now h.1.0) (λ h. over_second c.loop-most.most-iterator.a.rest.now c.loop-most.most-iterator.b.rest.now h.1.0) c.in-None.ensures.steps)
