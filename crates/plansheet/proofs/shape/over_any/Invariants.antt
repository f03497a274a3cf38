-- `shape::over_any` meets its contract: what is left is over its largest exactly where all of it is.
use mathlib.Core.Path.{◌≡◌}
use Rattle.linekinds.specs.Reading.{row_values}
use Rattle.plansheet.specs.Shapes.{over_any}
use Rattle.plansheet.proofs.shape.over_any.Given as goal

abbrev pub invariant-loop-most : goal.invariant-loop-most
invariant-loop-most l = over_any l.largest (row_values l.fields) ≡ over_any l.most-iterator.a.rest.now (row_values l.most-iterator.b.rest.now)
