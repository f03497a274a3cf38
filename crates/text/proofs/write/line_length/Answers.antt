-- `line_length` meets its contract: the length so far, with that of the rows from `i` on, is the line's.
use native.Mathlib.Omega.{arith}
use Rattle.text.proofs.Measuring.{adding_first, adding_more, adding_done}
use Rattle.text.proofs.write.line_length.Goals as goal

pub loop-row-init : goal.loop-row-init
loop-row-init c = adding_first _ _ (omega arith)

pub overflow_add-n : goal.overflow_add-n
overflow_add-n c = omega (arith, c.loop-row.invariant.near)

pub overflow_add-n-in-loop-row : goal.overflow_add-n-in-loop-row
overflow_add-n-in-loop-row c = omega (arith, c.loop-row.invariant.near)

pub loop-row-preserved : goal.loop-row-preserved
loop-row-preserved c = adding_more _ _ _ c.loop-row.invariant (omega arith) _ (rw c.of_row.ensures at c.field_length.ensures.exact) c.field_length.ensures.few

pub returns : goal.returns
returns c = adding_done _ _ _ c.loop-row.invariant (omega arith)
