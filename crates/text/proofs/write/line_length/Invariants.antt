-- `line_length` meets its contract: the length so far, with that of the rows from `i` on, is the line's.
use Rattle.text.proofs.Measuring.{Adding}
use Rattle.text.proofs.write.line_length.Given as goal

abbrev pub invariant-loop-row : goal.invariant-loop-row
invariant-loop-row l = Adding l.rows l.n l.row-index
