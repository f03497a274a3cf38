-- `put_line` meets its contract: what is left of the line is written from `p` on.
use Rattle.text.proofs.Writing.{LineHead}
use Rattle.text.proofs.write.put_line.Given as goal

abbrev pub invariant-loop-row : goal.invariant-loop-row
invariant-loop-row l = LineHead l.initial.out l.initial.p l.rows l.out l.p l.row-index
