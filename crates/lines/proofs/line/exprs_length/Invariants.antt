-- `exprs_length` meets its contract: the length so far, with that of the expressions from `i` on, is the line's.
use lib.ListN.{length, get_or}
use Rattle.lines.specs.Fields.{expr_fields}
use Rattle.lines.proofs.Pieces.{Adding}
use Rattle.lines.proofs.line.exprs_length.Given as goal

abbrev pub invariant-loop-e : goal.invariant-loop-e
invariant-loop-e l = Adding (λ k. expr_fields (get_or l.list k 0)) (length l.list) 2 63 l.length l.e-index
