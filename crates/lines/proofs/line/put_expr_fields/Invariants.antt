-- `put_expr_fields` meets its contract: the expressions from `i` on are left to write.
use lib.ListN.{length, get_or}
use Rattle.lines.specs.Fields.{expr_fields}
use Rattle.lines.proofs.Pieces.{Writing}
use Rattle.lines.proofs.line.put_expr_fields.Given as goal

abbrev pub invariant-loop-e : goal.invariant-loop-e
invariant-loop-e l = Writing (λ k. expr_fields (get_or l.list k 0)) (length l.list) l.initial.out l.at l.out l.p l.e-index
