-- `put_number_fields` meets its contract: the fields from `i` on are left to write.
use lib.ListN.{length, get_or}
use Rattle.lines.specs.Fields.{number_field}
use Rattle.lines.proofs.Pieces.{Writing}
use Rattle.lines.proofs.line.put_number_fields.Given as goal

abbrev pub invariant-loop-n : goal.invariant-loop-n
invariant-loop-n l = Writing (λ k. number_field (get_or l.list k 0)) (length l.list) l.initial.out l.at l.out l.p l.n-index
