-- `numbers_length` meets its contract: the length so far, with that of the fields from `i` on, is the line's.
use lib.ListN.{length, get_or}
use Rattle.lines.specs.Fields.{number_field}
use Rattle.lines.proofs.Pieces.{Adding}
use Rattle.lines.proofs.line.numbers_length.Given as goal

abbrev pub invariant-loop-n : goal.invariant-loop-n
invariant-loop-n l = Adding (λ k. number_field (get_or l.list k 0)) (length l.list) 2 21 l.length l.n-index
