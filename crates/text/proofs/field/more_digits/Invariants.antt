-- `more_digits` meets its contract: the field that goes on at `i` after `n` is the whole one, and the byte at `i` says how.
use Rattle.text.proofs.Digits.{Going}
use Rattle.text.proofs.field.more_digits.Given as goal

abbrev pub invariant-loop-i : goal.invariant-loop-i
invariant-loop-i l = Going l.s l.at l.begun l.i l.n
