-- `fields_at` meets its contract: what the fields from `i` on give, after those stored and counted, is what all of them give.
use Prim.Native.Nat.{◌-◌}
use lib.ListN.{length}
use Rattle.text.proofs.FieldsTurn.{Head}
use Rattle.text.proofs.line.fields_at.Given as goal

abbrev pub invariant-loop-d : goal.invariant-loop-d
invariant-loop-d l = Head l.s l.at l.initial.out l.out l.i l.n l.worst l.largest

abbrev pub decreases-loop-d : goal.decreases-loop-d
decreases-loop-d l = length l.s - l.i
