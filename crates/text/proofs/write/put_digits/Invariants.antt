-- `put_digits` meets its contract: what is left of the digits stands before the place `i`.
use Prim.Native.Nat.{◌-◌}
use lib.ListN.{length}
use Rattle.text.specs.Write.{decimal}
use Rattle.text.proofs.Writing.{Before}
use Rattle.text.proofs.write.put_digits.Given as goal

abbrev pub invariant-loop-m : goal.invariant-loop-m
invariant-loop-m l = Before l.initial.out (l.end - length (decimal l.n)) l.n l.out l.i l.m

abbrev pub decreases-loop-m : goal.decreases-loop-m
decreases-loop-m l = l.m
