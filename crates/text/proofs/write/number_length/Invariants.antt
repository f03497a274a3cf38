-- `number_length` meets its contract: the powers of ten up to `n` are counted.
use Prim.Native.Nat.{◌+◌, ◌-◌}
use Rattle.text.proofs.Measuring.{Counting}
use Rattle.text.proofs.write.number_length.Given as goal

-- Assumes nothing.
abbrev pub invariant-loop-power : goal.invariant-loop-power
invariant-loop-power l = Counting l.n l.power l.k

abbrev pub decreases-loop-power : goal.decreases-loop-power
decreases-loop-power l = l.tenth + 1 - l.power
