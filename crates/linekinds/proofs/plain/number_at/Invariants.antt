-- `linekinds::plain::number_at` meets its contract. The digits so far are those of n, and each further one goes behind them (`next_digit`).
use Prim.Native.Nat.{◌-◌, ◌<◌}
use lib.ListN.{length}
use Rattle.text.specs.Write.{decimal}
use Rattle.linekinds.specs.PlainText.{TextAt}
use Rattle.linekinds.proofs.plain.number_at.Given as goal

abbrev pub invariant-loop-at : goal.invariant-loop-at
invariant-loop-at l = TextAt l.s l.at (decimal l.n) l.p × (l.n < 65536)

abbrev pub decreases-loop-at : goal.decreases-loop-at
decreases-loop-at l = length l.s - l.p
