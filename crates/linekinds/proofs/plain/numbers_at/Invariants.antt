-- `linekinds::plain::numbers_at` meets its contract. What was read so far stands on the line so far (`numbers_more`).
use Prim.Native.Nat.{◌-◌, ◌≤◌}
use mathlib.Core.Path.{◌≡◌}
use lib.ListN.{length}
use Rattle.linekinds.specs.PlainText.{NumbersHeld}
use Rattle.linekinds.proofs.plain.numbers_at.Given as goal

abbrev pub invariant-loop-at : goal.invariant-loop-at
invariant-loop-at l = (length l.list ≡ 64) × (l.n ≤ 32) × NumbersHeld l.s l.at l.largest l.n l.p l.list

abbrev pub decreases-loop-at : goal.decreases-loop-at
decreases-loop-at l = length l.s - l.p
