-- `linekinds::plain::entries_at` meets its contract. What was packed so far stands on the line so far (`entries_more`).
use Prim.Native.Nat.{◌-◌, ◌≤◌}
use mathlib.Core.Path.{◌≡◌}
use lib.ListN.{length}
use Rattle.linekinds.specs.PlainText.{EntriesAt}
use Rattle.linekinds.proofs.plain.entries_at.Given as goal

abbrev pub invariant-loop-at : goal.invariant-loop-at
invariant-loop-at l = (length l.list ≡ 64) × (l.n ≤ l.most) × EntriesAt l.s l.at l.from l.n l.p l.initial.list l.list

abbrev pub decreases-loop-at : goal.decreases-loop-at
decreases-loop-at l = length l.s - l.p
