-- `sheet::read::read_lists` meets its contract. What was read, before what is left, is the whole (`SheetTurns`).
use mathlib.Core.Path.{◌≡◌}
use Prim.Native.Nat.{◌+◌, ◌-◌}
use lib.ListN.{length}
use Rattle.sheet.specs.SheetLines.{lines_from, HeadKept}
use Rattle.sheet.proofs.SheetTurns.{Head}
use Rattle.sheet.proofs.read.read_lists.Given as goal

abbrev pub invariant-loop-i : goal.invariant-loop-i
invariant-loop-i l = (length l.rows ≡ length l.initial.rows) × Head l.s l.k l.n (lines_from l.s l.k 1 (l.n - 1) l.at) l.i l.next (l.i + 1) l.lists l.counts × HeadKept l.initial.lists l.initial.counts l.lists l.counts
