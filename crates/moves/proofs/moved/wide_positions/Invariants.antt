-- The room filled so far, with what is left, is the positions.
use mathlib.Core.Path.{◌≡◌}
use mathlib.Core.List.{◌++◌}
use lib.ListN.{length, take, drop}
use Rattle.moves.proofs.moved.wide_positions.Given as goal

abbrev pub invariant-loop-i : goal.invariant-loop-i
invariant-loop-i l = (length l.out ≡ 32) × (take l.i l.out ++ drop l.i l.at.list.now ≡ l.at.list.now)
