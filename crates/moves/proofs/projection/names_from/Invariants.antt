-- The numbers so far, before those of the names that are left, are all.
use mathlib.Core.Path.{◌≡◌}
use mathlib.Core.List.{◌++◌}
use Prim.Native.Nat.{◌+◌, ◌*◌}
use lib.ListN.{length, take, drop}
use Rattle.keys.specs.Adjust.{names_from}
use Rattle.sheet.specs.KeyAnswers.{projected_numbers}
use Rattle.moves.proofs.projection.names_from.Given as goal

abbrev pub invariant-loop-i : goal.invariant-loop-i
invariant-loop-i l = (length l.out ≡ 128)
    × (take (l.at + 2 * l.i) l.out ++ projected_numbers (names_from (l.first + l.i) (drop l.i l.a)) ≡ take l.at l.initial.out ++ projected_numbers (names_from l.first l.a))
