-- The room filled so far, with what is left of the keys, is all the keys.
use mathlib.Core.Path.{◌≡◌}
use mathlib.Core.List.{◌++◌, map}
use lib.ListN.{length, take, drop}
use Rattle.keys.specs.Values.{number_of}
use Rattle.moves.proofs.moved.moved_side.Given as goal

abbrev pub invariant-loop-i : goal.invariant-loop-i
invariant-loop-i l = (length l.out ≡ 32) × (take l.i l.out ++ drop l.i (map number_of l.key-items) ≡ map number_of l.key-items)
