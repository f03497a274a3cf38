-- The array filled so far, with what is left of the keys, is all the keys.
use mathlib.Core.Path.{◌≡◌}
use mathlib.Core.List.{◌++◌, map}
use lib.ListN.{length, take, drop}
use Rattle.keys.specs.Values.{number_of}
use Rattle.keys.proofs.list.KeyList.new.Given as goal

abbrev pub invariant-loop-i : goal.invariant-loop-i
invariant-loop-i l = (length l.list.0 ≡ 32) × (take l.i (map number_of l.list.0) ++ drop l.i l.keys ≡ l.keys)
