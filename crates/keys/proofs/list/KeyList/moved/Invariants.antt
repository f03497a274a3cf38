-- The array filled so far, with what is left, is the keys at the positions.
use mathlib.Core.Path.{◌≡◌}
use mathlib.Core.List.{◌++◌, map}
use lib.ListN.{length, take, drop}
use Rattle.keys.specs.Lists.{permute}
use Rattle.keys.specs.Expressions.{gone_number}
use Rattle.keys.specs.Values.{number_of}
use Rattle.keys.proofs.list.KeyList.moved.Given as goal

abbrev pub invariant-loop-i : goal.invariant-loop-i
invariant-loop-i l = (length l.list.0 ≡ 32) × (take l.i (map number_of l.list.0) ++ drop l.i (permute gone_number l.keys l.at.list.now) ≡ permute gone_number l.keys l.at.list.now)
