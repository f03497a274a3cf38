-- The array filled so far, with what is left, is what stands at the positions.
use mathlib.Core.Path.{◌≡◌}
use mathlib.Core.List.{◌++◌}
use lib.ListN.{length, take, drop}
use Rattle.keys.specs.Lists.{permute}
use Rattle.keys.proofs.list.permute.Given as goal

abbrev pub invariant-loop-i : goal.invariant-loop-i
invariant-loop-i l = (length l.out ≡ 32) × (take l.i l.out ++ drop l.i (permute l.gone l.all l.at.list.now) ≡ permute l.gone l.all l.at.list.now)
