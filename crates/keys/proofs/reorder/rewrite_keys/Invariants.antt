-- The array filled so far, with what is left, is the rewritten keys.
use mathlib.Core.Path.{◌≡◌}
use mathlib.Core.List.{◌++◌}
use lib.Dec.{eqb}
use lib.ListN.{length, take, drop}
use Rattle.keys.specs.Reorder.{rewrite}
use Rattle.keys.specs.Values.{number_rules}
use Rattle.keys.proofs.reorder.rewrite_keys.Given as goal

abbrev pub invariant-loop-i : goal.invariant-loop-i
invariant-loop-i l = (length l.out ≡ 32) × (take l.i l.out ++ drop l.i (rewrite eqb (number_rules l.w) l.keys) ≡ rewrite eqb (number_rules l.w) l.keys)
