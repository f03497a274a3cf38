-- The columns packed so far, before the columns left, are all.
use mathlib.Core.Path.{◌≡◌}
use mathlib.Core.List.{◌++◌}
use lib.ListN.{length, take, drop}
use Rattle.keys.specs.Expressions.{expressions}
use Rattle.keys.specs.Adjust.{columns_from}
use Rattle.adjust.proofs.aggregate.group_columns.Given as goal

abbrev pub invariant-loop-i : goal.invariant-loop-i
invariant-loop-i l = (length l.out ≡ 32) × (expressions (take l.i l.out) ++ columns_from l.i (drop l.i l.groups) ≡ columns_from 0 l.groups)
