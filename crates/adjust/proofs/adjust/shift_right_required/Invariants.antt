-- The keys shifted so far, before what shifting the rest gives, are all.
use mathlib.Core.Path.{◌≡◌}
use lib.ListN.{length, take, drop}
use Rattle.keys.specs.Expressions.{expressions}
use Rattle.keys.specs.Adjust.{shifted}
use Rattle.keys.proofs.Shifts.{prefixed}
use Rattle.adjust.proofs.adjust.shift_right_required.Given as goal

abbrev pub invariant-loop-i : goal.invariant-loop-i
invariant-loop-i l = (length l.out ≡ 32)
    × (shifted l.columns (expressions l.required) ≡ prefixed (expressions (take l.i l.out)) (shifted l.columns (expressions (drop l.i l.required))))
