-- The rules from the next on rewrite the key as all the rules do.
use mathlib.Core.Path.{◌≡◌}
use lib.Dec.{eqb}
use lib.ListN.{drop}
use Rattle.keys.specs.Reorder.{rewrite_one}
use Rattle.keys.specs.Values.{number_rules}
use Rattle.keys.proofs.reorder.rewrite_one.Given as goal

abbrev pub invariant-loop-rule : goal.invariant-loop-rule
invariant-loop-rule l = rewrite_one eqb (number_rules l.w) l.x ≡ rewrite_one eqb (drop l.rule-index (number_rules l.w)) l.x
