-- The array filled so far, with what is left, is the rewritten keys (`fill_turn`).
use mathlib.Core.Path.{sym, ◌∙◌}
use mathlib.Core.List.{map}
use native.Mathlib.Omega.{arith}
use lib.Dec.{eqb}
use lib.ListN.{length-set, length-map, get_or-map}
use Rattle.keys.specs.Reorder.{rewrite_one}
use Rattle.keys.specs.Values.{number_rules}
use Rattle.keys.proofs.Turns.{fill_turn}
use Rattle.keys.proofs.reorder.rewrite_keys.Goals as goal

pub loop-i-preserved : goal.loop-i-preserved
loop-i-preserved c = let k = c.args.keys.now in let f = rewrite_one eqb (number_rules c.args.w.now) in let i = c.loop-i.i in (
  simp length-set c.loop-i.invariant.0,
  fill_turn (map f k) c.loop-i.out i c.loop-i.invariant.1 c.rewrite_one.result (f 0) (rw (length-map k f) c.loop-i-test.true) (omega (arith, c.loop-i.invariant.0))
      (c.rewrite_one.ensures ∙ sym (get_or-map f k i 0)),
)
