-- The array filled so far, with what is left of the keys, is all the keys (`key_turn`).
use mathlib.Core.Path.{refl}
use native.Mathlib.Omega.{arith}
use lib.ListN.{get_or, length-set}
use Rattle.keys.proofs.Turns.{key_turn}
use Rattle.keys.proofs.list.KeyList.new.Goals as goal

pub loop-i-preserved : goal.loop-i-preserved
loop-i-preserved c = let k = c.args.keys.now in let i = c.loop-i.i in let t = c.loop-i-test.true in
    (simp length-set c.loop-i.invariant.0, key_turn k c.loop-i.list.0 i c.loop-i.invariant.1 (get_or k i 0) 0 t (omega (arith, c.loop-i.invariant.0)) refl)
