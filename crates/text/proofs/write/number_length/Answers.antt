-- `number_length` meets its contract: the powers of ten up to `n` are counted.
use native.Mathlib.Omega.{arith}
use Rattle.text.proofs.Decimal.{decimal_below}
use Rattle.text.proofs.Measuring.{counting_first, counting_more, counted}
use Rattle.text.proofs.write.number_length.Goals as goal

pub loop-power-init : goal.loop-power-init
loop-power-init c = counting_first _ _ _ (omega arith) (omega arith)

pub overflow_add-k : goal.overflow_add-k
overflow_add-k c = omega (arith, c.loop-power.invariant.few)

pub loop-power-smaller : goal.loop-power-smaller
loop-power-smaller c = omega (arith, c.loop-power.invariant.few, c.loop-power.invariant.count)

pub loop-power-preserved : goal.loop-power-preserved
loop-power-preserved c = counting_more _ _ _ c.loop-power.invariant c.loop-power-test.true

pub returns-clause-exact : goal.returns-clause-exact
returns-clause-exact c = let e = counted _ _ _ c.loop-power.invariant (omega arith) in e

pub returns-clause-few : goal.returns-clause-few
returns-clause-few c = let e = counted _ _ _ c.loop-power.invariant (omega arith) in omega (arith, e, decimal_below 19 c.args.n (omega arith))
