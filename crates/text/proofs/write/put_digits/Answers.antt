-- `put_digits` meets its contract: what is left of the digits stands before the place `i`.
use mathlib.Core.Path.{refl}
use native.Mathlib.Omega.{arith}
use lib.ListN.{length-set}
use Rattle.text.proofs.Decimal.{decimal_some}
use Rattle.text.proofs.Writing.{before_first, before_some, before_more, before_last}
use Rattle.text.proofs.write.put_digits.Goals as goal

pub overflow_sub-i : goal.overflow_sub-i
overflow_sub-i c = omega (arith, decimal_some c.args.n)

pub loop-m-init : goal.loop-m-init
loop-m-init c = before_first _ _ _ _ (omega arith) (omega arith) refl

pub bounds-out-i : goal.bounds-out-i
bounds-out-i c = omega (arith, c.loop-m.invariant.below)

pub overflow_sub-i-in-loop-m : goal.overflow_sub-i-in-loop-m
overflow_sub-i-in-loop-m c = omega (arith, before_some _ _ _ _ _ _ c.loop-m.invariant 0 c.loop-m-test.true)

pub loop-m-preserved : goal.loop-m-preserved
loop-m-preserved c = before_more _ _ _ _ _ _ c.loop-m.invariant _ c.loop-m-test.true c.digit.ensures

pub bounds-out-i-2 : goal.bounds-out-i-2
bounds-out-i-2 c = omega (arith, c.loop-m.invariant.below)

pub shape_of-out : goal.shape_of-out
shape_of-out c = simp length-set c.loop-m.invariant.room

pub returns : goal.returns
returns c = before_last _ _ _ _ _ _ c.loop-m.invariant _ (omega arith) c.digit-2.ensures
