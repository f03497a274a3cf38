-- `exchange::row::copy_trees` meets its contract. The rows copied, with those of the `left` trees still to come, are those of all (`Mid`).
use native.Mathlib.Omega.{arith}
use lib.ListN.{length-set}
use Rattle.exchange.proofs.Copied.{step, finish, room_ready}
use Rattle.exchange.proofs.row.copy_trees.Goals as goal

pub children_at-below-requires : goal.children_at-below-requires
children_at-below-requires c = omega (arith, room_ready c.requires c.loop-left-test.true c.loop-left.invariant.1)

pub offset_bounds-src-a : goal.offset_bounds-src-a
offset_bounds-src-a c = omega (arith, room_ready c.requires c.loop-left-test.true c.loop-left.invariant.1)

pub bounds-src-a : goal.bounds-src-a
bounds-src-a c = omega (arith, room_ready c.requires c.loop-left-test.true c.loop-left.invariant.1)

pub bounds-dst-b : goal.bounds-dst-b
bounds-dst-b c = omega (arith, room_ready c.requires c.loop-left-test.true c.loop-left.invariant.1)

pub overflow_add-a : goal.overflow_add-a
overflow_add-a c = omega (arith, room_ready c.requires c.loop-left-test.true c.loop-left.invariant.1)

pub overflow_add-left : goal.overflow_add-left
overflow_add-left c = omega (arith, room_ready c.requires c.loop-left-test.true c.loop-left.invariant.1, c.children_at-below.ensures)

pub loop-left-smaller : goal.loop-left-smaller
loop-left-smaller c = omega (arith, room_ready c.requires c.loop-left-test.true c.loop-left.invariant.1)

pub loop-left-preserved : goal.loop-left-preserved
loop-left-preserved c = let l = c.loop-left in let e = c.children_at-below.ensures in (simp length-set l.invariant.0, λ ts rest k h. rw e (step _ _ _ _ ts rest _ _ _ _ c.loop-left-test.true (l.invariant.1 ts rest k h)))

pub returns : goal.returns
returns c = λ ts rest k h. finish _ _ _ _ ts rest _ _ _ (rw c.loop-left-test.false at (c.loop-left.invariant.1 ts rest k h))
