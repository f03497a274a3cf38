-- `ensure::update::mark_children` meets its contract: marking the trees that are left makes of the rows what marking all of them does (`marks_more`).
use mathlib.Core.Path.{◌≡◌}
use Prim.Native.Nat.{◌+◌, ◌-◌}
use native.Mathlib.Omega.{arith}
use Rattle.exchange.proofs.Marking.{stands_in, all_first}
use Rattle.exchange.proofs.MarkStored.{marks_done, marks_ready, marks_more}
use Rattle.ensure.proofs.Finishing.{mark_byte}
use Rattle.ensure.proofs.update.mark_children.Goals as goal

pub past_tree-next-requires : goal.past_tree-next-requires
past_tree-next-requires c = all_first _ _ _ (λ z. omega (arith, c.loop-test.true)) c.loop.invariant.1

pub marks_child-requires : goal.marks_child-requires
marks_child-requires c = all_first _ _ _ (λ z. omega (arith, c.loop-test.true)) c.loop.invariant.1

pub set_mark-requires : goal.set_mark-requires
set_mark-requires c = stands_in _ _ (all_first _ _ _ (λ z. omega (arith, c.loop-test.true)) c.loop.invariant.1)

pub loop-preserved : goal.loop-preserved
loop-preserved c = let a = c.args in let l = c.loop in
    let later : a.left - (l.counter + 1) ≡ a.left - l.counter - 1 = omega arith in (
      omega (arith, l.invariant.0, c.set_mark.auto.rows),
      rw later (marks_ready _ _ _ _ _ _ (λ z. omega (arith, c.loop-test.true)) c.past_tree-next.ensures c.set_mark.ensures l.invariant.1),
      λ d s. l.invariant.2 d
          (marks_more _ _ _ _ _ _ (λ z. omega (arith, c.loop-test.true)) c.past_tree-next.ensures c.set_mark.ensures _ _ c.marks_child.ensures (mark_byte _ _ c.from-m.ensures) (rw later at s)),
    )

pub returns : goal.returns
returns c = c.loop.invariant.2 _ (marks_done _ _ _ (omega (arith, c.loop-test.false)))
