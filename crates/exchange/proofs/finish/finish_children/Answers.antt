-- `exchange::finish::finish_children` meets its contract: what finishing the children that are left writes is what finishing all of them does (`each_wrote`).
use mathlib.Core.Path.{◌≡◌, refl, ap}
use Prim.Native.Nat.{◌+◌, ◌-◌}
use native.Mathlib.Omega.{arith}
use Rattle.exchange.specs.declared.row.Node.{Node}
use Rattle.exchange.proofs.Marking.{stands_in}
use Rattle.exchange.proofs.FinishEach.{each_done, each_stands, each_ready, each_others, each_wrote, built_room}
use Rattle.exchange.proofs.finish.finish_children.Goals as goal

pub node_at-requires : goal.node_at-requires
node_at-requires c = stands_in _ _ (each_stands _ _ _ _ _ _ _ _ _ _ _ _ (λ z. omega (arith, c.loop-child-test.true)) refl _ _ c.loop-child.invariant.2)

pub finish_child-s-requires-clause-ready : goal.finish_child-s-requires-clause-ready
finish_child-s-requires-clause-ready c =
    built_room _ _ _ _ _ _ (each_stands _ _ _ _ _ _ _ _ _ _ _ _ (λ z. omega (arith, c.loop-child-test.true)) refl _ _ c.loop-child.invariant.2)
    (omega (arith, c.requires.each_finished.roomy, c.loop-child.invariant.0))

pub finish_child-s-requires-clause-ready_2 : goal.finish_child-s-requires-clause-ready_2
finish_child-s-requires-clause-ready_2 c = each_ready _ _ _ _ _ _ _ _ _ _ _ _ (λ z. omega (arith, c.loop-child-test.true)) (ap (λ (m : Node). m.need) c.node_at.ensures) _ _ c.loop-child.invariant.2

pub loop-child-preserved : goal.loop-child-preserved
loop-child-preserved c = let a = c.args in let l = c.loop-child in let v = l.invariant in
    let later : a.k.child + a.k.left - (l.child + 1) ≡ a.k.child + a.k.left - l.child - 1 = omega arith in (
      omega (arith, v.0, c.finish_child-s.auto.mid),
      omega (arith, v.1, c.finish_child-s.auto.dst),
      rw (later, c.finish_child-s.auto.dst) (each_others _ _ _ _ _ _ _ _ _ _ _ _ (λ z. omega (arith, c.loop-child-test.true)) (ap (λ (m : Node). m.need) c.node_at.ensures) _ _ _ _ c.finish_child-s.ensures _ v.2),
      λ d r w. v.3 d r (each_wrote _ _ _ _ _ _ _ _ _ _ _ _ (λ z. omega (arith, c.loop-child-test.true)) (ap (λ (m : Node). m.need) c.node_at.ensures) _ _ _ _ c.finish_child-s.ensures _ _ (rw later at w)),
    )

pub returns : goal.returns
returns c = c.loop-child.invariant.3 _ _ (each_done _ _ _ _ _ _ _ _ _ _ _ _ _ (omega (arith, c.loop-child-test.false)))
