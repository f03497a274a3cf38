-- `exchange::places::asked_children` meets its contract: the children so far, and where the trees that are left stand (`AskedUpto`).
use mathlib.Core.Path.{◌≡◌, sym, ◌∙◌}
use native.Mathlib.Omega.{arith}
use lib.ListN.{length, length-set}
use Rattle.exchange.proofs.Marking.{stands_in}
use Rattle.exchange.proofs.PlacesRead.{asked_stands, asked_turn, asked_done}
use Rattle.exchange.proofs.places.asked_children.Goals as goal

pub node_at-child-requires : goal.node_at-child-requires
node_at-child-requires c = let q = c.requires.stand in
    stands_in _ _ (asked_stands _ _ q.rest _ _ _ _ (omega (arith, q.counted, c.loop-i-test.true)) (c.loop-i.invariant.1 q.below q.rest q.counted q.stands))

pub past_tree-next-requires : goal.past_tree-next-requires
past_tree-next-requires c = let q = c.requires.stand in
    asked_stands _ _ q.rest _ _ _ _ (omega (arith, q.counted, c.loop-i-test.true)) (c.loop-i.invariant.1 q.below q.rest q.counted q.stands)

pub loop-i-preserved : goal.loop-i-preserved
loop-i-preserved c = let l = c.loop-i in (
  simp length-set l.invariant.0,
  λ ts rest m h.
      asked_turn _ ts rest _ _ _ _ _ _ (omega (arith, m, c.loop-i-test.true)) (omega (arith, l.invariant.0, c.requires.as_many)) c.loop-i-test.true c.node_at-child.ensures c.past_tree-next.ensures
      (l.invariant.1 ts rest m h),
)

pub returns : goal.returns
returns c = λ ts rest m h.
    let same : c.loop-i.i ≡ length c.args.facts.now = omega arith in
    asked_done _ ts rest _ _ _ _ (m ∙ sym same) (omega (arith, c.loop-i.invariant.0, c.requires.as_many)) (c.loop-i.invariant.1 ts rest m h)
