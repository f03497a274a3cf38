-- `exchange::row::past_tree` meets its contract: the rows still to come end where the tree does (`Past`).
use native.Mathlib.Omega.{arith}
use Rattle.exchange.proofs.Passed.{PastRoom, past_start, past_step, past_end, past_room}
use Rattle.exchange.proofs.row.past_tree.Goals as goal

pub loop-left-init : goal.loop-left-init
loop-left-init c = λ t rest h. past_start _ _ t rest h

pub children_at-requires : goal.children_at-requires
children_at-requires c =
    let turn : PastRoom c.args.rows.now c.loop-left.a c.loop-left.left = let p = c.requires in past_room _ _ _ _ _ _ c.loop-left-test.true (c.loop-left.invariant p.tree p.rest p.stands) in
    omega (arith, turn)

pub overflow_add-left : goal.overflow_add-left
overflow_add-left c =
    let turn : PastRoom c.args.rows.now c.loop-left.a c.loop-left.left = let p = c.requires in past_room _ _ _ _ _ _ c.loop-left-test.true (c.loop-left.invariant p.tree p.rest p.stands) in
    omega (arith, turn, c.children_at.ensures)

pub overflow_add-a : goal.overflow_add-a
overflow_add-a c =
    let turn : PastRoom c.args.rows.now c.loop-left.a c.loop-left.left = let p = c.requires in past_room _ _ _ _ _ _ c.loop-left-test.true (c.loop-left.invariant p.tree p.rest p.stands) in
    omega (arith, turn)

pub loop-left-smaller : goal.loop-left-smaller
loop-left-smaller c =
    let turn : PastRoom c.args.rows.now c.loop-left.a c.loop-left.left = let p = c.requires in past_room _ _ _ _ _ _ c.loop-left-test.true (c.loop-left.invariant p.tree p.rest p.stands) in
    omega (arith, turn)

pub loop-left-preserved : goal.loop-left-preserved
loop-left-preserved c = λ t rest h. rw c.children_at.ensures (past_step _ _ t rest _ _ c.loop-left-test.true (c.loop-left.invariant t rest h))

pub returns : goal.returns
returns c = λ t rest h. past_end _ _ t rest _ _ c.loop-left-test.false (c.loop-left.invariant t rest h)
