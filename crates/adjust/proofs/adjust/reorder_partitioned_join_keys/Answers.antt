-- The answer by what was tried (`join_tried`).
use Rattle.keys.proofs.Joins.{join_tried}
use Rattle.adjust.proofs.adjust.reorder_partitioned_join_keys.Goals as goal

pub returns : goal.returns
returns c = let x = c.args.pairs in let t = c.try_reorder-tried in
    λ k s o a m cs. join_tried k x.required.now x.left.now x.right.now s c.args.rewriting.now o a m cs t.result t.ensures
