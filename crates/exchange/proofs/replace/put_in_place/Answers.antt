-- `exchange::replace::put_in_place` meets its contract: on each way the rows stored are `heads`, by `heads_other`, `heads_merge` and `heads_limit`.
use Rattle.exchange.specs.Rows.{operator_of}
use Rattle.exchange.specs.Replace.{coalesced}
use Rattle.exchange.specs.ReplaceRows.{merge_sort, relaxed_or}
use Rattle.exchange.proofs.Replaced.{heads_other, heads_merge, heads_limit, put_one, put_two}
use Rattle.exchange.proofs.replace.put_in_place.Goals as goal

pub returns-then-n-ne-MERGE : goal.returns-then-n-ne-MERGE
returns-then-n-ne-MERGE c = put_one _ _ _ _ _ _ (relaxed_or (operator_of c.args.n.node)) (heads_other c.args.n.node c.args.children c.if-n-ne-MERGE.true) c.relaxed.ensures c.put_node.ensures

pub returns-then-n-eq-NO_LIMIT : goal.returns-then-n-eq-NO_LIMIT
returns-then-n-eq-NO_LIMIT c = put_one _ _ _ _ _ _ (coalesced (operator_of c.args.n.node)) (heads_merge c.args.n.node c.args.children c.if-n-ne-MERGE.false c.if-n-eq-NO_LIMIT.true) c.coalesced.ensures c.put_node-then-n-eq-NO_LIMIT.ensures

pub returns : goal.returns
returns c = put_two _ _ _ _ _ _ _ _ (merge_sort (operator_of c.args.n.node)) (coalesced (operator_of c.args.n.node)) (heads_limit c.args.n.node c.args.children c.if-n-ne-MERGE.false c.if-n-eq-NO_LIMIT.false) c.sorted.ensures c.coalesced-2.ensures
    c.put_node-2.ensures c.put_node-3.ensures
