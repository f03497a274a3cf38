-- `exchange::removeDistChangingOperators::remove_dist_changing_operators` meets its contract: at each turn a tree stands there whose remove_dist_changing_operators node is the whole's (`Reached`).
use mathlib.Core.Path.{sym, ◌∙◌}
use Rattle.exchange.proofs.WorkedNode.{reached_in, reached_more, reached_end}
use Rattle.exchange.proofs.worked.remove_dist_changing_operators.Goals as goal

pub taken_off-requires : goal.taken_off-requires
taken_off-requires c = let p = c.requires in reached_in _ _ _ _ (c.loop-a.invariant p.tree p.rest p.stands)

pub loop-a-preserved : goal.loop-a-preserved
loop-a-preserved c = λ t rest h. reached_more _ _ _ _ (sym c.taken_off.ensures ∙ c.loop-a-test.true) (c.loop-a.invariant t rest h)

pub returns : goal.returns
returns c = λ t rest h. reached_end _ _ _ _ (sym c.taken_off.ensures ∙ c.loop-a-test.false) (c.loop-a.invariant t rest h)
