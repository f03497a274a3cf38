-- `exchange::ordered::add_sort_above` meets its contract.
use native.Mathlib.Omega.{arith}
use Rattle.exchange.specs.Rows.{operator_of}
use Rattle.exchange.specs.Handling.{given_up, sorted_by}
use Rattle.exchange.proofs.OrderWritten.{ready_as, maps_as, sorted_none, ready_under, under_in, sorted_wrote}
use Rattle.exchange.proofs.ordered.add_sort_above.Goals as goal

pub put_given_up-requires : goal.put_given_up-requires
put_given_up-requires c = let a = c.args in ready_as (given_up a.h.replaced) (sorted_by a.h.entries (operator_of a.limiting.node).limit a.h.replaced) (sorted_none a.h.replaced a.h.entries (operator_of a.limiting.node).limit c.if-h-eq0.true) _ _ _ _ c.requires

pub returns-then-h-eq0 : goal.returns-then-h-eq0
returns-then-h-eq0 c = let a = c.args in maps_as (given_up a.h.replaced) (sorted_by a.h.entries (operator_of a.limiting.node).limit a.h.replaced) (sorted_none a.h.replaced a.h.entries (operator_of a.limiting.node).limit c.if-h-eq0.true) _ _ _ _ _ _ c.put_given_up.ensures

pub put_given_up-s-requires : goal.put_given_up-s-requires
put_given_up-s-requires c = let a = c.args in ready_under a.h.replaced a.h.entries (operator_of a.limiting.node).limit c.if-h-eq0.false _ _ _ _ c.requires

pub node_at-under-requires : goal.node_at-under-requires
node_at-under-requires c = let a = c.args in omega (arith, under_in a.h.replaced a.h.entries (operator_of a.limiting.node).limit c.if-h-eq0.false _ _ _ _ c.requires, c.put_given_up-s.auto.dst)

pub put_node-requires : goal.put_node-requires
put_node-requires c = let a = c.args in omega (arith, under_in a.h.replaced a.h.entries (operator_of a.limiting.node).limit c.if-h-eq0.false _ _ _ _ c.requires, c.put_given_up-s.auto.dst)

pub returns : goal.returns
returns c = let a = c.args in sorted_wrote a.h.replaced a.h.entries (operator_of a.limiting.node).limit c.if-h-eq0.false _ _ _ _ _ _ _ _ _ c.requires c.put_given_up-s.ensures c.node_at-under.ensures c.required_sort.ensures c.put_node.ensures
