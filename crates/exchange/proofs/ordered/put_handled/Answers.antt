-- `exchange::ordered::put_handled` meets its contract.
use native.Mathlib.Omega.{arith}
use Rattle.exchange.specs.Rows.{operator_of}
use Rattle.exchange.specs.Handling.{sorted_by, handled_by}
use Rattle.exchange.proofs.OrderWritten.{maps_as, handled_ready, handled_in, cleared_wrote, cleared_not}
use Rattle.exchange.proofs.ordered.put_handled.Goals as goal

pub add_sort_above-s-requires : goal.add_sort_above-s-requires
add_sort_above-s-requires c = let a = c.args in handled_ready a.h (operator_of a.limiting.node).limit _ _ _ _ c.requires

pub set_mark-requires : goal.set_mark-requires
set_mark-requires c = let a = c.args in omega (arith, handled_in a.h (operator_of a.limiting.node).limit _ _ _ _ c.requires, c.add_sort_above-s.auto.dst)

pub returns-then-h : goal.returns-then-h
returns-then-h c = let a = c.args in cleared_wrote a.h (operator_of a.limiting.node).limit _ _ _ _ _ _ _ c.if-h.true c.requires c.add_sort_above-s.ensures c.set_mark.ensures

pub returns-else-h : goal.returns-else-h
returns-else-h c = let a = c.args in maps_as (sorted_by a.h.entries (operator_of a.limiting.node).limit a.h.replaced) (handled_by a.h (operator_of a.limiting.node).limit) (cleared_not a.h (operator_of a.limiting.node).limit c.if-h.false) _ _ _ _ _ _ c.add_sort_above-s.ensures
