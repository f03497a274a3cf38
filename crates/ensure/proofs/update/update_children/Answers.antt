-- `ensure::update::update_children` meets its contract: the root's mark, then those of its children (`root_updated`).
use native.Mathlib.Omega.{arith}
use Rattle.exchange.proofs.Marking.{stands_in}
use Rattle.exchange.proofs.MarkStored.{root_ready, root_updated}
use Rattle.ensure.proofs.update.update_children.Goals as goal

pub children_at-children-requires : goal.children_at-children-requires
children_at-children-requires c = stands_in _ _ c.requires

pub set_mark-requires : goal.set_mark-requires
set_mark-requires c = stands_in _ _ c.requires

pub overflow_add-at : goal.overflow_add-at
overflow_add-at c = omega (arith, stands_in _ _ c.requires)

pub mark_children-requires : goal.mark_children-requires
mark_children-requires c = rw c.children_at-children.ensures (root_ready _ _ _ c.set_mark.ensures c.requires)

pub returns : goal.returns
returns c = root_updated _ _ _ c.set_mark.ensures _ (rw c.children_at-children.ensures at c.mark_children.ensures)
