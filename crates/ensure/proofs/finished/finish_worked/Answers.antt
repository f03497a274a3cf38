-- `finish_worked` meets its contract: the worked node's row and then its children are the rows of the answer (`answer_wrote`).
use lib.ListN.{length}
use native.Mathlib.Omega.{arith}
use Rattle.ensure.proofs.Finishing.{root_in, root_legal, came_shape, came_counted, came_room, came_each, came_readys, answer_wrote, shape_of, mark_byte}
use Rattle.ensure.proofs.finished.finish_worked.Goals as goal

pub overflow_add-at : goal.overflow_add-at
overflow_add-at c = let a = c.args in let p = c.requires.came in omega (arith, root_in a.src.rows.now a.src.at p.tree p.rest p.stands)

pub node_at-node-requires : goal.node_at-node-requires
node_at-node-requires c = let a = c.args in let p = c.requires.came in root_in a.src.rows.now a.src.at p.tree p.rest p.stands

pub children_at-k-requires : goal.children_at-k-requires
children_at-k-requires c = let a = c.args in let p = c.requires.came in root_in a.src.rows.now a.src.at p.tree p.rest p.stands

pub invariant_of-becomes_interleave : goal.invariant_of-becomes_interleave
invariant_of-becomes_interleave c = let a = c.args in let p = c.requires.came in
    let shape = came_shape _ a.f.node _ _ _ _ _ _ _ p in record {
      few = omega (arith, shape.long, came_counted _ a.f.node _ _ _ _ _ _ _ p, a.f.few);
      small = shape.small;
    }

pub invariant_of-worked : goal.invariant_of-worked
invariant_of-worked c = let a = c.args in let p = c.requires.came in record { legal = rw c.node_at-node.ensures (root_legal a.src.rows.now a.src.at p.tree p.rest p.stands) }

pub put_worked-requires : goal.put_worked-requires
put_worked-requires c = let a = c.args in let p = c.requires.came in came_room _ a.f.node _ _ _ _ _ _ _ p

pub finish_children-m-requires-clause-each_finished : goal.finish_children-m-requires-clause-each_finished
finish_children-m-requires-clause-each_finished c = let a = c.args in let p = c.requires.came in rw c.children_at-k.ensures (came_each _ a.f.node _ _ _ _ _ _ _ p (length a.mid.now) c.requires.roomy a.f.few a.f.ordered)

pub finish_children-m-requires-clause-readys : goal.finish_children-m-requires-clause-readys
finish_children-m-requires-clause-readys c = let a = c.args in let p = c.requires.came in rw (c.node_at-node.ensures, c.children_at-k.ensures) (rw c.put_worked.auto.rows (came_readys _ a.f.node _ _ _ _ _ _ _ p))

pub returns : goal.returns
returns c = let a = c.args in let p = c.requires.came in λ t rest cs h came numbers.
    answer_wrote _ a.f.node _ _ _ _ _ _ _ _ _ c.node_at-node.ensures c.children_at-k.ensures c.becomes_interleave-i.ensures t rest cs
    (shape_of _ a.f.node _ _ _ _ _ _ t rest cs h came numbers (came_counted _ a.f.node _ _ _ _ _ _ _ p)) _ _ _ _ _ _ c.put_worked.ensures c.finish_children-m.ensures c.window_mark.ensures (mark_byte _ _ c.from.ensures)
