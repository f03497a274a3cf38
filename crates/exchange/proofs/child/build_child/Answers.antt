-- `exchange::child::build_child` meets its contract.
use native.Mathlib.Omega.{arith}
use Rattle.exchange.proofs.BuiltHere.{built_row, built_legal, built_heads, built_below, built_wrote}
use Rattle.exchange.proofs.child.build_child.Goals as goal

pub node_at-requires : goal.node_at-requires
node_at-requires c = built_row _ _ _ _ _ _ _ c.requires.ready

pub children_at-children-requires : goal.children_at-children-requires
children_at-children-requires c = built_row _ _ _ _ _ _ _ c.requires.ready

pub invariant_of-o : goal.invariant_of-o
invariant_of-o c = record { legal = rw c.node_at.ensures (built_legal _ _ _ _ _ _ _ c.requires.ready) }

pub put_built-next-requires : goal.put_built-next-requires
put_built-next-requires c = rw (c.node_at.ensures, c.children_at-children.ensures) (built_heads _ _ _ _ _ _ _ c.requires.ready)

pub overflow_add-below : goal.overflow_add-below
overflow_add-below c = omega (arith, built_row _ _ _ _ _ _ _ c.requires.ready)

pub copy_trees-requires : goal.copy_trees-requires
copy_trees-requires c = let e = rw (c.node_at.ensures, c.children_at-children.ensures) at c.put_built-next.ensures in
    rw (c.put_built-next.auto.dst, c.children_at-children.ensures) (built_below _ _ _ _ _ _ _ c.requires.ready _ e.0)

pub returns : goal.returns
returns c = let k = c.children_at-children.ensures in let e = rw (c.node_at.ensures, k) at c.put_built-next.ensures in
    built_wrote _ _ _ _ _ _ _ _ _ _ _ e.0 e.1 (rw k at c.copy_trees.ensures)
