-- `exchange::child::put_built` meets its contract.
use mathlib.Core.List.{map}
use native.Mathlib.Omega.{arith}
use Rattle.exchange.specs.FactRows.{fact_row}
use Rattle.exchange.specs.Forms.{form_of}
use Rattle.exchange.specs.Rows.{operator_of}
use Rattle.exchange.specs.Built.{built_root}
use Rattle.exchange.proofs.BuiltRows.{said, built_long, built_put}
use Rattle.exchange.proofs.child.put_built.Goals as goal

pub put_new-next-requires : goal.put_new-next-requires
put_new-next-requires c = let a = c.args in rw (said _ (built_root (map fact_row a.xs.rows.now) a.c.child (form_of a.c.form) (operator_of a.o.node)) c.built_root-root.ensures) (omega (arith, built_long (map fact_row a.xs.rows.now) a.c.child (form_of a.c.form) (operator_of a.o.node) a.children, c.requires))

pub put_node-requires : goal.put_node-requires
put_node-requires c = let a = c.args in omega (arith, (rw (said _ (built_root (map fact_row a.xs.rows.now) a.c.child (form_of a.c.form) (operator_of a.o.node)) c.built_root-root.ensures) at c.put_new-next.ensures).0, built_long (map fact_row a.xs.rows.now) a.c.child (form_of a.c.form) (operator_of a.o.node) a.children, c.requires, c.put_new-next.auto)

pub overflow_add-result : goal.overflow_add-result
overflow_add-result c = let a = c.args in omega (arith, (rw (said _ (built_root (map fact_row a.xs.rows.now) a.c.child (form_of a.c.form) (operator_of a.o.node)) c.built_root-root.ensures) at c.put_new-next.ensures).0, built_long (map fact_row a.xs.rows.now) a.c.child (form_of a.c.form) (operator_of a.o.node) a.children, c.requires, c.well_formed)

pub returns : goal.returns
returns c = let a = c.args in built_put (map fact_row a.xs.rows.now) a.c.child (form_of a.c.form) (operator_of a.o.node) a.children _ _ _ _ _ _ c.built_root-root.ensures c.put_new-next.ensures c.put_node.ensures
