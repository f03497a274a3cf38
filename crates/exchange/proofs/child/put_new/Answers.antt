-- `exchange::child::put_new` meets its contract.
use mathlib.Core.Path.{ap}
use mathlib.Core.List.{map}
use native.Mathlib.Omega.{arith}
use lib.ListN.{length}
use Rattle.exchange.specs.FactRows.{fact_row}
use Rattle.exchange.specs.Forms.{form_of}
use Rattle.exchange.specs.Rows.{operator_of}
use Rattle.exchange.specs.Built.{built_relationship}
use Rattle.exchange.proofs.BuiltRows.{new_none, new_one, put_more}
use Rattle.exchange.proofs.child.put_new.Goals as goal

pub put_top-requires : goal.put_top-requires
put_top-requires c = let a = c.args in omega (arith, ap length (new_none (map fact_row a.xs.rows.now) a.c.child (form_of a.c.form) (operator_of a.root.node) (cc)), c.requires.root_in_bounds)

pub returns-then-not-is_set : goal.returns-then-not-is_set
returns-then-not-is_set c = let a = c.args in rw (new_none (map fact_row a.xs.rows.now) a.c.child (form_of a.c.form) (operator_of a.root.node) (cc)) c.put_top.ensures

pub put_node-requires : goal.put_node-requires
put_node-requires c = let a = c.args in omega (arith, ap length (new_one (map fact_row a.xs.rows.now) a.c.child (form_of a.c.form) (operator_of a.root.node) (cc)), c.requires.root_in_bounds)

pub put_top-requires-2 : goal.put_top-requires-2
put_top-requires-2 c = let a = c.args in omega (arith, ap length (new_one (map fact_row a.xs.rows.now) a.c.child (form_of a.c.form) (operator_of a.root.node) (cc)), c.requires.root_in_bounds, c.put_node.auto.rows)

pub returns : goal.returns
returns c = let a = c.args in put_more _ _ _ _ _ (built_relationship (map fact_row a.xs.rows.now) a.c.child (form_of a.c.form) (operator_of a.root.node)) c.built_relationship.ensures _ _ _ (new_one (map fact_row a.xs.rows.now) a.c.child (form_of a.c.form) (operator_of a.root.node) (cc)) c.put_node.ensures c.put_top-2.ensures
