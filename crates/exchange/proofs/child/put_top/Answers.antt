-- `exchange::child::put_top` meets its contract.
use mathlib.Core.Path.{sym, ap, ◌∙◌}
use mathlib.Core.List.{map}
use native.Mathlib.Omega.{arith}
use lib.ListN.{length}
use Rattle.exchange.specs.FactRows.{fact_row}
use Rattle.exchange.specs.Forms.{form_of}
use Rattle.exchange.specs.Rows.{operator_of}
use Rattle.exchange.specs.Built.{built_top}
use Rattle.exchange.proofs.Replaced.{put_one}
use Rattle.exchange.proofs.BuiltRows.{top_none, top_one, put_nothing}
use Rattle.exchange.proofs.child.put_top.Goals as goal

-- src/child.rt:98:9
pub returns-then-top_of-eq-TOP_NONE : goal.returns-then-top_of-eq-TOP_NONE
returns-then-top_of-eq-TOP_NONE c = let a = c.args in put_nothing _ _ _ (top_none (map fact_row a.xs.rows.now) a.c.child (form_of a.c.form) (operator_of a.root) (sym c.top_of.ensures ∙ c.if-top_of-eq-TOP_NONE.true))

-- src/child.rt:100:5
pub put_node-requires : goal.put_node-requires
put_node-requires c = let a = c.args in omega (arith, ap length (top_one (map fact_row a.xs.rows.now) a.c.child (form_of a.c.form) (operator_of a.root) (λ e. c.if-top_of-eq-TOP_NONE.false (c.top_of.ensures ∙ e))), c.requires.root_in_bounds)

-- src/child.rt:91:1
pub returns : goal.returns
returns c = let a = c.args in put_one _ _ _ _ _ _ (built_top (map fact_row a.xs.rows.now) a.c.child (form_of a.c.form) (operator_of a.root)) (top_one (map fact_row a.xs.rows.now) a.c.child (form_of a.c.form) (operator_of a.root) (λ e. c.if-top_of-eq-TOP_NONE.false (c.top_of.ensures ∙ e))) c.built_top.ensures c.put_node.ensures
