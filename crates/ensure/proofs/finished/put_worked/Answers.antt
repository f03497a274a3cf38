-- `put_worked` meets its contract: a legal row is that of its operator.
use mathlib.Core.Path.{refl, ap, ◌∙◌}
use mathlib.Core.Bool.{true, false}
use lib.ListN.{set}
use Rattle.exchange.specs.declared.row.Node.{Node}
use Rattle.exchange.specs.Rows.{packed, operator_of}
use Rattle.exchange.specs.Ensure.{interleaved}
use Rattle.exchange.proofs.TreeRows.{row_packed}
use Rattle.ensure.proofs.Finishing.{packed_row, put_chosen}
use Rattle.ensure.proofs.finished.put_worked.Goals as goal

pub returns-then-interleaves : goal.returns-then-interleaves
returns-then-interleaves c = let a = c.args in put_chosen a.interleaves true a.rows.now _ (interleaved (operator_of a.worked.node)) (operator_of a.worked.node) a.children c.if-interleaves.true
    (c.put_node.ensures ∙ ap (set a.rows.now 0) (ap (λ (n : Node). packed n a.children) c.interleave_one.ensures ∙ row_packed (interleaved (operator_of a.worked.node)) a.children))

pub returns : goal.returns
returns c = let a = c.args in put_chosen a.interleaves false a.rows.now _ (interleaved (operator_of a.worked.node)) (operator_of a.worked.node) a.children c.if-interleaves.false
    (c.put_node-2.ensures ∙ ap (set a.rows.now 0) (packed_row _ _ a.children a.worked.legal refl))
