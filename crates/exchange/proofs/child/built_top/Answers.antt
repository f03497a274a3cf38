-- `exchange::child::built_top` meets its contract.
use mathlib.Core.Path.{ap, ◌∙◌}
use mathlib.Core.List.{map}
use Rattle.exchange.specs.FactRows.{fact_row}
use Rattle.exchange.specs.Built.{row_in}
use Rattle.exchange.proofs.BuiltRows.{top_built, before_apart}
use Rattle.exchange.proofs.child.built_top.Goals as goal

pub returns : goal.returns
returns c = let a = c.args in top_built _ _ _ _ _ a.root _ c.top_of-top.ensures (c.row_in.ensures ∙ ap (row_in (map fact_row a.xs.rows.now) a.c.child) (before_apart a.c.form _ _ _ a.c.within.2 c.split_of.ensures c.top_of-top.ensures c.form_of.ensures)) c.top_operator.ensures
