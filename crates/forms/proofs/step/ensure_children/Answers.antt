-- `forms::step::ensure_children` meets its contract: the steps go by the children's numbers (`children_same`).
use mathlib.Core.Path.{◌∙◌}
use mathlib.Core.List.{map}
use lib.Seq.{length-take-le}
use Rattle.std.proofs.lemmas.List.{take_at}
use Rattle.exchange.specs.FactRows.{fact_row}
use Rattle.forms.proofs.Each.{children_same}
use Rattle.forms.proofs.step.ensure_children.Goals as goal

pub returns : goal.returns
returns c = λ o b ks n h. let a = c.args in
    rw (take_at c.ensure_each.new.forms _ _ (c.ensure_each.auto.forms ∙ length-take-le _ _ c.requires))
    (c.ensure_each.ensures ∙ children_same a.s (map fact_row a.xs.rows.now) _ a.w o b a.asks.list.now n h c.needs_alignment.ensures)
