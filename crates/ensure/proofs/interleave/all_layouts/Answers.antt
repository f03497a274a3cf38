-- `ensure::interleave::all_layouts` meets its contract: what is left to compare says what all say.
use mathlib.Core.Path.{sym, ◌∙◌}
use mathlib.Core.List.{map}
use Rattle.exchange.specs.FactRows.{fact_row}
use Rattle.exchange.proofs.Interleaved.{other_layout, same_layout, layouts_end}
use Rattle.ensure.proofs.interleave.all_layouts.Goals as goal

pub returns-then-layout_in-layout : goal.returns-then-layout_in-layout
returns-then-layout_in-layout c = let a = c.args in other_layout (map fact_row a.xs.rows.now) a.forms.list.now a.layout _ _ c.loop-i-test.true c.layout_in.ensures c.if-layout_in-layout.true
    ∙ sym c.loop-i.invariant

pub loop-i-preserved : goal.loop-i-preserved
loop-i-preserved c = let a = c.args in c.loop-i.invariant
    ∙ same_layout (map fact_row a.xs.rows.now) a.forms.list.now a.layout _ _ c.loop-i-test.true c.layout_in.ensures c.if-layout_in-layout.false

pub returns : goal.returns
returns c = let a = c.args in layouts_end (map fact_row a.xs.rows.now) a.forms.list.now a.layout _ c.loop-i-test.false ∙ sym c.loop-i.invariant
