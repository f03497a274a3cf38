-- `ensure::interleave::all_layouts` meets its contract: what is left to compare says what all say.
use mathlib.Core.Path.{◌≡◌}
use mathlib.Core.List.{map}
use Rattle.exchange.specs.FactRows.{fact_row}
use Rattle.exchange.specs.Layouts.{layouts_by, same_layouts}
use Rattle.exchange.proofs.Interleaved.{alike_from}
use Rattle.ensure.proofs.interleave.all_layouts.Given as goal

abbrev pub invariant-loop-i : goal.invariant-loop-i
invariant-loop-i l = same_layouts l.layout (layouts_by (map fact_row l.xs.rows.now) 1 l.forms.list.now) ≡ alike_from (map fact_row l.xs.rows.now) l.forms.list.now l.layout l.i
