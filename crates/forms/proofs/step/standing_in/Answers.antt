-- `forms::step::standing_in` meets its contract: a row that is found stands among the rows (`found_in`).
use mathlib.Core.Path.{sym, ap, ◌∙◌}
use native.Mathlib.Omega.{arith}
use Rattle.exchange.specs.Found.{found_of}
use Rattle.exchange.proofs.FactRows.{found_in}
use Rattle.forms.proofs.step.standing_in.Goals as goal

pub offset_bounds-xs-place : goal.offset_bounds-xs-place
offset_bounds-xs-place c = let a = c.args in omega (arith, found_in a.xs.rows.now a.c.child a.c.form _ (sym c.fact_row.ensures ∙ ap found_of c.in-Row.is))

pub bounds-xs-place : goal.bounds-xs-place
bounds-xs-place c = let a = c.args in found_in a.xs.rows.now a.c.child a.c.form _ (sym c.fact_row.ensures ∙ ap found_of c.in-Row.is)
