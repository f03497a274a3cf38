-- `exchange::child::row_in` meets its contract.
use mathlib.Core.Path.{sym, ap, ◌∙◌}
use native.Mathlib.Omega.{arith}
use Rattle.exchange.specs.Found.{found_of}
use Rattle.exchange.proofs.BuiltRows.{row_blank, row_there, row_within}
use Rattle.exchange.proofs.child.row_in.Goals as goal

pub returns-in_default : goal.returns-in_default
returns-in_default c = let a = c.args in row_blank a.xs.rows.now a.c.child a.c.form a.c.within.2 (ap found_of (sym c.in_default.is) ∙ c.fact_row.ensures)

pub offset_bounds-xs-place : goal.offset_bounds-xs-place
offset_bounds-xs-place c = let a = c.args in omega (arith, row_within a.xs.rows.now a.c.child a.c.form a.c.within.2 _ (ap found_of (sym c.in-Row.is) ∙ c.fact_row.ensures))

pub bounds-xs-place : goal.bounds-xs-place
bounds-xs-place c = let a = c.args in row_within a.xs.rows.now a.c.child a.c.form a.c.within.2 _ (ap found_of (sym c.in-Row.is) ∙ c.fact_row.ensures)

pub returns : goal.returns
returns c = let a = c.args in row_there a.xs.rows.now a.c.child a.c.form a.c.within.2 _ (ap found_of (sym c.in-Row.is) ∙ c.fact_row.ensures)
