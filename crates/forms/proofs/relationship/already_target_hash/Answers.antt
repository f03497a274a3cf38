-- `forms::relationship::already_target_hash` meets its contract: the row of the form is found or not, and its two marks are tested.
use mathlib.Core.Path.{sym, ap, ◌∙◌}
use native.Mathlib.Omega.{arith}
use Rattle.exchange.specs.Found.{found_of}
use Rattle.exchange.specs.Turns.{row_already}
use Rattle.exchange.proofs.Tests.{stop, past}
use Rattle.forms.proofs.Turns.{turn_none, turn_placed, turn_row}
use Rattle.forms.proofs.relationship.already_target_hash.Goals as goal

pub returns-in_default : goal.returns-in_default
returns-in_default c = let a = c.args in sym (ap row_already (turn_none a.xs.rows.now a.c.child a.c.form a.c.within.2 (ap found_of (sym c.in_default.is) ∙ c.fact_row.ensures)))

pub offset_bounds-xs-place : goal.offset_bounds-xs-place
offset_bounds-xs-place c = let a = c.args in omega (arith, turn_placed a.xs.rows.now a.c.child a.c.form a.c.within.2 _ (ap found_of (sym c.in-Row.is) ∙ c.fact_row.ensures))

pub bounds-xs-place : goal.bounds-xs-place
bounds-xs-place c = let a = c.args in turn_placed a.xs.rows.now a.c.child a.c.form a.c.within.2 _ (ap found_of (sym c.in-Row.is) ∙ c.fact_row.ensures)

pub returns-then-is_set : goal.returns-then-is_set
returns-then-is_set c = let a = c.args in let e = turn_row a.xs.rows.now a.c.child a.c.form a.c.within.2 _ (ap found_of (sym c.in-Row.is) ∙ c.fact_row.ensures) in
    past _ _ _ (sym c.is_set.ensures ∙ c.if-is_set.true) c.is_set-then-is_set.ensures ∙ sym (ap row_already e)

pub returns-else-is_set : goal.returns-else-is_set
returns-else-is_set c = let a = c.args in let e = turn_row a.xs.rows.now a.c.child a.c.form a.c.within.2 _ (ap found_of (sym c.in-Row.is) ∙ c.fact_row.ensures) in
    c.if-is_set.false ∙ stop _ _ (sym c.is_set.ensures ∙ c.if-is_set.false) ∙ sym (ap row_already e)
