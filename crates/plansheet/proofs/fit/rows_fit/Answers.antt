-- `fit::rows_fit` meets its contract: the rows before i fit and are each the first of its child and form (`Fitting`).
use mathlib.Core.Path.{sym, ◌∙◌}
use mathlib.Core.List.{[]}
use native.Mathlib.Omega.{arith}
use lib.ListN.{get_or}
use Rattle.exchange.specs.Found.{child_of, form_number, row_for}
use Rattle.plansheet.proofs.Fitting.{good_more, good_all, bad_row, bad_pair, found_here, found_else}
use Rattle.plansheet.proofs.fit.rows_fit.Goals as goal

pub returns-then-not-row_fits : goal.returns-then-not-row_fits
returns-then-not-row_fits c = let a = c.args in bad_row a.target a.rows.now a.places.now a.facts.now a.xs.rows.now c.loop-i.i c.loop-i-test.true (sym c.row_fits.ensures ∙ c.if-not-row_fits.true)

pub returns-then-not-found_at : goal.returns-then-not-found_at
returns-then-not-found_at c =
    let a = c.args in let i = c.loop-i.i in
    bad_pair a.target a.rows.now a.places.now a.facts.now a.xs.rows.now i c.loop-i-test.true
    (found_else c.fact_row.result (row_for a.xs.rows.now (child_of (get_or a.xs.rows.now i [])) (form_number (get_or a.xs.rows.now i []))) i c.fact_row.ensures (sym c.found_at.ensures ∙ c.if-not-found_at.true))

pub loop-i-preserved : goal.loop-i-preserved
loop-i-preserved c =
    let a = c.args in let i = c.loop-i.i in
    good_more a.target a.rows.now a.places.now a.facts.now a.xs.rows.now i c.loop-i.invariant (
      sym c.row_fits.ensures ∙ c.if-not-row_fits.false,
      found_here c.fact_row.result (row_for a.xs.rows.now (child_of (get_or a.xs.rows.now i [])) (form_number (get_or a.xs.rows.now i []))) i c.fact_row.ensures (sym c.found_at.ensures ∙ c.if-not-found_at.false),
    )

pub returns : goal.returns
returns c = let a = c.args in good_all a.target a.rows.now a.places.now a.facts.now a.xs.rows.now (λ j h. c.loop-i.invariant j (omega (arith, c.loop-i-test.false)))
