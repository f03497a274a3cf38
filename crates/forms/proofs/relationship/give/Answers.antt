-- `forms::relationship::give` meets its contract: the child passes into the form with a relationship exchange, or stays.
use mathlib.Core.Path.{sym, ap}
use mathlib.Core.Bool.{not}
use mathlib.Core.List.{map}
use Rattle.exchange.specs.Forms.{form_of, with_relationship}
use Rattle.exchange.specs.FactRows.{fact_row}
use Rattle.exchange.proofs.Tests.{chosen, held}
use Rattle.forms.proofs.Turns.{give_passed}
use Rattle.forms.proofs.relationship.give.Goals as goal

pub returns : goal.returns
returns c = let a = c.args in chosen _ _ _ _ (held _ _ c.is_givable.ensures (ap not c.if-not-is_givable.false))
    (give_passed (map fact_row a.xs.rows.now) a.x.number (with_relationship (form_of a.x.form)) _ _ _ c.pass.ensures (sym c.with_relationship.ensures.child) (sym c.with_relationship.ensures.form))
