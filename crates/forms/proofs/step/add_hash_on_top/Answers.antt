-- `forms::step::add_hash_on_top` meets its contract: the child passes into the form with its new top.
use mathlib.Core.Path.{sym}
use Rattle.exchange.specs.Forms.{form_of, with_top}
use Rattle.exchange.specs.Step.{keyed_on}
use Rattle.exchange.specs.Standings.{state_for}
use Rattle.forms.proofs.step.add_hash_on_top.Goals as goal

pub returns : goal.returns
returns c = c.pass.ensures (state_for c.args.c.number c.args.c.asked c.args.c.standing) (with_top 2 (form_of c.args.c.standing.form)) keyed_on (sym c.with_top.ensures.child) (sym c.with_top.ensures.form)
