-- `forms::step::add_roundrobin_on_top` meets its contract: the child passes into the form with its new top, or stays.
use mathlib.Core.Path.{sym}
use borrow.Author.Tests.{lt-ltb}
use Rattle.exchange.specs.Forms.{form_of, with_top}
use Rattle.exchange.specs.Step.{roundrobin_on}
use Rattle.exchange.specs.Standings.{state_for}
use Rattle.forms.proofs.Formed.{formed_taken}
use Rattle.forms.proofs.step.add_roundrobin_on_top.Goals as goal

pub returns : goal.returns
returns c = formed_taken _ _ _ _ (lt-ltb _ _ c.if-target-c.false)
    (c.pass.ensures (state_for c.args.c.number c.args.c.asked c.args.c.standing) (with_top 3 (form_of c.args.c.standing.form)) roundrobin_on (sym c.with_top.ensures.child) (sym c.with_top.ensures.form))
