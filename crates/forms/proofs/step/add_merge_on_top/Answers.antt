-- `forms::step::add_merge_on_top` meets its contract: the child passes into the form with its new top, or stays.
use mathlib.Core.Path.{sym}
use borrow.Author.Tests.{lt-ltb}
use Rattle.exchange.specs.Forms.{form_of, with_top}
use Rattle.exchange.specs.Step.{merge_on}
use Rattle.exchange.specs.Standings.{state_for}
use Rattle.forms.proofs.Formed.{formed_taken}
use Rattle.forms.proofs.step.add_merge_on_top.Goals as goal

pub returns : goal.returns
returns c = formed_taken _ _ _ _ (lt-ltb _ _ c.if-c-le1.false)
    (c.pass.ensures (state_for c.args.c.number c.args.c.asked c.args.c.standing) (with_top 1 (form_of c.args.c.standing.form)) merge_on (sym c.with_top.ensures.child) (sym c.with_top.ensures.form))
