-- `forms::step::satisfy_distribution` meets its contract: by the need, each with its own tests.
use mathlib.Core.Path.{refl, sym, ap}
use mathlib.Core.Bool.{◌&&◌, not}
use Rattle.exchange.specs.FactRows.{child_at}
use Rattle.exchange.specs.Standings.{worked_for, state_for, status_by}
use Rattle.exchange.specs.Step.{needs_hash_repartition}
use borrow.Author.Tests.{eq-eqb, ne_eqb}
use Rattle.exchange.proofs.Tests.{stop, past, refused, held}
use Rattle.forms.proofs.Formed.{formed_kept, formed_taken, formed_left}
use Rattle.forms.proofs.step.satisfy_distribution.Goals as goal
use Rattle.forms.proofs.step.satisfy_distribution.Goals.{then-not-t-via-then-not-t, then-not-t-via-else-not-t+then-not-needs_hash_repartition}

pub returns-then-a-ne-KEYED : goal.returns-then-a-ne-KEYED
returns-then-a-ne-KEYED c = formed_left _ _ _ _ (ne_eqb _ _ c.if-a-eq-SINGLE.false) (formed_left _ _ _ _ (ne_eqb _ _ c.if-a-ne-KEYED.true)
    c.satisfy_unspecified.ensures)

pub returns-then-not-t : goal.returns-then-not-t
returns-then-not-t c = let a = c.args in let t = status_by (child_at a.c.number a.c.asked) a.t in
    formed_left _ _ _ _ (ne_eqb _ _ c.if-a-eq-SINGLE.false) (formed_taken _ _ _ _ (eq-eqb _ _ c.if-a-ne-KEYED.false) (formed_left (t.hash_necessary && needs_hash_repartition a.w.settings (worked_for a.w.worked) t (state_for a.c.number a.c.asked a.c.standing)) _ _ _
    (elim c.then-not-t.branch [
      | then-not-t-via-then-not-t w ↦ sym (stop _ _ (refused _ _ refl w.if-not-t.true))
      | then-not-t-via-else-not-t+then-not-needs_hash_repartition w ↦ sym (past _ _ _ (held _ _ refl w.if-not-t.false) (sym (refused _ _ (w.needs_hash_repartition.ensures c.args.c.number c.args.w.aligned) (ap not w.if-not-needs_hash_repartition.true))))
    ]) (formed_kept _ c.args.c.within.2)))

pub returns : goal.returns
returns c = formed_left _ _ _ _ (ne_eqb _ _ c.if-a-eq-SINGLE.false) (formed_taken _ _ _ _ (eq-eqb _ _ c.if-a-ne-KEYED.false)
    (formed_taken _ _ _ _ (sym (past _ _ _ (held _ _ refl c.if-not-t.false) (sym (held _ _ (c.needs_hash_repartition.ensures c.args.c.number c.args.w.aligned) (ap not c.if-not-needs_hash_repartition.false))))) c.add_hash_on_top.ensures))
