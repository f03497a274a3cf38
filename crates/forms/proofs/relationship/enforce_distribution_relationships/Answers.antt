-- `forms::relationship::enforce_distribution_relationships` meets its contract: the rounds that are left, on the forms as they stand, end as all of them do (`rounds_turn`).
use mathlib.Core.Path.{sym, ap, ◌∙◌}
use mathlib.Core.Bool.{not}
use mathlib.Core.List.{map}
use Prim.Native.Nat.{ℕ}
use native.Mathlib.Omega.{arith}
use Rattle.std.proofs.lemmas.Result.{err_from_is_err_and}
use Rattle.exchange.specs.Facts.{unsatisfied_at}
use Rattle.exchange.specs.FactRows.{fact_row}
use Rattle.exchange.specs.Standings.{asked_needs}
use Rattle.exchange.specs.Turns.{rounds_by}
use Rattle.exchange.proofs.Tests.{refused, held}
use Rattle.forms.proofs.Rounds.{rounds_done, rounds_spent, rounds_stuck, rounds_lacking, rounds_turn, round_lacking, round_done, ok_or_missing, ok_or_done}
use Rattle.forms.proofs.Rounded.{enforce_same}
use Rattle.forms.proofs.relationship.enforce_distribution_relationships.Goals as goal

pub returns-then-mask-eq0 : goal.returns-then-mask-eq0
returns-then-mask-eq0 c = λ cs s. let a = c.args in let l = c.loop in
    rounds_done (map fact_row a.xs.rows.now) a.masks.now (asked_needs a.asks.list.now) l.forms _ (c.unsatisfied_at-mask.ensures ∙ ap (λ (k : ℕ). unsatisfied_at a.masks.now k) c.given_set.ensures) _ c.if-mask-eq0.true
    ∙ sym l.invariant.2 ∙ enforce_same (map fact_row a.xs.rows.now) a.masks.now s

pub returns-then-not-any_givable : goal.returns-then-not-any_givable
returns-then-not-any_givable c = λ cs s. let a = c.args in let l = c.loop in
    rounds_stuck (map fact_row a.xs.rows.now) a.masks.now (asked_needs a.asks.list.now) l.forms _ (c.unsatisfied_at-mask.ensures ∙ ap (λ (k : ℕ). unsatisfied_at a.masks.now k) c.given_set.ensures) _ c.if-mask-eq0.false
    (refused _ _ c.any_givable.ensures (ap not c.if-not-any_givable.true))
    ∙ sym l.invariant.2 ∙ enforce_same (map fact_row a.xs.rows.now) a.masks.now s

pub returns-in_err-ok_or : goal.returns-in_err-ok_or
returns-in_err-ok_or c = λ cs s. let a = c.args in let l = c.loop in
    let p = err_from_is_err_and c.from_residual.result c.from_residual.ensures.1 in
    let q = ok_or_missing _ _ _ (sym c.ok_or.ensures.value ∙ c.in_err-ok_or.was) in
    rw (p.1, p.2, q.1)
    (rounds_lacking (map fact_row a.xs.rows.now) a.masks.now (asked_needs a.asks.list.now) l.forms _ (c.unsatisfied_at-mask.ensures ∙ ap (λ (k : ℕ). unsatisfied_at a.masks.now k) c.given_set.ensures) _ c.if-mask-eq0.false
    (λ z. omega (arith, c.loop-test.true)) (held _ _ c.any_givable.ensures (ap not c.if-not-any_givable.false)) (round_lacking _ _ _ q.0 c.round.ensures.forms_after)
    ∙ sym l.invariant.2 ∙ enforce_same (map fact_row a.xs.rows.now) a.masks.now s)

pub loop-preserved : goal.loop-preserved
loop-preserved c = let a = c.args in let l = c.loop in
    let ends = rounds_by (map fact_row a.xs.rows.now) a.masks.now (asked_needs a.asks.list.now) in (
      omega (arith, l.invariant.0, c.round.auto.forms),
      c.round.ensures.small,
      l.invariant.2
          ∙ rounds_turn (map fact_row a.xs.rows.now) a.masks.now (asked_needs a.asks.list.now) l.forms _ (c.unsatisfied_at-mask.ensures ∙ ap (λ (k : ℕ). unsatisfied_at a.masks.now k) c.given_set.ensures) _ _ c.if-mask-eq0.false
          (λ z. omega (arith, c.loop-test.true)) (held _ _ c.any_givable.ensures (ap not c.if-not-any_givable.false))
          (round_done _ _ _ _ (ok_or_done _ _ _ (sym c.ok_or.ensures.value ∙ c.in_ok-ok_or.was)) c.round.ensures.forms_after)
          ∙ ap (λ (n : ℕ). ends n c.round.new.forms) (omega arith),
    )

pub returns-then-unsatisfied_at-ne0 : goal.returns-then-unsatisfied_at-ne0
returns-then-unsatisfied_at-ne0 c = λ cs s. let a = c.args in let l = c.loop in
    rounds_spent (map fact_row a.xs.rows.now) a.masks.now (asked_needs a.asks.list.now) l.forms _ (c.unsatisfied_at.ensures ∙ ap (λ (k : ℕ). unsatisfied_at a.masks.now k) c.given_set-2.ensures) _ c.if-unsatisfied_at-ne0.true (omega (arith, c.loop-test.false))
    ∙ sym l.invariant.2 ∙ enforce_same (map fact_row a.xs.rows.now) a.masks.now s

pub returns : goal.returns
returns c = λ cs s. let a = c.args in let l = c.loop in
    rounds_done (map fact_row a.xs.rows.now) a.masks.now (asked_needs a.asks.list.now) l.forms _ (c.unsatisfied_at.ensures ∙ ap (λ (k : ℕ). unsatisfied_at a.masks.now k) c.given_set-2.ensures) _ c.if-unsatisfied_at-ne0.false
    ∙ sym l.invariant.2 ∙ enforce_same (map fact_row a.xs.rows.now) a.masks.now s
