-- `forms::relationship::round` meets its contract: the forms before i are those after their turns, and stand before the turns from i on (`each_turn`).
use mathlib.Core.Path.{◌≡◌, sym, ap, ◌∙◌}
use mathlib.Core.List.{List, map}
use mathlib.Core.Option.{Option}
use Prim.Native.Nat.{ℕ, ◌+◌, ◌/◌, ◌<◌}
use native.Mathlib.Omega.{arith}
use lib.ListN.{length, take, drop, set, length-set}
use lib.Seq.{take_all, drop-set-lt}
use Rattle.std.specs.Prelude.{Option as Answer}
use Rattle.exchange.specs.declared.relationship.Turn.{Turn}
use Rattle.exchange.specs.FactRows.{fact_row}
use Rattle.exchange.specs.Standings.{asked_needs, with_forms, each_form}
use Rattle.exchange.specs.Turns.{turn_form, turns_by}
use Rattle.forms.proofs.Each.{prepend, each_turn, each_missing, each_end}
use Rattle.forms.proofs.Turns.{turns_turn, turns_end, turn_small, small_set}
use Rattle.forms.proofs.relationship.round.Goals as goal

pub returns-in_err-forms-clause-forms_after : goal.returns-in_err-forms-clause-forms_after
unfolding each_form
returns-in_err-forms-clause-forms_after c = let a = c.args in let l = c.loop-i in let f = turn_form (map fact_row a.xs.rows.now) in
    let t = turns_turn a.asks.list.now l.forms (omega (arith, l.invariant.0, c.requires.forms_len)) l.i l.m c.loop-i-test.true in
    let rest = each_form f (turns_by (l.i + 1 + 1) (l.m / 2) (asked_needs (drop (l.i + 1) a.asks.list.now)) (drop (l.i + 1) l.forms)) in
    rw c.from_residual.ensures (each_missing _ (take l.i l.forms) rest
    (l.invariant.2 ∙ ap (λ (xs : List Turn). prepend (take l.i l.forms) (each_form f xs)) t
    ∙ ap (λ (o : Answer ℕ). prepend (take l.i l.forms) (with_forms o rest)) (sym (rw c.turn.ensures at c.give.ensures) ∙ c.in_err-forms.was)))

pub loop-i-preserved : goal.loop-i-preserved
unfolding each_form
loop-i-preserved c = let a = c.args in let l = c.loop-i in let v = c.in_ok-forms.field-0 in
    let f = turn_form (map fact_row a.xs.rows.now) in
    let fits : l.i < length l.forms = omega (arith, l.invariant.0, c.requires.forms_len, c.loop-i-test.true) in
    let t = turns_turn a.asks.list.now l.forms (omega (arith, l.invariant.0, c.requires.forms_len)) l.i l.m c.loop-i-test.true in
    let rest : List ℕ → Option (List ℕ) = λ fs. each_form f (turns_by (l.i + 1 + 1) (l.m / 2) (asked_needs (drop (l.i + 1) a.asks.list.now)) fs) in
    let made = sym (rw c.turn.ensures at c.give.ensures) ∙ c.in_ok-forms.was in (
      simp length-set l.invariant.0,
      small_set l.forms l.i v (turn_small (map fact_row a.xs.rows.now) _ v (l.invariant.1 l.i fits) made) fits l.invariant.1,
      each_turn _ l.forms l.i v fits (rest (drop (l.i + 1) l.forms))
          (l.invariant.2 ∙ ap (λ (xs : List Turn). prepend (take l.i l.forms) (each_form f xs)) t
          ∙ ap (λ (o : Answer ℕ). prepend (take l.i l.forms) (with_forms o (rest (drop (l.i + 1) l.forms)))) made)
          ∙ ap (λ (fs : List ℕ). prepend (take (l.i + 1) (set l.forms l.i v)) (rest fs)) (sym (drop-set-lt (l.i + 1) l.forms l.i v (omega arith))),
    )

pub returns-clause-forms_after : goal.returns-clause-forms_after
unfolding each_form
returns-clause-forms_after c = let a = c.args in let l = c.loop-i in let f = turn_form (map fact_row a.xs.rows.now) in
    let t = turns_end a.asks.list.now l.forms (omega (arith, l.invariant.0, c.requires.forms_len)) l.i l.m c.loop-i-test.false in
    let all : take l.i l.forms ≡ l.forms = take_all l.i l.forms (omega (arith, l.invariant.0, c.requires.forms_len, c.loop-i-test.false)) in
    rw all at (each_end _ (take l.i l.forms) (l.invariant.2 ∙ ap (λ (xs : List Turn). prepend (take l.i l.forms) (each_form f xs)) t))
