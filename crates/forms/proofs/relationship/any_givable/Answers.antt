-- `forms::relationship::any_givable` meets its contract: the children from i on can be given one as all of them can, since none before i can.
use mathlib.Core.Path.{refl, sym, ap, ◌∙◌}
use mathlib.Core.List.{List, map}
use Rattle.exchange.specs.declared.relationship.Turn.{Turn}
use Rattle.exchange.specs.FactRows.{fact_row}
use Rattle.exchange.specs.Turns.{any_turn}
use Rattle.exchange.proofs.Tests.{enough, besides}
use Rattle.forms.proofs.Turns.{turns_turn, turns_end}
use Rattle.forms.proofs.relationship.any_givable.Goals as goal

pub returns-then-is_givable : goal.returns-then-is_givable
unfolding any_turn
returns-then-is_givable c = let a = c.args in let l = c.loop-i in let t = turns_turn a.asks.list.now a.forms.list.now c.requires l.i l.m c.loop-i-test.true in
    enough _ _ (sym (rw c.turn.ensures at c.is_givable.ensures) ∙ c.if-is_givable.true) ∙ sym (l.invariant ∙ ap (λ (xs : List Turn). any_turn (map fact_row a.xs.rows.now) xs) t)

pub loop-i-preserved : goal.loop-i-preserved
unfolding any_turn
loop-i-preserved c = let a = c.args in let l = c.loop-i in let t = turns_turn a.asks.list.now a.forms.list.now c.requires l.i l.m c.loop-i-test.true in
    l.invariant ∙ ap (λ (xs : List Turn). any_turn (map fact_row a.xs.rows.now) xs) t ∙ sym (besides _ _ _ (sym (rw c.turn.ensures at c.is_givable.ensures) ∙ c.if-is_givable.false) refl)

pub returns : goal.returns
unfolding any_turn
returns c = let a = c.args in let l = c.loop-i in let t = turns_end a.asks.list.now a.forms.list.now c.requires l.i l.m c.loop-i-test.false in
    sym (l.invariant ∙ ap (λ (xs : List Turn). any_turn (map fact_row a.xs.rows.now) xs) t)
