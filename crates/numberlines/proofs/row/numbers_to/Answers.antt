-- `numberlines::row::numbers_to` meets its contract. What was stored so far stands on the line so far (`numbers_more`).
use mathlib.Core.Path.{ap, ◌∙◌}
use native.Mathlib.Omega.{arith}
use lib.ListN.{take, length-take, length-set}
use Rattle.std.specs.Prelude.{Err}
use Rattle.std.proofs.lemmas.Result.{err_from_is_err_and}
use Rattle.numberlines.proofs.Apart.{numbers_next}
use Rattle.numberlines.proofs.Numbers.{numbers_none, numbers_more, number_is, none_is, unusual_is, numbers_lost}
use Rattle.numberlines.proofs.row.numbers_to.Goals as goal

pub loop-place-init : goal.loop-place-init
loop-place-init c = numbers_none _ _ c.args.from.here

pub loop-place-preserved : goal.loop-place-preserved
loop-place-preserved c =
    let n = number_is _ _ _ c.number_to.result c.number_to.ensures c.in_ok-number.number c.in_ok-number.ensures.value in
    numbers_more _ _ c.loop-place.row _ _ (omega (arith, c.loop-place-test.true, c.loop-place.auto.row)) c.loop-place.invariant _ _ n

pub returns-in_err-number : goal.returns-in_err-number
returns-in_err-number c =
    let l = c.loop-place in let r = c.from_residual in let p = err_from_is_err_and r.result r.ensures.1 in
    let none = none_is _ _ _ c.number_to.result c.number_to.ensures c.in_err-number.field-0.0 c.in_err-number.ensures.value in
    numbers_lost c.args.from r.result _ _ (p.1 ∙ ap Err p.2) (unusual_is c.number_to.result _ c.in_err-number.ensures.value) (λ ms end e o.
    let x = numbers_next _ _ (take l.place-index l.row) ms l.at end (omega (arith, length-take l.place-index l.row, simp length-set at e, c.loop-place-test.true, l.auto.row)) l.invariant o in
    none x.n x.end x.is)
