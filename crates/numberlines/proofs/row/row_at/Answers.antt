-- `numberlines::row::row_at` meets its contract: numbers for all places but the last (`numbers_to`), and the last one up to the LF (`row_done`).
use mathlib.Core.Path.{ap, ◌∙◌}
use native.Mathlib.Omega.{arith}
use Prim.Native.Nat.{◌-◌}
use lib.ListN.{length, length-take}
use Rattle.std.specs.Prelude.{Err}
use Rattle.std.proofs.lemmas.Result.{err_from_is_err_and}
use Rattle.numberlines.proofs.Numbers.{row_unusual, row_done}
use Rattle.numberlines.proofs.row.row_at.Goals as goal

pub returns-in_err-p : goal.returns-in_err-p
returns-in_err-p c =
    let a = c.args in let r = c.from_residual-in_err-p in let p = err_from_is_err_and r.result r.ensures.1 in
    row_unusual a.letter a.s.now a.at a.row.now c.in_ok-comma.comma c.in_ok-comma.ensures _ _ (p.1 ∙ ap Err (p.2 ∙ c.in_err-p.ensures.0))

pub returns : goal.returns
returns c =
    let a = c.args in
    row_done a.letter a.s.now a.at a.row.now c.in_ok-comma.comma c.in_ok-comma.ensures c.in_ok-p.p c.numbers_to.new.row _ _ _
    (omega (arith, c.numbers_to.auto.row, length-take (length a.row.now - 1) a.row.now)) (omega (arith, c.requires)) c.in_ok-p.ensures c.last_to.ensures
