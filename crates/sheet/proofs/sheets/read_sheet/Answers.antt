-- `sheet::sheets::read_sheet` meets its contract. What the lines, and then the counts, make of the sheet (`SheetsRead`).
use mathlib.Core.Path.{sym, ap, subst, ◌∙◌}
use native.Mathlib.Omega.{arith}
use Rattle.std.specs.Prelude.{Result, Err}
use Rattle.std.proofs.lemmas.Result.{err_from_is_err_and}
use Rattle.refusals.specs.declared.Refused.{Refused}
use Rattle.sheet.specs.ListFits.{SheetRead}
use Rattle.sheet.proofs.SheetsRead.{sheet_back, sheet_unfit, sheet_whole}
use Rattle.sheet.proofs.sheets.read_sheet.Goals as goal

pub returns-in_err-read_whole : goal.returns-in_err-read_whole
returns-in_err-read_whole c =
    let a = c.args in let w = c.read_whole.new in let q = c.in_err-read_whole in
    let p = err_from_is_err_and c.from_residual.result c.from_residual.ensures.1 in
    subst (λ (r : Result (Unit {0}) Refused). SheetRead a.k a.s.now r w.lists w.counts) (sym (p.1 ∙ ap Err p.2)) (sheet_back a.k a.s.now w.lists w.counts q.field-0.0 q.ensures.answer)

pub returns-then-not-lists_fit : goal.returns-then-not-lists_fit
returns-then-not-lists_fit c =
    let a = c.args in let w = c.read_whole.new in let q = c.in_ok-read_whole in
    subst (λ (r : Result (Unit {0}) Refused). SheetRead a.k a.s.now r w.lists w.counts) (sym (ap Err c.on_line.ensures))
    (sheet_unfit a.s.now w.lists w.counts q.field-0 a.k q.ensures.answer q.ensures.held (sym c.lists_fit.ensures ∙ c.if-not-lists_fit.true))

pub returns : goal.returns
returns c =
    let a = c.args in let w = c.read_whole.new in let q = c.in_ok-read_whole in
    sheet_whole a.s.now w.lists w.counts q.field-0 a.k q.ensures.answer q.ensures.held (sym c.lists_fit.ensures ∙ c.if-not-lists_fit.false)
    (omega (arith, c.requires.1, c.read_whole.auto.lists)) (omega (arith, c.requires.2, c.read_whole.auto.counts))
