-- `rewrite_join_sheet` meets its contract. What is held is written as the sheet stood (`Entries`).
use Rattle.std.proofs.lemmas.Result.{err_from_is_err_and}
use Rattle.std.proofs.Common.{ap, ◌∙◌, arith}
use Rattle.sheet.specs.KeySheets.{read_join_sheet}
use Rattle.lochkave.specs.Entry.{join_again}
use Rattle.lochkave.proofs.Entries.{Was, was_turned, was_read, leaves_refused, join_same}
use Rattle.lochkave.proofs.again.rewrite_join_sheet.Goals as goal
use Rattle.lochkave.proofs.again.rewrite_join_sheet.Goals.{In_ok-read_sheet}

pub returns-in_err-read_sheet : goal.returns-in_err-read_sheet
returns-in_err-read_sheet c = let a = c.args in let q = c.read_sheet in let t = was_turned (read_join_sheet a.sheet.now) q.result _ q.ensures.answer c.in_err-read_sheet.was in
    let p = err_from_is_err_and c.from_residual.result c.from_residual.ensures.1 in
    rw p.1 (leaves_refused (join_again (read_join_sheet a.sheet.now)) a.out.now _ _ _ (ap join_again t.is) (p.2 ∙ t.same))

-- the sheet that was read
was : (c : In_ok-read_sheet) → Was (read_join_sheet c.args.sheet.now)
was c = let q = c.read_sheet in was_read (read_join_sheet c.args.sheet.now) q.result _ q.ensures.answer c.in_ok-read_sheet.was

pub put_again-requires-clause-lines : goal.put_again-requires-clause-lines
put_again-requires-clause-lines c =
    let w = was (goal.at.put_again-requires-clause-lines c).In_ok-read_sheet in let h = (c.read_sheet.ensures.held w.x w.is).0 in
    (omega (arith, h.lines.0), omega (arith, h.lines.1))

pub put_again-requires-clause-counts : goal.put_again-requires-clause-counts
put_again-requires-clause-counts c = let w = was (goal.at.put_again-requires-clause-counts c).In_ok-read_sheet in λ i e. (c.read_sheet.ensures.held w.x w.is).0.room i e

pub put_again-requires-clause-bytes : goal.put_again-requires-clause-bytes
put_again-requires-clause-bytes c = let w = was (goal.at.put_again-requires-clause-bytes c).In_ok-read_sheet in rw (c.read_sheet.ensures.again w.x w.is)

pub returns : goal.returns
returns c =
    let w = was (goal.at.returns c).In_ok-read_sheet in
    let left = rw (c.read_sheet.ensures.again w.x w.is) at c.put_again.ensures in
    rw (join_same c.args.sheet.now w.x w.is) left
