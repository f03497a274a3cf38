-- `decide_lists` meets its contract: what was read, and what is answered of it (`Entries`).
use borrow.Author.Tests.{leb-true}
use Rattle.std.proofs.lemmas.Result.{err_from_is_err_and}
use Rattle.lochkave.proofs.Entries.{ListsRead, lists_turned, lists_read}
use Rattle.lochkave.proofs.kinds.decide_lists.Given as given
use Rattle.lochkave.proofs.kinds.decide_lists.Goals as goal
use Rattle.lochkave.proofs.kinds.decide_lists.Goals.{In_ok-read_sheet}

-- the lists that were read
read : (g : given.Over) (c : In_ok-read_sheet g) → ListsRead c.args.kind c.args.sheet.now c.read_sheet.new.lists c.read_sheet.new.counts
read g c = let a = c.args in let q = c.read_sheet in lists_read a.kind a.sheet.now q.result _ _ _ q.ensures c.in_ok-read_sheet.was

pub returns-in_err-read_sheet : goal.returns-in_err-read_sheet
returns-in_err-read_sheet g c = let a = c.args in let q = c.read_sheet in
    let p = err_from_is_err_and c.from_residual.result c.from_residual.ensures.1 in
    rw (p.1, p.2) (lists_turned a.kind a.sheet.now q.result _ _ a.out.now _ q.ensures c.in_err-read_sheet.was)

pub answer_key_sheet-requires : goal.answer_key_sheet-requires
answer_key_sheet-requires g c =
    let r = rw c.in-Key.is at (read g (goal.at.answer_key_sheet-requires g c).In_ok-read_sheet) in
    record { held = r.held; fits = λ e. r.fits _ (leb-true _ _ e) }

pub answer_join_sheet-requires : goal.answer_join_sheet-requires
answer_join_sheet-requires g c =
    let r = rw c.in-Join.is at (read g (goal.at.answer_join_sheet-requires g c).In_ok-read_sheet) in
    record { held = r.held; fits = λ e. r.fits _ (leb-true _ _ e) }

pub returns-in-Key : goal.returns-in-Key
returns-in-Key g c = rw ((read g (goal.at.returns-in-Key g c).In_ok-read_sheet).decided, c.in-Key.is) c.answer_key_sheet.ensures

pub returns-in-Join : goal.returns-in-Join
returns-in-Join g c = rw ((read g (goal.at.returns-in-Join g c).In_ok-read_sheet).decided, c.in-Join.is) c.answer_join_sheet.ensures
