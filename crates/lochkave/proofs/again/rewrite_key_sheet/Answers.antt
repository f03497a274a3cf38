-- `rewrite_key_sheet` meets its contract. What is held is written as the sheet stood (`Entries`).
use Rattle.std.proofs.lemmas.Result.{err_from_is_err_and}
use Rattle.std.proofs.Common.{ap, ◌∙◌, ◌≡◌, ◌≤◌, arith, get_or, []}
use Rattle.sheet.specs.KeySheets.{read_key_sheet}
use Rattle.sheet.specs.Held.{child_count, KeyHeld}
use Rattle.answers.proofs.KeyLists.{key_children}
use Rattle.lochkave.specs.Entry.{key_again}
use Rattle.lochkave.proofs.Entries.{Was, was_turned, was_read, leaves_refused, key_same, seventh}
use Rattle.lochkave.proofs.again.rewrite_key_sheet.Goals as goal
use Rattle.lochkave.proofs.again.rewrite_key_sheet.Goals.{In_ok-read_sheet}

pub returns-in_err-read_sheet : goal.returns-in_err-read_sheet
returns-in_err-read_sheet c = let a = c.args in let q = c.read_sheet in let t = was_turned (read_key_sheet a.sheet.now) q.result _ q.ensures.answer c.in_err-read_sheet.was in
    let p = err_from_is_err_and c.from_residual.result c.from_residual.ensures.1 in
    rw p.1 (leaves_refused (key_again (read_key_sheet a.sheet.now)) a.out.now _ _ _ (ap key_again t.is) (p.2 ∙ t.same))

-- the sheet that was read, and the lists that are held of it
was : (c : In_ok-read_sheet) → Was (read_key_sheet c.args.sheet.now)
was c = let q = c.read_sheet in was_read (read_key_sheet c.args.sheet.now) q.result _ q.ensures.answer c.in_ok-read_sheet.was

held : (c : In_ok-read_sheet) → KeyHeld c.read_sheet.new.lists c.read_sheet.new.counts
held c = let w = was c in (c.read_sheet.ensures.held w.x w.is).0

-- its children, where the head counts them
children : (c : In_ok-read_sheet) → let q = c.read_sheet.new in (get_or (get_or q.lists 0 []) 6 0 ≡ child_count q.lists q.counts) × (child_count q.lists q.counts ≤ 8)
children c = let q = c.read_sheet.new in (seventh q.lists q.counts (held c).head, key_children q.lists q.counts (held c))

pub overflow_add-n : goal.overflow_add-n
overflow_add-n c = omega (arith, children (goal.at.overflow_add-n c).In_ok-read_sheet)

pub put_again-requires-clause-lines : goal.put_again-requires-clause-lines
put_again-requires-clause-lines c =
    let x = (goal.at.put_again-requires-clause-lines c).In_ok-read_sheet in let n = children x in let h = held x in
    (omega (arith, n, h.lines.0), omega (arith, n, h.lines.1))

pub put_again-requires-clause-counts : goal.put_again-requires-clause-counts
put_again-requires-clause-counts c =
    let x = (goal.at.put_again-requires-clause-counts c).In_ok-read_sheet in let n = children x in
    λ i e. (held x).room i (omega (arith, n.0))

pub put_again-requires-clause-bytes : goal.put_again-requires-clause-bytes
put_again-requires-clause-bytes c =
    let x = (goal.at.put_again-requires-clause-bytes c).In_ok-read_sheet in let w = was x in
    rw ((children x).0, c.read_sheet.ensures.again w.x w.is)

pub returns : goal.returns
returns c =
    let x = (goal.at.returns c).In_ok-read_sheet in let w = was x in
    let left = rw ((children x).0, c.read_sheet.ensures.again w.x w.is) at c.put_again.ensures in
    rw (key_same c.args.sheet.now w.x w.is) left
