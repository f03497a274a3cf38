-- `rewrite_plan_sheet` meets its contract: a refusal, or the sheet that is held.
use Rattle.std.proofs.lemmas.Result.{err_from_is_err_and}
use Rattle.std.proofs.Common.{◌≡◌, sym, ap, ◌∙◌, length}
use Rattle.plansheet.specs.PlanSheets.{PlanSheet, read_plan}
use Rattle.plansheet.specs.PlanTexts.{plan_text}
use Rattle.plananswer.specs.SheetTexts.{sheet_rows_text}
use Rattle.plantheorems.proofs.PlanRoundTrip.{plan_written_again}
use Rattle.lochkave.specs.Entry.{plan_again}
use Rattle.lochkave.specs.PlanHeld.{Holds, four}
use Rattle.lochkave.proofs.Entries.{leaves_refused}
use Rattle.lochkave.proofs.PlanEntries.{InRooms, in_rooms, plan_was_turned, again_turned, again_held}
use Rattle.lochkave.proofs.PlanLent.{lent_in, lent_within, lent_written}
use Rattle.lochkave.proofs.again.rewrite_plan_sheet.Goals as goal
use Rattle.lochkave.proofs.again.rewrite_plan_sheet.Goals.{In_ok-p, After-held_sheet-tree}

pub returns-in_err-p : goal.returns-in_err-p
returns-in_err-p c = let a = c.args in let q = c.read_plan in let t = plan_was_turned (read_plan a.sheet.now) q.result _ q.ensures.answer c.in_err-p.was in
    let p = err_from_is_err_and c.from_residual.result c.from_residual.ensures.1 in
    rw p.1 (leaves_refused (plan_again (read_plan a.sheet.now)) a.out.now _ _ _ (again_turned a.sheet.now _ _ t.is) (p.2 ∙ t.same))

-- the sheet that was read, in the rooms
held : (c : In_ok-p) → let l = c.read_plan.new.lent in InRooms c.args.sheet.now c.in_ok-p.p l.rows.now l.node.now l.facts.now l.xs.now l.masks.now l.index.now
held c = let q = c.read_plan in in_rooms c.args.sheet.now q.result _ q.ensures.answer c.in_ok-p.was _ _ _ _ _ _ q.ensures.held

-- its text, from what is held of it
text :
    (c : After-held_sheet-tree) (x : PlanSheet) → let l = c.read_plan.new.lent in let p = c.in_ok-p.p in let f = c.held_sheet-tree.result in let r = f.facts in
    Holds x p.settings p.lines p.children p.rows l.rows.now (four l.node.now) l.facts.now l.xs.now l.masks.now l.index.now →
    sheet_rows_text p.settings f.tree.now r.node r.children.now r.xs.rows.now r.masks.now ≡ plan_text x
text c x h = let f = c.held_sheet-tree.ensures in rw f.tree (lent_written h c.held_sheet-tree.result.facts f.node f.children f.rows f.masks)

pub held_sheet-tree-requires-clause-facts : goal.held_sheet-tree-requires-clause-facts
held_sheet-tree-requires-clause-facts c = let l = c.read_plan.new.lent in lent_in (held (goal.at.held_sheet-tree-requires-clause-facts c).In_ok-p).holds l.eight l.masked

pub held_sheet-tree-requires-clause-lines : goal.held_sheet-tree-requires-clause-lines
held_sheet-tree-requires-clause-lines c = lent_within (held (goal.at.held_sheet-tree-requires-clause-lines c).In_ok-p).holds

pub put_plan_again-requires : goal.put_plan_again-requires
put_plan_again-requires c =
    let a = goal.at.put_plan_again-requires c in let w = held a.In_ok-p in
    sym (ap length (text a.After-held_sheet-tree w.x w.holds ∙ plan_written_again c.args.sheet.now w.x w.is))

pub returns : goal.returns
returns c =
    let a = goal.at.returns c in let w = held a.In_ok-p in
    let left = rw (text a.After-held_sheet-tree w.x w.holds) at c.put_plan_again.ensures in
    rw (again_held c.args.sheet.now w.x w.is) left
