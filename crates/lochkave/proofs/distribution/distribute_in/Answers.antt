-- `distribute_in` meets its contract: a refusal, or the decision on the sheet that is held.
use Rattle.std.proofs.Common.{[], sym, ◌∙◌}
use Rattle.plansheet.specs.PlanSheets.{read_plan}
use Rattle.plananswer.specs.PlanDecision.{plan_decision}
use Rattle.lochkave.proofs.Entries.{leaves_refused}
use Rattle.lochkave.proofs.PlanEntries.{InRooms, in_rooms, plan_was_turned, plan_turned, plan_held}
use Rattle.lochkave.proofs.PlanLent.{lent_in, lent_within, lent_sheet, lent_stands, lent_same}
use Rattle.lochkave.proofs.distribution.distribute_in.Goals as goal
use Rattle.lochkave.proofs.distribution.distribute_in.Goals.{In-Ok}

pub returns-in-Err : goal.returns-in-Err
returns-in-Err c = let a = c.args in let q = c.read_plan in let t = plan_was_turned (read_plan a.sheet.now) q.result _ q.ensures.answer c.in-Err.is in
    leaves_refused (plan_decision a.sheet.now) a.out.now _ _ _ (plan_turned a.sheet.now _ _ t.is) t.same

-- the sheet that was read, in the rooms
held : (c : In-Ok) → let l = c.read_plan.new.lent in InRooms c.args.sheet.now c.in-Ok.p l.rows.now l.node.now l.facts.now l.xs.now l.masks.now l.index.now
held c = let q = c.read_plan in in_rooms c.args.sheet.now q.result _ q.ensures.answer c.in-Ok.is _ _ _ _ _ _ q.ensures.held

pub held_sheet-tree-requires-clause-facts : goal.held_sheet-tree-requires-clause-facts
held_sheet-tree-requires-clause-facts c = let l = c.read_plan.new.lent in lent_in (held (goal.at.held_sheet-tree-requires-clause-facts c).In-Ok).holds l.eight l.masked

pub held_sheet-tree-requires-clause-lines : goal.held_sheet-tree-requires-clause-lines
held_sheet-tree-requires-clause-lines c = lent_within (held (goal.at.held_sheet-tree-requires-clause-lines c).In-Ok).holds

pub answer_plan-requires-clause-sheet : goal.answer_plan-requires-clause-sheet
answer_plan-requires-clause-sheet c =
    let f = c.held_sheet-tree.ensures in
    rw (f.tree, f.children) (lent_sheet (held (goal.at.answer_plan-requires-clause-sheet c).In-Ok).holds c.read_plan.new.lent.eight)

pub returns-in-Ok : goal.returns-in-Ok
returns-in-Ok c =
    let w = held (goal.at.returns-in-Ok c).In-Ok in
    let f = c.held_sheet-tree in
    let same = lent_same w.holds f.result.facts f.ensures.node f.ensures.children f.ensures.rows f.ensures.masks in
    let given = c.answer_plan.ensures w.x.plan [] (f.ensures.tree ∙ lent_stands w.holds) in
    rw (plan_held c.args.sheet.now w.x w.is, sym w.holds.settings, sym same) given
