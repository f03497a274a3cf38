-- `plansheet::plan::read_plan` meets its contract: the tree's lines, and what follows them where they end (`PlanWhole`).
use mathlib.Core.Path.{sym, ap, ◌∙◌}
use Rattle.plansheet.specs.PlanSheets.{plan_of}
use Rattle.plansheet.specs.PlanRooms.{plan_by, PlanHeld}
use Rattle.plansheet.proofs.PlanWhole.{TreeRead, tree_read, tree_turned, plan_turned, turned_not, plan_on}
use Rattle.std.specs.Prelude.{Result, Err}
use Rattle.std.proofs.lemmas.Result.{err_from_is_err_and}
use Rattle.refusals.specs.declared.Refused.{Refused}
use Rattle.plansheet.specs.declared.plan.Plan as P
use Rattle.plansheet.proofs.plan.read_plan.Goals as goal
use Rattle.plansheet.proofs.plan.read_plan.Goals.{In_ok-t}

abbrev back : Refused → Result P.Plan Refused
back w = Err w

pub returns-in_err-t-clause-answer : goal.returns-in_err-t-clause-answer
returns-in_err-t-clause-answer c =
    let e = tree_turned c.args.s.now _ c.in_err-t.ensures.answer in
    let p = err_from_is_err_and c.from_residual.result c.from_residual.ensures.1 in
    rw (p.1, p.2) (ap back e.on ∙ ap plan_by (sym (plan_turned c.args.s.now _ _ e.is)))

pub returns-in_err-t-clause-held : goal.returns-in_err-t-clause-held
returns-in_err-t-clause-held c =
    let e = tree_turned c.args.s.now _ c.in_err-t.ensures.answer in
    λ x f. absurd {A = PlanHeld x _ _ _ _ _ _} (turned_not _ _ x (sym (plan_turned c.args.s.now _ _ e.is) ∙ f))

-- the tree that was read
tree : (c : In_ok-t) → let l = c.args.lent.now in let q = c.read_tree_lines.new in TreeRead c.args.s.now l.head.now q.head l.rows.now q.rows c.in_ok-t.t.count c.in_ok-t.t.next c.in_ok-t.t.line
tree c = let l = c.args.lent.now in tree_read c.args.s.now l.head.now _ l.rows.now _ _ c.requires.whole.0 c.requires.tree_room c.in_ok-t.ensures.answer c.in_ok-t.ensures.left

pub read_after_tree-requires-clause-tree_stands : goal.read_after_tree-requires-clause-tree_stands
read_after_tree-requires-clause-tree_stands c =
    let t = tree (goal.at.read_after_tree-requires-clause-tree_stands c).In_ok-t in
    record { tree = plan_of t.rs; rest = t.rest; stands = t.stands; few = t.few }

pub returns-clause-answer : goal.returns-clause-answer
returns-clause-answer c =
    let t = tree (goal.at.returns-clause-answer c).In_ok-t in
    c.read_after_tree.ensures.answer (plan_of t.rs) t.rest t.stands t.whole ∙ ap plan_by (sym (plan_on c.args.s.now _ _ _ _ _ _ _ t))

pub returns-clause-held : goal.returns-clause-held
returns-clause-held c =
    let t = tree (goal.at.returns-clause-held c).In_ok-t in
    λ x f. c.read_after_tree.ensures.held (plan_of t.rs) t.rest x t.stands t.whole (sym (plan_on c.args.s.now _ _ _ _ _ _ _ t) ∙ f)
