-- `plansheet::lines::read_child_lines` meets its contract: F lines, X rows and the Y line, each where the one before ends (`Wholes`).
use mathlib.Core.Path.{sym, ap, ◌∙◌}
use mathlib.Core.List.{List}
use Rattle.text.specs.declared.field.Field.{Field}
use Rattle.std.specs.Prelude.{Result, Err}
use Rattle.std.proofs.lemmas.Result.{err_from_is_err_and}
use Rattle.refusals.specs.declared.Refused.{Refused}
use Prim.Native.Nat.{ℕ}
use Rattle.plansheet.specs.PlanLines.{child_shape, child_line, fact_line}
use Rattle.plansheet.specs.ReadRows.{number_rows, run_from}
use Rattle.plansheet.specs.ReadPlans.{facts_by}
use Rattle.plansheet.proofs.Singles.{Opened, opened, turned_run}
use Rattle.plansheet.proofs.CountedRuns.{counted_long}
use Rattle.plansheet.proofs.Wholes.{children_back, facts_back, facts_on, children_held, masks_whole, whole_err, whole_not, not_sheet}
use Rattle.plansheet.proofs.lines.read_child_lines.Goals as goal
use Rattle.plansheet.proofs.lines.read_child_lines.Goals.{In_ok-f, In_ok-x}

abbrev back : Refused → Result ℕ Refused
back w = Err w

pub returns-in_err-f-clause-answer : goal.returns-in_err-f-clause-answer
returns-in_err-f-clause-answer c =
    let a = c.args in let e = turned_run (run_from child_line a.children a.place.s.now a.place.line a.place.at) _ (c.in_err-f.ensures.answer) in
    let p = err_from_is_err_and c.from_residual.result c.from_residual.ensures.1 in
    λ b. rw (p.1, p.2) (ap back e.on ∙ ap facts_by (sym (children_back a.place.s.now a.children a.place.line a.place.at b _ _ e.is)))

pub returns-in_err-f-clause-held : goal.returns-in_err-f-clause-held
returns-in_err-f-clause-held c =
    let a = c.args in let e = turned_run (run_from child_line a.children a.place.s.now a.place.line a.place.at) _ (c.in_err-f.ensures.answer) in
    λ b g f. absurd (not_sheet _ _ _ g (children_back a.place.s.now a.children a.place.line a.place.at b _ _ e.is) f)

-- the F lines that were read
child_read :
    (c : In_ok-f) → let p = c.args.place in let f = c.in_ok-f.f in
    Opened number_rows p.s.now (run_from child_line c.args.children p.s.now p.line p.at) c.args.facts.now c.read_children.new.rows f.count f.next f.line
child_read c = let p = c.args.place in opened number_rows p.s.now (run_from child_line c.args.children p.s.now p.line p.at) c.args.facts.now _ _ c.in_ok-f.ensures.answer c.in_ok-f.ensures.left

-- and the X lines
fact_read :
    (c : In_ok-x) → let s = c.args.place.s.now in let f = c.in_ok-f.f in let x = c.in_ok-x.x in
    Opened number_rows s (run_from fact_line 0 s f.line f.next) c.args.xs.now c.read_facts.new.rows x.count x.next x.line
fact_read c = let s = c.args.place.s.now in let f = c.in_ok-f.f in opened number_rows s (run_from fact_line 0 s f.line f.next) c.args.xs.now _ _ c.in_ok-x.ensures.answer c.in_ok-x.ensures.left

pub returns-in_err-x-clause-answer : goal.returns-in_err-x-clause-answer
returns-in_err-x-clause-answer c =
    let a = c.args in let child = child_read (goal.at.returns-in_err-x-clause-answer c).In_ok-f in
    let e = turned_run (run_from fact_line 0 a.place.s.now c.in_ok-f.f.line c.in_ok-f.f.next) _ c.in_err-x.ensures.answer in
    let p = err_from_is_err_and c.from_residual-in_err-x.result c.from_residual-in_err-x.ensures.1 in
    λ b. rw (p.1, p.2) (ap back e.on ∙ ap facts_by (sym (facts_back a.place.s.now a.children a.place.line a.place.at b _ _ _ _ _ child _ _ e.is)))

pub returns-in_err-x-clause-held : goal.returns-in_err-x-clause-held
returns-in_err-x-clause-held c =
    let a = c.args in let child = child_read (goal.at.returns-in_err-x-clause-held c).In_ok-f in
    let e = turned_run (run_from fact_line 0 a.place.s.now c.in_ok-f.f.line c.in_ok-f.f.next) _ c.in_err-x.ensures.answer in
    λ b g h. absurd (not_sheet _ _ _ g (facts_back a.place.s.now a.children a.place.line a.place.at b _ _ _ _ _ child _ _ e.is) h)

pub returns-in_err-read_masks-clause-answer : goal.returns-in_err-read_masks-clause-answer
returns-in_err-read_masks-clause-answer c =
    let a = c.args in let child = child_read (goal.at.returns-in_err-read_masks-clause-answer c).In_ok-f in
    let rows = fact_read (goal.at.returns-in_err-read_masks-clause-answer c).In_ok-x in
    let on = λ (b : List Field). facts_on a.place.s.now a.children a.place.line a.place.at b _ _ _ _ _ child _ _ _ _ _ rows in
    let p = err_from_is_err_and c.from_residual-in_err-read_masks.result c.from_residual-in_err-read_masks.ensures.1 in
    λ b. rw (p.1, p.2) (whole_err _ _ (c.in_err-read_masks.ensures.answer b child.rs rows.rs) ∙ ap facts_by (sym (on b)))

pub returns-in_err-read_masks-clause-held : goal.returns-in_err-read_masks-clause-held
returns-in_err-read_masks-clause-held c =
    let a = c.args in let child = child_read (goal.at.returns-in_err-read_masks-clause-held c).In_ok-f in
    let rows = fact_read (goal.at.returns-in_err-read_masks-clause-held c).In_ok-x in
    let on = λ (b : List Field). facts_on a.place.s.now a.children a.place.line a.place.at b _ _ _ _ _ child _ _ _ _ _ rows in
    λ b g h. absurd (whole_not _ _ g (c.in_err-read_masks.ensures.answer b child.rs rows.rs) (sym (on b) ∙ h))

pub returns-clause-answer : goal.returns-clause-answer
returns-clause-answer c =
    let a = c.args in let child = child_read (goal.at.returns-clause-answer c).In_ok-f in
    let rows = fact_read (goal.at.returns-clause-answer c).In_ok-x in
    let on = λ (b : List Field). facts_on a.place.s.now a.children a.place.line a.place.at b _ _ _ _ _ child _ _ _ _ _ rows in
    λ b. rw rows.counts (masks_whole a.children b child.rs rows.rs _ _ _ _ (c.in_ok-read_masks.ensures.answer b child.rs rows.rs) ∙ ap facts_by (sym (on b)))

pub returns-clause-held : goal.returns-clause-held
returns-clause-held c =
    let a = c.args in let child = child_read (goal.at.returns-clause-held c).In_ok-f in
    let rows = fact_read (goal.at.returns-clause-held c).In_ok-x in
    let n = counted_long child_shape a.children 0 a.place.line a.place.at _ child.rs child.ls _ _ child.is in λ b g h.
    let k = sym (facts_on a.place.s.now a.children a.place.line a.place.at b _ _ _ _ _ child _ _ _ _ _ rows) ∙ h in
    children_held a.children a.place.s.now b a.place.line a.place.at _ _ _ _ _ child _ _ _ _ _ rows _ _ n g k (c.in_ok-read_masks.ensures.held b child.rs rows.rs g k)
