-- `plansheet::plan::read_after_tree` meets its contract: the worked node's children say how many F lines and masks there are (`PlanFitted`, `RoomsFilled`).
use mathlib.Core.Path.{◌≡◌, sym, ap, ◌∙◌}
use mathlib.Core.List.{List, ◌++◌}
use Prim.Native.Nat.{ℕ, ◌+◌, ◌*◌, ◌≤◌}
use native.Mathlib.Omega.{arith}
use lib.ListN.{length, drop}
use Rattle.text.specs.Text.{parts}
use Rattle.exchange.specs.Trees.{Plan}
use Rattle.exchange.specs.Rows.{children_at, flatten}
use Rattle.exchange.specs.Worked.{removed}
use Rattle.sheet.specs.KeySheets.{Reading, sheet}
use Rattle.plansheet.specs.PlanSheets.{FactLines, settings_of, child_count, read_facts, with_facts}
use Rattle.plansheet.specs.PlanRooms.{PlanRooms, TreeStands, plan_by, PlanHeld}
use Rattle.plansheet.proofs.PlanFitted.{WorkedRooms, worked_rooms}
use Rattle.plansheet.proofs.RunBytes.{facts_few, fact_room}
use Rattle.plansheet.proofs.PlanJudged.{judged_is}
use Rattle.plansheet.proofs.RoomsFilled.{FactsRead, FactsTurned, ReadInto, facts_read, facts_turned, rooms_filled, plan_held}
use Rattle.plansheet.proofs.PlanWhole.{after_turned}
use Rattle.std.specs.Prelude.{Result, Err}
use Rattle.std.proofs.lemmas.Result.{err_from_is_err_and}
use Rattle.refusals.specs.declared.Refused.{Refused}
use Rattle.plansheet.specs.declared.plan.Plan as P
use Rattle.plansheet.proofs.plan.read_after_tree.Goals as goal
use Rattle.plansheet.proofs.plan.read_after_tree.Goals.{After-read_fact_lines, After-judge_plan, In_ok-count, In_err-count}

abbrev back : Refused → Result P.Plan Refused
back w = Err w

-- the worked node of the tree that stands in front
record Worked (t : Plan) (rows : List (List ℕ)) (worked : ℕ) : Type 0 where
  place : worked ≡ length (removed t)
  room : WorkedRooms t rows worked

module _ (rows : List (List ℕ)) (worked : ℕ) (found : (t : Plan) (rest : List (List ℕ)) → rows ≡ flatten t ++ rest → worked ≡ 0 + length (removed t)) where
  known : (t : Plan) (rest : List (List ℕ)) → rows ≡ flatten t ++ rest → Worked t rows worked
  known t rest e = let p : worked ≡ length (removed t) = omega (arith, found t rest e) in record { place = p; room = worked_rooms t rows rest worked e p }

  module _ (children : ℕ) (counted : children ≡ children_at rows worked) where
    many : (t : Plan) (rest : List (List ℕ)) → rows ≡ flatten t ++ rest → children ≡ child_count t
    many t rest e = counted ∙ (known t rest e).room.children

    few : TreeStands rows → children ≤ 8
    few t = omega (arith, many t.tree t.rest t.stands, t.few)

-- ---- the lines after the tree

-- what is read of them, by the children that the rows say
abbrev after_tree : After-read_fact_lines → Reading FactLines
after_tree c = let p = c.args.place in read_facts c.children_at-children.result p.line p.at (parts 10 (drop p.at p.s.now))

-- and by those that the tree says
by_tree :
    (c : After-read_fact_lines) (t : Plan) (rest : List (List ℕ)) → c.args.lent.now.rows.now ≡ flatten t ++ rest → let p = c.args.place in
    read_facts (child_count t) p.line p.at (parts 10 (drop p.at p.s.now)) ≡ after_tree c
by_tree c t rest h =
    let p = c.args.place in let w = c.remove_dist_changing_operators-worked in let n = c.children_at-children in
    ap (λ (k : ℕ). read_facts k p.line p.at (parts 10 (drop p.at p.s.now))) (sym (many c.args.lent.now.rows.now w.result w.ensures n.result n.ensures t rest h))

was_read : (c : In_ok-count) → let p = c.args.place in FactsRead (read_facts c.children_at-children.result p.line p.at (parts 10 (drop p.at p.s.now))) c.in_ok-count.count
was_read c = let p = c.args.place in facts_read (read_facts c.children_at-children.result p.line p.at (parts 10 (drop p.at p.s.now))) _ c.in_ok-count.ensures.answer

was_turned : (c : In_err-count) → let p = c.args.place in FactsTurned (read_facts c.children_at-children.result p.line p.at (parts 10 (drop p.at p.s.now))) c.in_err-count.field-0.0
was_turned c = let p = c.args.place in facts_turned (read_facts c.children_at-children.result p.line p.at (parts 10 (drop p.at p.s.now))) _ c.in_err-count.ensures.answer

-- it stands in the rooms
stored :
    (c : In_ok-count) (t : Plan) (rest : List (List ℕ)) → c.args.lent.now.rows.now ≡ flatten t ++ rest → let a = c.args.lent.now in let l = c.read_fact_lines.new.lent in
    ReadInto t (was_read c).lines l.rows.now rest c.remove_dist_changing_operators-worked.result c.children_at-children.result c.in_ok-count.count a.node.now l.node.now a.facts.now l.facts.now a.xs.now l.xs.now a.masks.now l.masks.now
stored c t rest e =
    let l = c.args.lent.now in let w = c.remove_dist_changing_operators-worked in let n = c.children_at-children in let g = was_read c in
    record {
      stands = sym c.read_fact_lines.ensures.kept.1 ∙ e;
      place = (known l.rows.now w.result w.ensures t rest e).place;
      many = many l.rows.now w.result w.ensures n.result n.ensures t rest e;
      few = few l.rows.now w.result w.ensures n.result n.ensures c.requires.tree_stands;
      counted = g.counted;
      eight = l.eight;
      masked = l.masked;
      held = c.in_ok-count.ensures.held g.lines g.is;
    }

-- and is judged
judged :
    (c : After-judge_plan) (t : Plan) (g : FactLines) → c.args.lines ≡ length (flatten t) → let l = c.read_fact_lines.new.lent in
    PlanRooms t g l.rows.now l.facts.now l.xs.now l.masks.now c.remove_dist_changing_operators-worked.result c.children_at-children.result c.in_ok-count.count →
    c.judge_plan.result ≡ plan_by (with_facts (settings_of c.args.lent.now.head.now) t (sheet g))
judged c t g k r = c.judge_plan.ensures.answer t g k r ∙ ap (λ (h : List ℕ). plan_by (with_facts (settings_of h) t (sheet g))) (sym c.read_fact_lines.ensures.kept.0)

-- ---- the answers

pub children_at-children-requires : goal.children_at-children-requires
children_at-children-requires c =
    let w = c.remove_dist_changing_operators-worked in let t = c.requires.tree_stands in (known c.args.lent.now.rows.now w.result w.ensures t.tree t.rest t.stands).room.inside

pub read_fact_lines-requires : goal.read_fact_lines-requires
read_fact_lines-requires c =
    let w = c.remove_dist_changing_operators-worked in let n = c.children_at-children in few c.args.lent.now.rows.now w.result w.ensures n.result n.ensures c.requires.tree_stands

pub returns-in_err-count-clause-answer : goal.returns-in_err-count-clause-answer
returns-in_err-count-clause-answer c =
    let x = goal.at.returns-in_err-count-clause-answer c in let e = was_turned x.In_err-count in let q = err_from_is_err_and c.from_residual.result c.from_residual.ensures.1 in
    λ t rest h k.
    rw (q.1, q.2) (ap back e.on ∙ ap (λ (y : Reading FactLines). plan_by (with_facts (settings_of c.args.lent.now.head.now) t y)) (sym (by_tree x.After-read_fact_lines t rest h ∙ e.is)))

pub returns-in_err-count-clause-held : goal.returns-in_err-count-clause-held
returns-in_err-count-clause-held c =
    let a = goal.at.returns-in_err-count-clause-held c in let e = was_turned a.In_err-count in
    λ t rest x h k f. absurd {A = PlanHeld x _ _ _ _ _ _} (after_turned (settings_of c.args.lent.now.head.now) t _ _ _ x (by_tree a.After-read_fact_lines t rest h ∙ e.is) f)

pub invariant_of-read : goal.invariant_of-read
invariant_of-read c =
    let l = c.args.lent.now in let p = c.args.place in let g = was_read (goal.at.invariant_of-read c).In_ok-count in
    let bytes : 28 * c.in_ok-count.count ≤ length p.s.now + 1 = omega (arith, g.counted, facts_few _ g.lines p.line p.at p.s.now g.is) in
    record {
      eight = c.read_fact_lines.new.lent.eight;
      roomy = λ z. let q = fact_room (length p.s.now) (length l.xs.now) _ c.requires.room bytes (omega (arith, c.read_fact_lines.ensures.sizes.5)) in omega (arith, c.read_fact_lines.ensures.sizes.5);
      masked = c.read_fact_lines.new.lent.masked;
    }

pub judge_plan-requires-clause-filled : goal.judge_plan-requires-clause-filled
judge_plan-requires-clause-filled c =
    let x = (goal.at.judge_plan-requires-clause-filled c).In_ok-count in let t = c.requires.tree_stands in
    record { plan = t.tree; lines = (was_read x).lines; rooms = rooms_filled (stored x t.tree t.rest t.stands) }

pub returns-clause-answer : goal.returns-clause-answer
returns-clause-answer c =
    let a = goal.at.returns-clause-answer c in let g = was_read a.In_ok-count in
    λ t rest h k.
    judged a.After-judge_plan t g.lines k (rooms_filled (stored a.In_ok-count t rest h))
    ∙ ap (λ (y : Reading FactLines). plan_by (with_facts (settings_of c.args.lent.now.head.now) t y)) (sym (by_tree a.After-read_fact_lines t rest h ∙ g.is))

pub returns-clause-held : goal.returns-clause-held
returns-clause-held c =
    let a = goal.at.returns-clause-held c in let g = was_read a.In_ok-count in let s = settings_of c.args.lent.now.head.now in
    λ t rest x h k f.
    let r = stored a.In_ok-count t rest h in
    let q = ap (with_facts s t) (sym (by_tree a.After-read_fact_lines t rest h ∙ g.is)) ∙ f in
    let i = c.judge_plan.ensures.indexed x (judged a.After-judge_plan t g.lines k (rooms_filled r) ∙ ap plan_by q) in
    plan_held r c.args.lent.now.four s x (judged_is s t g.lines x q) i.0 _ i.1
