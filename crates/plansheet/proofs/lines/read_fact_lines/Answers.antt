-- `plansheet::lines::read_fact_lines` meets its contract: the B line is a run of one (`Singles`), and what follows goes on where it ends (`Wholes`).
use mathlib.Core.Path.{refl, sym, ap, ◌∙◌}
use Prim.Native.Nat.{ℕ}
use native.Mathlib.Omega.{arith}
use lib.Seq.{sets}
use lib.Seq.{length-take-le}
use Rattle.text.specs.Text.{line_at, after}
use Rattle.std.specs.Prelude.{Result, Err}
use Rattle.refusals.specs.declared.Refused.{Refused}
use Rattle.plansheet.specs.PlanLines.{node_line}
use Rattle.plansheet.specs.ReadPlans.{facts_by}
use Rattle.plansheet.proofs.Turns.{turned_on}
use Rattle.plansheet.proofs.Singles.{Single, single}
use Rattle.plansheet.proofs.Wholes.{node_back, node_on, facts_held, not_sheet}
use Rattle.plansheet.proofs.lines.read_fact_lines.Goals as goal
use Rattle.plansheet.proofs.lines.read_fact_lines.Goals.{In-Line}

abbrev back : Refused → Result ℕ Refused
back w = Err w

pub returns-in-Refused-clause-answer : goal.returns-in-Refused-clause-answer
returns-in-Refused-clause-answer c =
    let a = c.args in let e = sym c.in-Refused.is ∙ c.node_line.ensures.answer 0 in
    ap back (c.on_line.ensures ∙ turned_on node_line 0 (after a.place.s.now a.place.at) (line_at 66 a.place.s.now a.place.at) _ e a.place.line) ∙ ap facts_by (sym (node_back a.place.s.now a.children a.place.line a.place.at _ e))

pub returns-in-Refused-clause-held : goal.returns-in-Refused-clause-held
returns-in-Refused-clause-held c = let e = sym c.in-Refused.is ∙ c.node_line.ensures.answer 0 in (λ g f. absurd (not_sheet _ _ _ g (node_back (c.args.place.s.now) c.args.children c.args.place.line c.args.place.at _ e) f))

-- the B line that was read
line_read : (c : In-Line) → Single node_line 0 c.args.place.s.now c.args.place.at c.in-Line.count c.in-Line.next c.node_line.new.fields
line_read c =
    let a = c.args in single node_line refl 0 a.place.s.now a.place.at _ _ a.lent.now.fields.now _ (sym c.in-Line.is ∙ c.node_line.ensures.answer 0) c.node_line.ensures.stored (omega (arith, a.lent.now.wide))

pub slice_bounds-copy_numbers-end : goal.slice_bounds-copy_numbers-end
slice_bounds-copy_numbers-end c = sym (length-take-le _ _ (line_read (goal.at.slice_bounds-copy_numbers-end c).In-Line).fits)

pub copy_numbers-requires : goal.copy_numbers-requires
copy_numbers-requires c = omega (arith, (line_read (goal.at.copy_numbers-requires c).In-Line).part, c.args.lent.now.four)

pub invariant_of-after : goal.invariant_of-after
invariant_of-after c = let t = line_read (goal.at.invariant_of-after c).In-Line in record { within = t.within; numbered = omega (arith, t.on, c.args.place.numbered) }

pub returns-in-Line-clause-answer : goal.returns-in-Line-clause-answer
returns-in-Line-clause-answer c =
    let a = c.args in let t = line_read (goal.at.returns-in-Line-clause-answer c).In-Line in
    c.read_child_lines.ensures.answer t.took.fs ∙ ap facts_by (sym (node_on a.place.s.now a.children a.place.line a.place.at _ _ t.took))

pub returns-in-Line-clause-held : goal.returns-in-Line-clause-held
returns-in-Line-clause-held c =
    let a = c.args in let t = line_read (goal.at.returns-in-Line-clause-held c).In-Line in
    λ g f.
    let k = sym (node_on a.place.s.now a.children a.place.line a.place.at _ _ t.took) ∙ f in
    facts_held a.children a.place.s.now t.took.fs _ _ g k a.lent.now.node.now _ _ _ _ _ _ _
    (c.copy_numbers.ensures ∙ ap (sets a.lent.now.node.now 0) t.vals) (sym t.took.counts ∙ t.long) (c.read_child_lines.ensures.held t.took.fs g k)
