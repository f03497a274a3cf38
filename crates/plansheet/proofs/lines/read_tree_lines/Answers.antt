-- `plansheet::lines::read_tree_lines` meets its contract: the D line is a run of one (`Singles`), and the tree goes on where it ends (`Wholes`).
use mathlib.Core.Path.{refl, sym, ap, ◌∙◌}
use native.Mathlib.Omega.{arith}
use lib.ListN.{length}
use lib.Seq.{sets}
use lib.Seq.{length-take-le}
use Rattle.text.specs.Text.{line_at, after}
use Rattle.linekinds.specs.KeyLines.{values}
use Rattle.std.specs.Prelude.{Result, Err}
use Rattle.refusals.specs.declared.Refused.{Refused}
use Rattle.plansheet.specs.declared.tree.RowsRead.{RowsRead}
use Rattle.plansheet.specs.PlanLines.{settings_line, plan_line}
use Rattle.plansheet.specs.ReadRows.{run_from, rows_by}
use Rattle.plansheet.proofs.Turns.{turned_on}
use Rattle.plansheet.proofs.Singles.{Single, single}
use Rattle.plansheet.proofs.Wholes.{head_back, head_on, head_is, tree_left}
use Rattle.plansheet.proofs.lines.read_tree_lines.Goals as goal
use Rattle.plansheet.proofs.lines.read_tree_lines.Goals.{In-Line}

abbrev back : Refused → Result RowsRead Refused
back w = Err w

pub returns-in-Refused-clause-answer : goal.returns-in-Refused-clause-answer
returns-in-Refused-clause-answer c =
    let a = c.args in let e = sym c.in-Refused.is ∙ c.settings_line.ensures.answer 0 in
    ap back (c.on_line.ensures ∙ turned_on settings_line 0 (after a.s.now 0) (line_at 68 a.s.now 0) _ e 1) ∙ ap rows_by (sym (head_back a.s.now _ e))

pub returns-in-Refused-clause-left : goal.returns-in-Refused-clause-left
returns-in-Refused-clause-left c = rw (head_back c.args.s.now _ (sym c.in-Refused.is ∙ c.settings_line.ensures.answer 0)) tt

-- the D line that was read
line_read : (c : In-Line) → Single settings_line 0 c.args.s.now 0 c.in-Line.count c.in-Line.next c.settings_line.new.fields
line_read c = single settings_line refl 0 c.args.s.now 0 _ _ c.args.fields.now _ (sym c.in-Line.is ∙ c.settings_line.ensures.answer 0) c.settings_line.ensures.stored (omega (arith, c.requires.0))

pub slice_bounds-copy_numbers-end : goal.slice_bounds-copy_numbers-end
slice_bounds-copy_numbers-end c = (line_read (goal.at.slice_bounds-copy_numbers-end c).In-Line).fits

pub slice_bounds-copy_numbers-end-in-Line : goal.slice_bounds-copy_numbers-end-in-Line
slice_bounds-copy_numbers-end-in-Line c = sym (length-take-le _ _ (line_read (goal.at.slice_bounds-copy_numbers-end-in-Line c).In-Line).fits)

pub copy_numbers-requires : goal.copy_numbers-requires
copy_numbers-requires c = omega (arith, (line_read (goal.at.copy_numbers-requires c).In-Line).part, c.requires.1)

pub invariant_of-place : goal.invariant_of-place
invariant_of-place c = let t = line_read (goal.at.invariant_of-place c).In-Line in record { within = t.within; numbered = omega (arith, t.on) }

pub returns-in-Line-clause-answer : goal.returns-in-Line-clause-answer
returns-in-Line-clause-answer c = rw (head_on c.args.s.now _ _ (line_read (goal.at.returns-in-Line-clause-answer c).In-Line).took) c.read_plan_tree.ensures.answer

pub returns-in-Line-clause-left : goal.returns-in-Line-clause-left
returns-in-Line-clause-left c =
    let a = c.args in let t = line_read (goal.at.returns-in-Line-clause-left c).In-Line in let h = head_is a.s.now _ _ t.took in
    rw (head_on a.s.now _ _ t.took) (tree_left a.s.now (run_from plan_line 1 a.s.now 2 c.in-Line.next) a.head.now _ a.rows.now c.read_plan_tree.new.rows
    (c.copy_numbers.ensures ∙ ap (sets a.head.now 0) (t.vals ∙ ap values (sym h))) (ap length h ∙ sym t.took.counts ∙ t.long) c.read_plan_tree.ensures.left)
