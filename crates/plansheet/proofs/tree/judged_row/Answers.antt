-- `plansheet::tree::judged_row` meets its contract: the line that `tree_line` read, as a row.
use mathlib.Core.Path.{◌≡◌, refl, sym, ap, ◌∙◌}
use mathlib.Core.List.{List}
use mathlib.Core.Option.{Option}
use Prim.Native.Nat.{ℕ, ◌+◌}
use lib.Seq.{length-take-le}
use native.Mathlib.Omega.{arith}
use lib.ListN.{get_or, take, set, length-map}
use Rattle.text.specs.declared.field.Field.{Field}
use Rattle.text.specs.Text.{line_at, after}
use Rattle.linekinds.specs.Lines.{fields_of}
use Rattle.plansheet.specs.PlanSheets.{operator_row}
use Rattle.plansheet.specs.ReadRows.{bound_of, fields_row}
use Rattle.plansheet.specs.Described.{shape_by, tree_by}
use Rattle.plansheet.specs.PlainTrees.{number_at}
use Rattle.plansheet.proofs.Shaped.{fields_row_lem}
use Rattle.plansheet.proofs.FineLines.{tree_small}
use Rattle.plansheet.proofs.Singles.{Single, single}
use Rattle.plansheet.proofs.PlainTrees.{row_on, row_read}
use Rattle.plansheet.proofs.tree.judged_row.Goals as goal
use Rattle.plansheet.proofs.tree.judged_row.Goals.{In-Line}

line_read : (c : In-Line) → Single (tree_by c.args.h) c.args.seen c.args.s.now c.args.at c.in-Line.count c.in-Line.next c.tree_line.new.fields
line_read c =
    let a = c.args in let r = c.tree_line in
    single (tree_by a.h) refl a.seen a.s.now a.at _ _ a.fields.now _ (sym c.in-Line.is ∙ r.ensures.answer) r.ensures.stored (omega (arith, c.requires, length-map a.h.line.bounds.now bound_of))

-- the line's fields as an operator's row
row_is :
    (c : In-Line) (row : List ℕ) → row ≡ fields_row (c.args.seen + 1) (take c.in-Line.count c.tree_line.new.fields) →
    row ≡ operator_row (c.args.seen + 1) (fields_of (line_at c.args.h.line.letter c.args.s.now c.args.at))
row_is c row e =
    let a = c.args in let t = line_read c in
    e ∙ ap (fields_row (a.seen + 1)) t.rows ∙ fields_row_lem (a.seen + 1) t.took.fs ∙ ap (λ (x : Option (List Field)). operator_row (a.seen + 1) (fields_of x)) (sym t.took.is)

-- ---- the answers

pub slice_bounds-operator_row-end : goal.slice_bounds-operator_row-end
slice_bounds-operator_row-end c = (line_read (goal.at.slice_bounds-operator_row-end c).In-Line).fits

pub slice_bounds-operator_row-end-in-Line : goal.slice_bounds-operator_row-end-in-Line
slice_bounds-operator_row-end-in-Line c = sym (length-take-le _ _ (line_read (goal.at.slice_bounds-operator_row-end-in-Line c).In-Line).fits)

pub overflow_add-seen : goal.overflow_add-seen
overflow_add-seen c =
    let a = c.args in let t = line_read (goal.at.overflow_add-seen c).In-Line in
    omega (arith, tree_small (shape_by a.h.line) a.h.rules.now a.h.most a.seen _ t.took.fs t.took.zero, a.h.few)

pub operator_row-row-requires : goal.operator_row-row-requires
operator_row-row-requires c =
    let h = c.args.h in let t = line_read (goal.at.operator_row-row-requires c).In-Line in
    omega (arith, t.part, length-map h.line.bounds.now bound_of, h.eight)

pub returns-in-Line-clause-answer : goal.returns-in-Line-clause-answer
returns-in-Line-clause-answer c =
    let a = c.args in let k = tree_by a.h in
    ap (λ (x : List ℕ). row_on (get_or x 10 0) c.in-Line.next) (row_is (goal.at.returns-in-Line-clause-answer c).In-Line _ c.operator_row-row.ensures)
    ∙ row_read (number_at k a.seen a.s.now a.at) (after a.s.now a.at) (line_at k.letter a.s.now a.at) _ _ (sym c.in-Line.is ∙ c.tree_line.ensures.answer)

pub returns-in-Line-clause-stored : goal.returns-in-Line-clause-stored
returns-in-Line-clause-stored c = let a = c.args in λ z. c.store.ensures ∙ ap (set a.rows.now a.seen) (row_is (goal.at.returns-in-Line-clause-stored c).In-Line _ c.operator_row-row.ensures)
