-- `plansheet::tree::read_tree` meets its contract. What is read from here, with the rows held in front, is the whole run (`Turns`).
use mathlib.Core.Path.{◌≡◌, refl, sym, ap, ◌∙◌}
use mathlib.Core.List.{List}
use mathlib.Core.Option.{Option}
use Prim.Native.Nat.{ℕ, ◌+◌, ◌-◌, ◌≤◌, ◌<◌}
use native.Mathlib.Omega.{arith}
use borrow.Author.Tests.{eq-eqb, ne_eqb}
use lib.ListN.{length, set}
use Rattle.text.specs.declared.field.Field.{Field}
use Rattle.text.specs.Text.{line_at, after}
use Rattle.linekinds.specs.Lines.{line_number, fields_of}
use Rattle.plansheet.specs.Shapes.{children_at}
use Rattle.plansheet.specs.PlanSheets.{operator_row, operator_rows}
use Rattle.plansheet.specs.Described.{shape_by, tree_by}
use Rattle.plansheet.specs.ReadRows.{rows_by, run_from, Left}
use Rattle.plansheet.proofs.Turns.{Head, on, Taken, taken, head_first, head_long, head_done, head_refused, head_next, head_more}
use Rattle.plansheet.proofs.FineLines.{tree_small, operators_made}
use Rattle.plansheet.proofs.PlainTrees.{line_again, refused_again}
use Rattle.std.specs.Prelude.{Result, Ok, Err}
use Rattle.std.proofs.lemmas.Result.{err_from_is_err_and}
use Rattle.linekinds.specs.Lines.{Run}
use Rattle.refusals.specs.declared.Refusal.{Refusal}
use Rattle.plansheet.specs.declared.description.TreeShape.{TreeShape}
use Rattle.plansheet.specs.declared.tree.TreeRow.{TreeRow}
use Rattle.plansheet.specs.PlainTrees.{tree_row_by, number_at}
use Rattle.plansheet.proofs.Mapped.{mapped_ok, mapped_err}
use Rattle.std.proofs.Common.{rules}
use Rattle.plansheet.proofs.tree.read_tree.Goals as goal
use Rattle.plansheet.proofs.tree.read_tree.Goals.{In_ok-row, In_err-row}

-- ---- a turn

module _ (h : TreeShape) (s : List ℕ) (p n : ℕ) where
  abbrev here : Option (List Field)
  here = line_at h.line.letter s p

  -- the line that was read, its children, and the numbers of the turn
  record Turn (row : TreeRow) : Type 0 where
    took : Taken (tree_by h) n (after s p) here (length (fields_of here)) row.next
    children_are : row.children ≡ children_at took.fs
    few : n < h.most
    small : row.children ≤ 8
    on : p < row.next
    within : row.next ≤ length s

  turn :
      (whole : Run) (out₀ out : List (List ℕ)) (l owed : ℕ) → Head (operator_rows 1) (tree_by h) s whole out₀ out p l n owed →
      (r : Result TreeRow Refusal) → r ≡ tree_row_by (number_at (tree_by h) n s p) (after s p) here → (row : TreeRow) → r ≡ Ok row → Turn row
  turn whole out₀ out l owed held r e row o =
      let read = line_again (line_number (tree_by h) n (after s p) here) (after s p) here row.children row.next (sym o ∙ e) in
      let took = taken (tree_by h) n (after s p) here _ _ read.0 in
      let children_are : row.children ≡ children_at took.fs = read.1 ∙ ap (λ (x : Option (List Field)). children_at (fields_of x)) took.is in
      let a = tree_small (shape_by h.line) h.rules.now h.most n _ took.fs took.zero in
      let b = head_next (operator_rows 1) _ operators_made (tree_by h) _ _ _ _ _ _ _ _ held _ _ took in
      record { took = took; children_are = children_are; few = a.0; small = omega (arith, a.1, children_are); on = b.0; within = b.1 }

pub loop-owed-init : goal.loop-owed-init
loop-owed-init c = (head_first (operator_rows 1) _ operators_made (tree_by c.args.h) _ _ _ _ _ c.args.place.within c.args.place.numbered, omega arith, omega arith, refl)

-- a line that was turned back ends the run
refused :
    (c : In_err-row) →
    (Err (on (mapped_err _ _ _ c.map_err.ensures.cases _ c.in_err-row.was).0 c.loop-owed.l) ≡ rows_by (run_from (tree_by c.args.h) 1 c.args.place.s.now c.args.place.line c.args.place.at))
    × Left (operator_rows 1) c.args.place.s.now (run_from (tree_by c.args.h) 1 c.args.place.s.now c.args.place.line c.args.place.at) c.args.rows.now c.tree_row.new.rows
refused c =
    let l = c.loop-owed in let h = c.args.h in let s = c.args.place.s.now in let was = mapped_err _ _ _ c.map_err.ensures.cases _ c.in_err-row.was in
    head_refused (operator_rows 1) _ operators_made (tree_by h) _ _ _ _ _ _ _ _ l.invariant.0 (ne_eqb _ _ c.loop-owed-test.true) was.0
    (refused_again (line_number (tree_by h) l.n (after s l.p) (line_at h.line.letter s l.p)) (after s l.p) (line_at h.line.letter s l.p) _ (sym was.1 ∙ c.tree_row.ensures.answer))
    c.tree_row.new.rows (c.tree_row.auto.rows ∙ head_long (operator_rows 1) _ operators_made (tree_by h) _ _ _ _ _ _ _ _ l.invariant.0)

-- a line that was read
turned : (c : In_ok-row) → Turn c.args.h c.args.place.s.now c.loop-owed.p c.loop-owed.n c.in_ok-row.row
turned c =
    let l = c.loop-owed in
    turn c.args.h c.args.place.s.now l.p l.n _ _ _ _ _ l.invariant.0 c.tree_row.result c.tree_row.ensures.answer c.in_ok-row.row (mapped_ok _ _ _ c.map_err.ensures.cases _ c.in_ok-row.was)

pub returns-in_err-row-clause-answer : goal.returns-in_err-row-clause-answer
returns-in_err-row-clause-answer c =
    let was = mapped_err _ _ _ c.map_err.ensures.cases _ c.in_err-row.was in let p = err_from_is_err_and c.from_residual.result c.from_residual.ensures.1 in
    let is : c.in_err-row.field-0.0 ≡ on was.0 c.loop-owed.l = search (rules, was.2) in
    rw (p.1, p.2, is) (refused (goal.at.returns-in_err-row-clause-answer c).In_err-row).0

pub returns-in_err-row-clause-left : goal.returns-in_err-row-clause-left
returns-in_err-row-clause-left c = (refused (goal.at.returns-in_err-row-clause-left c).In_err-row).1

pub overflow_add-owed : goal.overflow_add-owed
overflow_add-owed c = omega (arith, turned (goal.at.overflow_add-owed c).In_ok-row, c.args.h.few, c.args.place, c.loop-owed.invariant.2)

pub loop-owed-smaller : goal.loop-owed-smaller
loop-owed-smaller c = omega (arith, turned (goal.at.loop-owed-smaller c).In_ok-row)

pub loop-owed-preserved : goal.loop-owed-preserved
loop-owed-preserved c =
    let l = c.loop-owed in let t = turned (goal.at.loop-owed-preserved c).In_ok-row in
    let took = t.took in
    let stored : c.tree_row.new.rows ≡ set l.rows l.n (operator_row (l.n + 1) took.fs) =
    c.tree_row.ensures.stored (ap (line_number (tree_by c.args.h) l.n (after c.args.place.s.now l.p)) took.is ∙ took.zero)
    ∙ ap (λ (x : Option (List Field)). set l.rows l.n (operator_row (l.n + 1) (fields_of x))) took.is in (
      head_more (operator_rows 1) _ operators_made (tree_by c.args.h) _ _ _ _ _ _ _ _ l.invariant.0 _ _ took (ne_eqb _ _ c.loop-owed-test.true) _ stored _ (ap (λ (n : ℕ). l.owed - 1 + n) t.children_are),
      omega (arith, t),
      omega (arith, t, l.invariant.2),
      omega (arith, l.invariant.3, c.tree_row.auto.fields),
    )

pub returns : goal.returns
returns c = let both = head_done (operator_rows 1) _ operators_made (tree_by c.args.h) _ _ _ _ _ _ _ _ c.loop-owed.invariant.0 (eq-eqb _ _ c.loop-owed-test.false) in record { answer = both.0; left = both.1 }
