-- `plansheet::tree::tree_line` meets its contract. The line by `Passed`, then one law for each test (`Shaped`).
use mathlib.Core.Path.{◌≡◌, refl, sym, ap, ◌∙◌}
use Prim.Native.Nat.{ℕ}
use native.Mathlib.Omega.{arith}
use lib.ListN.{take}
use lib.Seq.{length-take-le}
use Rattle.text.specs.Text.{line_at, after}
use Rattle.refusals.proofs.Judging.{judged_ok, judged_err}
use Rattle.linekinds.specs.declared.line.Read.TheVariants.{Refused}
use Rattle.plansheet.specs.ReadRows.{tree_number}
use Rattle.plansheet.specs.Described.{tree_by}
use Rattle.plansheet.proofs.Shaped.{WithinBounds, within_bounds, codes_number, line_refused, line_turned, line_read_lem, tree_codes}
use Rattle.plansheet.proofs.tree.tree_line.Goals as goal
use Rattle.plansheet.proofs.tree.tree_line.Goals.{In-Ok}

-- the fields that are within their bounds
within : (c : In-Ok) → let a = c.args in let h = a.h.line in WithinBounds a.s.now a.at h.letter h.bounds.now c.fixed_at.new.out c.in-Ok.j
within c =
    let a = c.args in let h = a.h.line in
    within_bounds a.s.now a.at h.letter h.bounds.now a.fields.now _ _ (sym c.in-Ok.is ∙ c.fixed_at.ensures.answer) c.fixed_at.ensures.stored a.h.bounded c.requires

-- the number of the line, by its rows
abbrev by_rows : In-Ok → ℕ
by_rows c = let h = c.args.h in let j = c.in-Ok.j in tree_number h.line.sizes.now h.line.codes.now h.rules.now h.most c.args.seen j.next (take j.count c.fixed_at.new.out)

number : (c : In-Ok) → let a = c.args in by_rows c ≡ codes_number (tree_by a.h) a.seen (after a.s.now a.at) (within c).read.fs
number c =
    let a = c.args in let h = a.h in let w = within c in
    (λ i. tree_number h.line.sizes.now h.line.codes.now h.rules.now h.most a.seen (w.read.goes i) (w.rows i))
    ∙ tree_codes h.line.letter h.line.bounds.now h.line.sizes.now h.line.codes.now h.rules.now h.most a.seen (after a.s.now a.at) w.read.fs

pub returns-in-Err-clause-answer : goal.returns-in-Err-clause-answer
returns-in-Err-clause-answer c =
    let a = c.args in
    ap Refused c.misfit_refusal.ensures ∙ line_refused a.h.line.bounds.now a.h.bounded (tree_by a.h) refl refl a.seen (after a.s.now a.at) (line_at a.h.line.letter a.s.now a.at) _ (sym c.in-Err.is ∙ c.fixed_at.ensures.answer)

pub slice_bounds-judge_tree-end : goal.slice_bounds-judge_tree-end
slice_bounds-judge_tree-end c = omega (arith, (within (goal.at.slice_bounds-judge_tree-end c).In-Ok).long, c.requires, c.fixed_at.auto.out)

pub slice_bounds-judge_tree-end-2 : goal.slice_bounds-judge_tree-end-2
slice_bounds-judge_tree-end-2 c = sym (length-take-le _ _ (omega (arith, (within (goal.at.slice_bounds-judge_tree-end-2 c).In-Ok).long, c.requires, c.fixed_at.auto.out)))

pub judge_tree-requires : goal.judge_tree-requires
judge_tree-requires c = rw (within (goal.at.judge_tree-requires c).In-Ok).many c.args.h.eight

pub returns-in-Err-judge_tree-clause-answer : goal.returns-in-Err-judge_tree-clause-answer
returns-in-Err-judge_tree-clause-answer c =
    let a = c.args in let x = (goal.at.returns-in-Err-judge_tree-clause-answer c).In-Ok in
    let e = judged_err (by_rows x) c.in-Err-judge_tree.refusal (sym c.in-Err-judge_tree.is ∙ c.judge_tree.ensures) in
    ap Refused e.1 ∙ line_turned a.h.line.bounds.now a.h.bounded (tree_by a.h) refl refl a.seen (after a.s.now a.at) (line_at a.h.line.letter a.s.now a.at) _ (within x).read _ (number x) e.0

pub returns-clause-answer : goal.returns-clause-answer
returns-clause-answer c =
    let a = c.args in let i = c.in_default in let x = (goal.at.returns-clause-answer c).In-Ok in
    let right = judged_ok (by_rows x) i.field-0 (sym i.is ∙ c.judge_tree.ensures) in
    line_read_lem a.h.line.bounds.now a.h.bounded (tree_by a.h) refl refl a.seen (after a.s.now a.at) (line_at a.h.line.letter a.s.now a.at) _ (within x).read _ (number x) right
