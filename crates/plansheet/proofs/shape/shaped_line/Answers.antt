-- `plansheet::shape::shaped_line` meets its contract. The line by `Passed`, then one law for each test (`Shaped`).
use mathlib.Core.Path.{◌≡◌, refl, sym, ap, ◌∙◌}
use Prim.Native.Nat.{ℕ}
use native.Mathlib.Omega.{arith}
use lib.ListN.{take}
use lib.Seq.{length-take-le}
use Rattle.text.specs.Text.{line_at, after}
use Rattle.refusals.proofs.Judging.{judged_ok, judged_err}
use Rattle.linekinds.specs.declared.line.Read.TheVariants.{Refused}
use Rattle.linekinds.specs.Reading.{row_values}
use Rattle.plansheet.specs.Shapes.{fixed_line}
use Rattle.plansheet.specs.ReadRows.{shape_number}
use Rattle.plansheet.specs.Described.{shape_by}
use Rattle.plansheet.proofs.Shaped.{WithinBounds, within_bounds, codes_number, line_refused, line_turned, line_read_lem, shape_codes}
use Rattle.plansheet.proofs.shape.shaped_line.Goals as goal
use Rattle.plansheet.proofs.shape.shaped_line.Goals.{In-Ok}

-- the fields that are within their bounds
within : (c : In-Ok) → let a = c.args in WithinBounds a.s.now a.at a.h.letter a.h.bounds.now c.fixed_at.new.out c.in-Ok.j
within c =
    let a = c.args in
    within_bounds a.s.now a.at a.h.letter a.h.bounds.now a.fields.now _ _ (sym c.in-Ok.is ∙ c.fixed_at.ensures.answer) c.fixed_at.ensures.stored c.requires.1 c.requires.0

-- the number of the line, by its rows
abbrev by_rows : In-Ok → ℕ
by_rows c = let a = c.args in let j = c.in-Ok.j in shape_number a.h.sizes.now a.h.codes.now j.next (row_values (take j.count c.fixed_at.new.out))

number : (c : In-Ok) (seen : ℕ) → let a = c.args in by_rows c ≡ codes_number (fixed_line (shape_by a.h)) seen (after a.s.now a.at) (within c).read.fs
number c seen =
    let a = c.args in let h = a.h in let w = within c in
    (λ i. shape_number h.sizes.now h.codes.now (w.read.goes i) (row_values (w.rows i))) ∙ shape_codes h.letter h.bounds.now h.sizes.now h.codes.now seen (after a.s.now a.at) w.read.fs

pub returns-in-Err-clause-answer : goal.returns-in-Err-clause-answer
returns-in-Err-clause-answer c =
    let a = c.args in
    λ seen. ap Refused c.misfit_refusal.ensures ∙ line_refused a.h.bounds.now c.requires.1 (fixed_line (shape_by a.h)) refl refl seen (after a.s.now a.at) (line_at a.h.letter a.s.now a.at) _ (sym c.in-Err.is ∙ c.fixed_at.ensures.answer)

pub slice_bounds-judge_shape-end : goal.slice_bounds-judge_shape-end
slice_bounds-judge_shape-end c = omega (arith, (within (goal.at.slice_bounds-judge_shape-end c).In-Ok).long, c.requires, c.fixed_at.auto.out)

pub slice_bounds-judge_shape-end-2 : goal.slice_bounds-judge_shape-end-2
slice_bounds-judge_shape-end-2 c = sym (length-take-le _ _ (omega (arith, (within (goal.at.slice_bounds-judge_shape-end-2 c).In-Ok).long, c.requires, c.fixed_at.auto.out)))

pub returns-in-Err-judge_shape-clause-answer : goal.returns-in-Err-judge_shape-clause-answer
returns-in-Err-judge_shape-clause-answer c =
    let a = c.args in let x = (goal.at.returns-in-Err-judge_shape-clause-answer c).In-Ok in
    let e = judged_err (by_rows x) c.in-Err-judge_shape.refusal (sym c.in-Err-judge_shape.is ∙ c.judge_shape.ensures) in
    λ seen. ap Refused e.1 ∙ line_turned a.h.bounds.now c.requires.1 (fixed_line (shape_by a.h)) refl refl seen (after a.s.now a.at) (line_at a.h.letter a.s.now a.at) _ (within x).read _ (number x seen) e.0

pub returns-clause-answer : goal.returns-clause-answer
returns-clause-answer c =
    let a = c.args in let i = c.in_default in let x = (goal.at.returns-clause-answer c).In-Ok in
    let right = judged_ok (by_rows x) i.field-0 (sym i.is ∙ c.judge_shape.ensures) in
    λ seen. line_read_lem a.h.bounds.now c.requires.1 (fixed_line (shape_by a.h)) refl refl seen (after a.s.now a.at) (line_at a.h.letter a.s.now a.at) _ (within x).read _ (number x seen) right
