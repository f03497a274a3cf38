-- `plansheet::line::fact_line` meets its contract: an X line is read as any line of plain fields.
use mathlib.Core.Path.{ap, sym, ◌∙◌}
use Prim.Native.Nat.{ℕ}
use Rattle.text.specs.Text.{line_at, after}
use Rattle.linekinds.specs.Reading.{read_by}
use Rattle.plansheet.specs.PlanLines.{fact_shape}
use Rattle.plansheet.proofs.Shaped.{coming_number}
use Rattle.plansheet.proofs.line.fact_line.Goals as goal

pub returns-clause-answer : goal.returns-clause-answer
returns-clause-answer c = let a = c.args in let n : ℕ = after a.s.now a.at in
    let x = line_at 88 a.s.now a.at in
    (λ seen. c.plain_line.ensures.answer seen ∙ ap (λ (m : ℕ). read_by m n x) (sym (coming_number fact_shape seen n x)))
