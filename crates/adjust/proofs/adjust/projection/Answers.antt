-- By whether M is as long as R (`projection_mapped`, `projection_cleared`).
use mathlib.Core.Path.{sym, ap, ◌∙◌}
use lib.ListN.{length-map}
use Rattle.std.specs.Prelude.{Some}
use Rattle.keys.specs.Expressions.{same_expr, expression}
use Rattle.keys.specs.Answers.{adjusted_of}
use Rattle.keys.proofs.Rules.{projection_mapped, projection_cleared}
use Rattle.adjust.specs.Sheets.{sheet_of}
use Rattle.adjust.proofs.adjust.projection.Goals as goal

pub returns-then-sheet : goal.returns-then-sheet
returns-then-sheet c = let x = c.args.sheet.now in
    λ s cs. let t = sheet_of x s cs in
    ap (λ a. adjusted_of t (Some a)) c.passed.ensures ∙ projection_mapped same_expr t (length-map x.mapped.now expression ∙ c.if-sheet.true ∙ sym (length-map x.required.now expression))

pub returns : goal.returns
returns c = let x = c.args.sheet.now in
    λ s cs. let t = sheet_of x s cs in
    ap (λ a. adjusted_of t (Some a)) c.cleared.ensures ∙ projection_cleared same_expr t (λ z. c.if-sheet.false (sym (length-map x.mapped.now expression) ∙ z ∙ length-map x.required.now expression))
