-- One law of `aggregate` for each way out.
use mathlib.Core.Path.{◌≡◌, sym, ap, ◌∙◌}
use Rattle.std.proofs.Common.{rules, tests}
use lib.ListN.{length, length-map}
use Rattle.std.specs.Prelude.{Some}
use Rattle.keys.specs.Expressions.{same_expr, expression}
use Rattle.keys.specs.Answers.{adjusted_of}
use Rattle.keys.proofs.ByCode.{other_mode}
use Rattle.keys.proofs.Rules.{aggregate_unchanged, aggregate_other}
use Rattle.adjust.specs.Sheets.{aggregate_sheet}
use Rattle.adjust.proofs.aggregate.aggregate.Goals as goal

pub returns-then-is_empty : goal.returns-then-is_empty
returns-then-is_empty c = let x = c.args.sheet.now in let empty : length x.required.now ≡ 0 = search (rules, tests) in
    λ l g s w m cs. let t = aggregate_sheet x l g s w m cs in ap (λ a. adjusted_of t (Some a)) c.unchanged.ensures ∙ aggregate_unchanged same_expr t (length-map x.required.now expression ∙ empty)

pub returns-in-Other : goal.returns-in-Other
returns-in-Other c = let x = c.args.sheet.now in let there : length x.required.now ≡ 0 → ⊥ = search (rules, tests) in
    λ l g s w m cs. let t = aggregate_sheet x l g s w m cs in ap (λ a. adjusted_of t (Some a)) c.cleared.ensures ∙ aggregate_other same_expr t (λ z. there (sym (length-map x.required.now expression) ∙ z)) (other_mode x.operator.mode c.in-Other.ensures)
