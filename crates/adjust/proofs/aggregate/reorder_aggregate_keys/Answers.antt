-- One law of `reorder_aggregate_keys` for each test.
use mathlib.Core.Path.{◌≡◌, sym, ap, ◌∙◌}
use mathlib.Core.List.{List}
use lib.ListN.{length-map}
use Rattle.std.specs.Prelude.{Some}
use Rattle.std.proofs.Common.{rules}
use Rattle.keys.specs.Lists.{same_list}
use Rattle.keys.specs.Expressions.{Expression, same_expr, expression, expressions}
use Rattle.keys.specs.Adjust.{columns_from}
use Rattle.keys.specs.Answers.{adjusted_of}
use Rattle.keys.proofs.Packed.{same_expressions}
use Rattle.keys.proofs.Rules.{aggregate_stays, aggregate_searched, lengths_differ, null_there, same_already, all_let}
use Rattle.adjust.specs.Sheets.{aggregate_sheet}
use Rattle.adjust.proofs.aggregate.reorder_aggregate_keys.Goals as goal
use Rattle.adjust.proofs.aggregate.reorder_aggregate_keys.Goals.{After-eq, then-sheet-via-then-sheet, then-sheet-via-else-sheet+then-not-sheet}

pub returns-then-sheet : goal.returns-then-sheet
returns-then-sheet c = let x = c.args.sheet.now in λ l g s w m cs. let t = aggregate_sheet x l g s w m cs in
    ap (λ a. adjusted_of t (Some a)) c.passed.ensures
    ∙ elim c.then-sheet.branch [
      | then-sheet-via-then-sheet w ↦ aggregate_stays same_expr t (lengths_differ same_expr t (λ z. w.if-sheet.true (sym (length-map x.required.now expression) ∙ z)))
      | then-sheet-via-else-sheet+then-not-sheet w ↦ aggregate_stays same_expr t (null_there same_expr t w.if-not-sheet.true)
    ]

-- R is the group names' columns already
asked : (c : After-eq) → same_list same_expr (columns_from 0 c.args.sheet.now.groups.now) (expressions c.args.sheet.now.required.now) ≡ c.eq.result
asked c = let x = c.args.sheet.now in
    ap (λ (xs : List Expression). same_list same_expr xs (expressions x.required.now)) (sym c.group_columns-columns.ensures)
    ∙ same_expressions c.group_columns-columns.result.now x.required.now ∙ search rules

pub returns-then-eq : goal.returns-then-eq
returns-then-eq c = λ l g s w m cs. let t = aggregate_sheet c.args.sheet.now l g s w m cs in
    ap (λ a. adjusted_of t (Some a)) c.passed-then-eq.ensures
    ∙ aggregate_stays same_expr t (same_already same_expr t (asked (goal.at.returns-then-eq c).After-eq ∙ c.if-eq.true))

pub returns : goal.returns
returns c = let x = c.args.sheet.now in λ l g s w m cs. let t = aggregate_sheet x l g s w m cs in
    c.regroup_by.ensures l g s w m cs
    ∙ aggregate_searched same_expr t (all_let same_expr t (length-map x.required.now expression ∙ c.if-sheet.false) c.if-not-sheet.false (asked (goal.at.returns c).After-eq ∙ c.if-eq.false))
