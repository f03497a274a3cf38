-- By the positions of R among the columns, and whether the input is partial.
use mathlib.Core.Path.{◌≡◌, sym, ap, ◌∙◌}
use mathlib.Core.List.{List}
use lib.ListN.{length, length-map}
use Rattle.std.specs.Prelude.{Some}
use Rattle.keys.specs.Lists.{expected_expr_positions}
use Rattle.keys.specs.Expressions.{Expression, same_expr, placeholder, expression, expressions}
use Rattle.keys.specs.Adjust.{columns_from}
use Rattle.keys.specs.Values.{numbers, positions_of}
use Rattle.keys.specs.Answers.{adjusted_of}
use Rattle.keys.proofs.Packed.{positions_expressions}
use Rattle.keys.proofs.Names.{columns_length}
use Rattle.keys.proofs.Rules.{regrouped_none, regrouped_acts, regrouped_stays}
use Rattle.adjust.specs.Sheets.{aggregate_sheet}
use Rattle.adjust.proofs.aggregate.regroup_by.Goals as goal
use Rattle.adjust.proofs.aggregate.regroup_by.Goals.{After-expected_expr_positions, in_default-via-in-Some+else-sheet, in_default-via-in_default}

pub expected_expr_positions-requires : goal.expected_expr_positions-requires
expected_expr_positions-requires c = let x = c.args.sheet.now in
    let long : length c.args.columns.now ≡ length x.groups.now = sym (length-map c.args.columns.now expression) ∙ ap length c.requires ∙ columns_length 0 x.groups.now in
    (rw long x.few_groups, x.few_required)

positions :
    (c : After-expected_expr_positions) →
    expected_expr_positions same_expr placeholder (columns_from 0 c.args.sheet.now.groups.now) (expressions c.args.sheet.now.required.now)
    ≡ positions_of c.expected_expr_positions.result
positions c = let x = c.args.sheet.now in
    sym (c.expected_expr_positions.ensures ∙ sym (positions_expressions c.args.columns.now x.required.now)
    ∙ ap (λ (xs : List Expression). expected_expr_positions same_expr placeholder xs (expressions x.required.now)) c.requires)

pub returns-in-Some : goal.returns-in-Some
returns-in-Some c = λ l g s w m cs.
    c.regroup.ensures l g s w m cs
    ∙ regrouped_acts same_expr (aggregate_sheet c.args.sheet.now l g s w m cs) _ (numbers c.in-Some.at) (positions (goal.at.returns-in-Some c).After-expected_expr_positions ∙ ap positions_of c.in-Some.is) c.if-sheet.true

pub returns-in_default : goal.returns-in_default
returns-in_default c = λ l g s w m cs. let t = aggregate_sheet c.args.sheet.now l g s w m cs in let p = positions (goal.at.returns-in_default c).After-expected_expr_positions in
    ap (λ a. adjusted_of t (Some a)) c.passed.ensures
    ∙ elim c.in_default.branch [
      | in_default-via-in-Some+else-sheet w ↦ regrouped_stays same_expr t _ (numbers w.in-Some.at) (p ∙ ap positions_of w.in-Some.is) w.if-sheet.false
      | in_default-via-in_default w ↦ regrouped_none same_expr t _ (p ∙ ap positions_of w.in_default.is)
    ]
