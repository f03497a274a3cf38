-- `tree::judge_tree` meets its contract. One law for each way out (`TreeNumbers`).
use mathlib.Core.Path.{◌≡◌, refl, sym, ap, ◌∙◌}
use mathlib.Core.List.{List}
use Prim.Native.Nat.{ℕ}
use Rattle.std.proofs.lemmas.Result.{err_from_is_err_and}
use Rattle.linekinds.specs.Reading.{row_values}
use Rattle.refusals.specs.Refusals.{judged_by}
use Rattle.refusals.proofs.Judging.{judged_ok, judged_err}
use Rattle.plansheet.specs.ReadRows.{shape_number}
use Rattle.plansheet.specs.declared.description.TreeShape.{TreeShape}
use Rattle.plansheet.proofs.TreeNumbers.{tree_limited, tree_most, tree_wide, tree_shape, tree_kind, tree_fit, tree_unfit}
use Rattle.plansheet.proofs.tree.judge_tree.Goals as goal
use Rattle.plansheet.proofs.tree.judge_tree.Goals.{In_ok-judge_shape, then-h-seen-via-then-h-seen, then-h-seen-via-else-h-seen+then-children-gt-MOST_CHILDREN}

pub returns-then-exchange_limited : goal.returns-then-exchange_limited
returns-then-exchange_limited c = let a = c.args in ap judged_by (tree_limited a.h.line.sizes.now a.h.line.codes.now a.h.rules.now a.h.most a.seen a.next a.fields.now (sym c.exchange_limited.ensures ∙ c.if-exchange_limited.true))

pub returns-then-h-seen : goal.returns-then-h-seen
returns-then-h-seen c =
    let a = c.args in
    elim c.then-h-seen.branch [
      | then-h-seen-via-then-h-seen w ↦ ap judged_by (tree_most a.h.line.sizes.now a.h.line.codes.now a.h.rules.now a.h.most a.seen a.next a.fields.now (sym c.exchange_limited.ensures ∙ c.if-exchange_limited.false) w.if-h-seen.true)
      | then-h-seen-via-else-h-seen+then-children-gt-MOST_CHILDREN w ↦ ap judged_by (tree_wide a.h.line.sizes.now a.h.line.codes.now a.h.rules.now a.h.most a.seen a.next a.fields.now (sym c.exchange_limited.ensures ∙ c.if-exchange_limited.false) w.if-h-seen.false w.if-children-gt-MOST_CHILDREN.true)
    ]

-- the number of the line but for its kind and children
abbrev number : TreeShape → ℕ → List (List ℕ) → ℕ
number h next fields = shape_number h.line.sizes.now h.line.codes.now next (row_values fields)

right : (c : In_ok-judge_shape) → number c.args.h c.args.next c.args.fields.now ≡ 0
right c = judged_ok (number c.args.h c.args.next c.args.fields.now) c.in_ok-judge_shape.field-0 c.in_ok-judge_shape.ensures

pub returns-in_err-judge_shape : goal.returns-in_err-judge_shape
returns-in_err-judge_shape c =
    let a = c.args in let p = err_from_is_err_and c.from_residual.result c.from_residual.ensures.1 in
    let e = c.in_err-judge_shape.ensures in
    rw (p.1, p.2) (e ∙ ap judged_by (tree_shape a.h.line.sizes.now a.h.line.codes.now a.h.rules.now a.h.most a.seen a.next a.fields.now (sym c.exchange_limited.ensures ∙ c.if-exchange_limited.false) c.if-h-seen.false c.if-children-gt-MOST_CHILDREN.false _ refl (judged_err (number a.h a.next a.fields.now) _ e).0))

pub returns-then-h-kind : goal.returns-then-h-kind
returns-then-h-kind c =
    let a = c.args in
    ap judged_by (tree_kind a.h.line.sizes.now a.h.line.codes.now a.h.rules.now a.h.most a.seen a.next a.fields.now (sym c.exchange_limited.ensures ∙ c.if-exchange_limited.false) c.if-h-seen.false c.if-children-gt-MOST_CHILDREN.false _ refl
    (right (goal.at.returns-then-h-kind c).In_ok-judge_shape) c.if-h-kind.true)

pub returns-then-not-rule_fits : goal.returns-then-not-rule_fits
returns-then-not-rule_fits c =
    let a = c.args in
    ap judged_by (tree_unfit a.h.line.sizes.now a.h.line.codes.now a.h.rules.now a.h.most a.seen a.next a.fields.now (sym c.exchange_limited.ensures ∙ c.if-exchange_limited.false) c.if-h-seen.false c.if-children-gt-MOST_CHILDREN.false _ refl
    (right (goal.at.returns-then-not-rule_fits c).In_ok-judge_shape) c.if-h-kind.false (sym c.rule_fits.ensures ∙ c.if-not-rule_fits.true))

pub returns : goal.returns
returns c =
    let a = c.args in
    ap judged_by (tree_fit a.h.line.sizes.now a.h.line.codes.now a.h.rules.now a.h.most a.seen a.next a.fields.now (sym c.exchange_limited.ensures ∙ c.if-exchange_limited.false) c.if-h-seen.false c.if-children-gt-MOST_CHILDREN.false _ refl
    (right (goal.at.returns c).In_ok-judge_shape) c.if-h-kind.false (sym c.rule_fits.ensures ∙ c.if-not-rule_fits.false))
