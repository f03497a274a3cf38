-- `bench::bench_try_reorder` meets its contract: by whether the pairs were moved (`stood`, `moved`).
use mathlib.Core.Path.{◌≡◌, ap, sym, ◌∙◌}
use mathlib.Core.Bool.{true}
use Rattle.keys.specs.Lists.{permute}
use Rattle.keys.specs.Expressions.{gone_number}
use Rattle.keys.specs.Values.{report_of}
use Rattle.std.proofs.lemmas.List.Edits.{sets}
use Rattle.bench.specs.Orders.{taken, report_for, left_for, right_for}
use Rattle.bench.proofs.Storing.{was_tried, even, stood, moved, unmoved}
use Rattle.bench.proofs.bench_try_reorder.Goals as goal
use Rattle.bench.proofs.bench_try_reorder.Goals.{After-report-2}

pub returns-in_default : goal.returns-in_default
returns-in_default c =
    let a = c.args in let t = c.try_reorder-tried in
    let is_taken : taken a.r.now a.l.now a.g.now ≡ true = even a.r.now a.l.now a.g.now c.if-r-gt32.false c.if-l-gt32.false c.if-g-l.false in
    let both = stood a.w.now a.r.now a.l.now a.g.now a.left.now a.right.now is_taken t.result (was_tried a.w.now a.r.now a.l.now a.g.now t.result t.ensures) (unmoved t.result c.in_default.not-Moved) in
    record { answer = c.report.ensures ∙ both.0; left = both.1.0; right = both.1.1 }

all_moved :
    (c : After-report-2) → let a = c.args in
    (report_of c.try_reorder-tried.result ≡ report_for a.w.now a.r.now a.l.now a.g.now)
    × ((c.store_moved.new.out ≡ left_for a.w.now a.r.now a.l.now a.g.now a.left.now) × (c.store_moved-2.new.out ≡ right_for a.w.now a.r.now a.l.now a.g.now a.right.now))
all_moved c =
    let a = c.args in let t = c.try_reorder-tried in
    let is_taken : taken a.r.now a.l.now a.g.now ≡ true = even a.r.now a.l.now a.g.now c.if-r-gt32.false c.if-l-gt32.false c.if-g-l.false in
    moved a.w.now a.r.now a.l.now a.g.now a.left.now a.right.now is_taken t.result (was_tried a.w.now a.r.now a.l.now a.g.now t.result t.ensures) c.in-Moved.at c.in-Moved.is _ _
    (c.store_moved.ensures ∙ ap (λ ps. sets a.left.now 0 (permute gone_number a.l.now ps)) c.positions.ensures)
    (c.store_moved-2.ensures ∙ ap (λ ps. sets a.right.now 0 (permute gone_number a.g.now ps)) c.positions-2.ensures)

pub returns-clause-answer : goal.returns-clause-answer
returns-clause-answer c = c.report-2.ensures ∙ ap report_of (sym c.in-Moved.is) ∙ (all_moved (goal.at.returns-clause-answer c).After-report-2).0

pub returns-clause-left : goal.returns-clause-left
returns-clause-left c = (all_moved (goal.at.returns-clause-left c).After-report-2).1.0

pub returns-clause-right : goal.returns-clause-right
returns-clause-right c = (all_moved (goal.at.returns-clause-right c).After-report-2).1.1
