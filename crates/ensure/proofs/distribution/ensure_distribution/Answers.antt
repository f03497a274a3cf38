-- `ensure_distribution` meets its contract: a leaf, or what its worked node comes to.
use mathlib.Core.Path.{sym, ◌∙◌}
use Rattle.ensure.specs.Outcomes.{facts_by}
use Rattle.exchange.proofs.Marking.{stands_in}
use Rattle.ensure.proofs.Distributed.{sheet_stands, sheet_ready, sheet_worked, ends_leaf, ends_worked}
use Rattle.ensure.proofs.distribution.ensure_distribution.Goals as goal

pub children_at-requires : goal.children_at-requires
children_at-requires c = stands_in _ _ (sheet_stands c.args.src.now _ c.update_children.ensures _ c.requires.sheet)

pub leave_unchanged-requires : goal.leave_unchanged-requires
leave_unchanged-requires c = sheet_ready c.args.src.now _ c.update_children.ensures _ c.requires.sheet _ c.requires.roomy.1

pub returns-then-children_at-eq0-clause-ends : goal.returns-then-children_at-eq0-clause-ends
returns-then-children_at-eq0-clause-ends c = let a = c.args in ends_leaf a.src.now _ c.update_children.ensures a.s (facts_by a.f.node a.f.children.now a.f.xs.rows.now a.f.masks.now) _ a.dst.now _ (sym c.children_at.ensures ∙ c.if-children_at-eq0.true) c.leave_unchanged.ensures

pub remove_dist_changing_operators-at-requires : goal.remove_dist_changing_operators-at-requires
remove_dist_changing_operators-at-requires c = sheet_stands c.args.src.now _ c.update_children.ensures _ c.requires.sheet

pub ensure_worked-requires-clause-worked_at : goal.ensure_worked-requires-clause-worked_at
ensure_worked-requires-clause-worked_at c = let a = c.args in let q = c.requires in sheet_worked a.src.now _ c.update_children.ensures a.s (facts_by a.f.node a.f.children.now a.f.xs.rows.now a.f.masks.now) _ c.remove_dist_changing_operators-at.ensures _ _ q.sheet a.f.few q.roomy.1 (λ z. c.if-children_at-eq0.false (c.children_at.ensures ∙ z))

pub returns-clause-ends : goal.returns-clause-ends
returns-clause-ends c = let a = c.args in ends_worked a.src.now _ c.update_children.ensures a.s (facts_by a.f.node a.f.children.now a.f.xs.rows.now a.f.masks.now) _ a.dst.now _ _ c.remove_dist_changing_operators-at.ensures (λ z. c.if-children_at-eq0.false (c.children_at.ensures ∙ z)) c.ensure_worked.ensures
