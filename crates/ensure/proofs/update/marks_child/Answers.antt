-- `ensure::update::marks_child` meets its contract: the kind that is read is the child's, and each way out has its law.
use mathlib.Core.Path.{sym, ◌∙◌}
use native.Mathlib.Omega.{arith}
use Rattle.exchange.proofs.Marking.{stands_in, stands_below, child_exchange, child_merge, child_coalesce, child_below}
use Rattle.ensure.proofs.update.marks_child.Goals as goal

pub offset_bounds-rows-at : goal.offset_bounds-rows-at
offset_bounds-rows-at c = omega (arith, stands_in _ _ c.requires)

pub bounds-rows-at : goal.bounds-rows-at
bounds-rows-at c = omega (arith, stands_in _ _ c.requires)

pub returns-then-exchanges : goal.returns-then-exchanges
returns-then-exchanges c = child_exchange c.args.rows.now c.args.at (sym c.exchanges.ensures ∙ c.if-exchanges.true)

pub returns-then-k-eq-MERGE : goal.returns-then-k-eq-MERGE
returns-then-k-eq-MERGE c = child_merge c.args.rows.now c.args.at (sym c.exchanges.ensures ∙ c.if-exchanges.false) c.if-k-eq-MERGE.true

pub returns-then-k-eq-COALESCE : goal.returns-then-k-eq-COALESCE
returns-then-k-eq-COALESCE c = child_coalesce c.args.rows.now c.args.at (sym c.exchanges.ensures ∙ c.if-exchanges.false) c.if-k-eq-MERGE.false c.if-k-eq-COALESCE.true

pub overflow_add-at : goal.overflow_add-at
overflow_add-at c = omega (arith, stands_in _ _ c.requires)

pub children_at-requires : goal.children_at-requires
children_at-requires c = stands_in _ _ c.requires

pub marks_below-requires : goal.marks_below-requires
marks_below-requires c = rw c.children_at.ensures (stands_below _ _ c.requires)

pub returns : goal.returns
returns c = child_below c.args.rows.now c.args.at (sym c.exchanges.ensures ∙ c.if-exchanges.false) c.if-k-eq-MERGE.false c.if-k-eq-COALESCE.false _
    (rw c.children_at.ensures at c.marks_below.ensures)
