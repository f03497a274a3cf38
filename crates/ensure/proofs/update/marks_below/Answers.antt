-- `ensure::update::marks_below` meets its contract: no children, the first is tracked, or any is unspecified, each by its law.
use mathlib.Core.Path.{sym, ◌∙◌}
use native.Mathlib.Omega.{arith}
use Rattle.exchange.proofs.Marking.{stands_in, all_first, below_none, below_first, below_unspecified}
use Rattle.ensure.proofs.update.marks_below.Goals as goal

pub returns-then-left-eq0 : goal.returns-then-left-eq0
returns-then-left-eq0 c = below_none c.args.rows.now c.args.at _ c.if-left-eq0.true

pub offset_bounds-rows-at : goal.offset_bounds-rows-at
offset_bounds-rows-at c = omega (arith, stands_in _ _ (all_first _ _ _ c.if-left-eq0.false c.requires))

pub bounds-rows-at : goal.bounds-rows-at
bounds-rows-at c = omega (arith, stands_in _ _ (all_first _ _ _ c.if-left-eq0.false c.requires))

pub returns-then-is_set : goal.returns-then-is_set
returns-then-is_set c = below_first c.args.rows.now c.args.at _ c.if-left-eq0.false (sym c.is_set.ensures ∙ c.if-is_set.true)

pub returns : goal.returns
returns c = below_unspecified c.args.rows.now c.args.at _ c.if-left-eq0.false _ (sym c.is_set.ensures ∙ c.if-is_set.false) c.any_unspecified.ensures
