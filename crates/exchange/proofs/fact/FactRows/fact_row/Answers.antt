-- `exchange::fact::FactRows::fact_row` meets its contract: the index at the place has the first row of the child and form (`index_row`).
use native.Mathlib.Omega.{arith}
use Rattle.exchange.proofs.Indexed.{slot_below, fact_none, fact_some, fact_in}
use Rattle.exchange.proofs.fact.FactRows.fact_row.Goals as goal

pub offset_bounds-self-slot : goal.offset_bounds-self-slot
offset_bounds-self-slot c = omega (arith, slot_below _ _ _ c.slot.ensures)

pub bounds-self-slot : goal.bounds-self-slot
bounds-self-slot c = fact_in _ _ _ _ _ c.args.at.within.0 c.args.at.within.1 c.args.at.within.2 c.args.self.indexed c.slot.ensures

pub returns-then-mark-eq0 : goal.returns-then-mark-eq0
returns-then-mark-eq0 c = fact_none _ _ _ _ _ c.args.at.within.0 c.args.at.within.1 c.args.at.within.2 c.args.self.indexed c.slot.ensures c.if-mark-eq0.true

pub returns : goal.returns
returns c = fact_some _ _ _ _ _ c.args.at.within.0 c.args.at.within.1 c.args.at.within.2 c.args.self.indexed c.slot.ensures c.if-mark-eq0.false
