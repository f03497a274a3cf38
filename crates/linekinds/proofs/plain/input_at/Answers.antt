-- `linekinds::plain::input_at` meets its contract: a field, and what `entries_at` finds after it.
use native.Mathlib.Omega.{arith}
use Rattle.linekinds.proofs.PlainLines.{marked_found}
use Rattle.linekinds.proofs.plain.input_at.Goals as goal

pub returns : goal.returns
returns c = let mark = c.in_ok-mark.mark in (c.entries_at.ensures.0, marked_found c.args.s.now c.args.at mark.value mark.end c.args.list.now c.in_ok-mark.ensures.0 (omega arith) c.entries_at.result _ c.entries_at.ensures.1)
