-- `linekinds::plain::rules_at` meets its contract: what `entries_at` finds, where it is even.
use native.Mathlib.Omega.{arith}
use Rattle.linekinds.proofs.plain.rules_at.Goals as goal

pub returns : goal.returns
returns c = (c.entries_at.ensures.0, (c.in_ok-entries.ensures.1, omega arith))
