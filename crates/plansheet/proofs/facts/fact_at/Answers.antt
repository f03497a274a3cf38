-- `facts::fact_at` meets its contract: the line that `row_at` found, of which the marks were tested (`PlainFacts`).
use native.Mathlib.Omega.{arith}
use Rattle.plansheet.proofs.PlainFacts.{fact_plain}
use Rattle.plansheet.proofs.facts.fact_at.Goals as goal

pub returns : goal.returns
returns c = let found = c.in_ok-end.ensures in fact_plain c.args.s.now c.args.at c.args.row.now c.row_at.new.row _ (omega (arith, c.row_at.auto.row)) found (c.marked.ensures c.if-not-marked.false found.1)
