-- `plansheet::facts::read_fact` meets its contract: what `fact_at` found is the row, or else what `judged_fact` leaves (`PlainFacts`).
use mathlib.Core.Path.{subst}
use mathlib.Core.List.{[]}
use lib.ListN.{get_or}
use Rattle.numberlines.specs.declared.row.Unread.{Unread}
use Rattle.std.specs.Prelude.{Result}
use Prim.Native.Nat.{ℕ}
use Rattle.plansheet.specs.PlainFacts.{FactAt, FactFound}
use Rattle.plansheet.proofs.PlainFacts.{fact_none, quick_answer, quick_left, left_again}
use Rattle.plansheet.proofs.facts.read_fact.Goals as goal
use Rattle.plansheet.proofs.facts.read_fact.Goals.{In-Ok}

pub returns-in_default-clause-stored : goal.returns-in_default-clause-stored
returns-in_default-clause-stored c = let f = c.fact_at in let j = c.judged_fact-in_default in let same = fact_none c.args.s.now c.args.at (get_or c.args.rows.now c.args.n []) f.new.row f.result f.ensures in
    left_again c.args.s.now c.args.at c.args.n c.args.rows.now f.new.row [] same j.result j.new.rows (j.ensures.answer 0) j.ensures.stored

-- the line that was found
found : (c : In-Ok) → FactAt c.args.s.now c.args.at c.fact_at.new.row c.in-Ok.end
found c =
    let a = c.args in let f = c.fact_at in
    subst (λ (x : Result ℕ Unread). FactFound a.s.now a.at (get_or a.rows.now a.n []) x f.new.row) c.in-Ok.is f.ensures

pub returns-clause-answer : goal.returns-clause-answer
returns-clause-answer c = quick_answer c.args.s.now c.args.at _ _ (found (goal.at.returns-clause-answer c).In-Ok)

pub returns-clause-stored : goal.returns-clause-stored
returns-clause-stored c = quick_left c.args.s.now c.args.at _ _ (found (goal.at.returns-clause-stored c).In-Ok) c.args.n c.args.rows.now
