-- `plansheet::facts::read_facts` meets its contract. What is read from here, with the rows held in front, is the whole run (`Turns`).
use mathlib.Core.Path.{◌≡◌}
use Prim.Native.Nat.{◌-◌}
use lib.ListN.{length}
use Rattle.plansheet.specs.PlanLines.{fact_line}
use Rattle.plansheet.specs.ReadRows.{number_rows}
use Rattle.plansheet.proofs.Turns.{from, Head}
use Rattle.plansheet.proofs.facts.read_facts.Given as goal

abbrev pub invariant-loop-next : goal.invariant-loop-next
invariant-loop-next l = Head number_rows fact_line l.place.s.now (from fact_line l.place.s.now 0 0 l.place.line l.place.at) l.initial.rows l.rows l.p l.l l.n 0 × (length l.fields ≡ length l.initial.fields)

abbrev pub decreases-loop-next : goal.decreases-loop-next
decreases-loop-next l = length l.place.s.now - l.p
