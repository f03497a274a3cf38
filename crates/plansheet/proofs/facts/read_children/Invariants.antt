-- `plansheet::facts::read_children` meets its contract. What is read from here, with the rows held in front, is the whole run (`Turns`).
use mathlib.Core.Path.{◌≡◌}
use mathlib.Core.List.{◌++◌}
use Prim.Native.Nat.{◌-◌, ◌≤◌}
use lib.ListN.{length, drop}
use Rattle.plansheet.specs.PlanLines.{child_line}
use Rattle.plansheet.specs.ReadRows.{number_rows}
use Rattle.plansheet.proofs.Turns.{from, Head}
use Rattle.plansheet.proofs.facts.read_children.Given as goal

abbrev pub invariant-loop-row : goal.invariant-loop-row
invariant-loop-row l =
    Head number_rows child_line l.place.s.now (from child_line l.place.s.now l.children 0 l.place.line l.place.at) l.fn.rows (l.row-items ++ drop l.children l.fn.rows) l.p l.l l.row-index (l.children - l.row-index)
    × (l.row-index ≤ l.children) × (length l.fields ≡ length l.initial.fields)
