-- `plansheet::tree::read_tree` meets its contract. What is read from here, with the rows held in front, is the whole run (`Turns`).
use mathlib.Core.Path.{◌≡◌}
use Prim.Native.Nat.{◌+◌, ◌-◌, ◌*◌, ◌≤◌}
use lib.ListN.{length}
use Rattle.linekinds.specs.Lines.{Kind}
use Rattle.plansheet.specs.PlanSheets.{operator_rows}
use Rattle.plansheet.specs.Described.{tree_by}
use Rattle.plansheet.proofs.Turns.{from, Head}
use Rattle.plansheet.proofs.tree.read_tree.Given as goal

abbrev pub invariant-loop-owed : goal.invariant-loop-owed
invariant-loop-owed l = let k : Kind = tree_by l.h in
    Head (operator_rows 1) k l.place.s.now (from k l.place.s.now 1 0 l.place.line l.place.at) l.initial.rows l.rows l.p l.l l.n l.owed × (l.n ≤ l.h.most) × (l.owed ≤ 1 + 8 * l.n) × (length l.fields ≡ length l.initial.fields)

abbrev pub decreases-loop-owed : goal.decreases-loop-owed
decreases-loop-owed l = length l.place.s.now - l.p
