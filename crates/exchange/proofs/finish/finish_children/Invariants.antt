-- `exchange::finish::finish_children` meets its contract: what finishing the children that are left writes is what finishing all of them does (`each_wrote`).
use mathlib.Core.Path.{◌≡◌}
use mathlib.Core.List.{List, map}
use Prim.Native.Nat.{ℕ, ◌+◌, ◌-◌}
use lib.ListN.{length}
use Rattle.exchange.specs.declared.row.Step.{Step}
use Rattle.exchange.specs.FactRows.{node_facts, fact_row}
use Rattle.exchange.specs.LastForm.{finished_each}
use Rattle.exchange.specs.Rows.{operator_of}
use Rattle.exchange.specs.Runs.{Readys, MapsAll}
use Rattle.exchange.proofs.finish.finish_children.Given as goal

abbrev pub invariant-loop-child : goal.invariant-loop-child
invariant-loop-child l =
    let each = finished_each (map fact_row l.w.xs.rows.now) l.k.forms.now l.k.facts.now l.w.settings (node_facts l.w.node) (operator_of l.w.worked.node) l.w.children in
    let left = l.k.child + l.k.left - l.child in
    (length l.mid ≡ length l.initial.mid) × (length l.dst ≡ length l.initial.dst)
    × Readys (each l.child) l.src.rows.now l.s.at left (length l.dst) l.s.to
    × ((d : List (List ℕ)) (r : Step) → MapsAll (each l.child) l.src.rows.now l.s.at left l.dst l.s.to d r
    → MapsAll (each l.k.child) l.src.rows.now l.src.at l.k.left l.initial.dst l.to d r)
