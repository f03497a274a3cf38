-- `forms::step::ensure_each` meets its contract: the forms before i stand before those of the children from i on (`each_turn`).
use mathlib.Core.Path.{◌≡◌}
use mathlib.Core.List.{map}
use lib.ListN.{length, take, drop}
use Rattle.exchange.specs.States.{Child}
use Rattle.exchange.specs.Step.{ensure_child}
use Rattle.exchange.specs.Status.{status_of}
use Rattle.exchange.specs.FactRows.{fact_row, children_for}
use Rattle.exchange.specs.Standings.{worked_for, node_for, formed, each_form}
use Rattle.forms.proofs.Each.{prepend}
use Rattle.forms.proofs.step.ensure_each.Given as goal

abbrev pub invariant-loop-i : goal.invariant-loop-i
invariant-loop-i l =
    let go = λ (k : Child). formed (ensure_child l.w.settings (worked_for l.w.worked) (node_for l.w.worked) (map fact_row l.w.xs.rows.now) (status_of l.w.settings l.w.aligned k)) in
    (length l.forms ≡ length l.initial.forms) × (each_form go (children_for 1 l.asks.list.now) ≡ prepend (take l.i l.forms) (each_form go (drop l.i (children_for 1 l.asks.list.now))))
