-- `ensure::update::mark_children` meets its contract: marking the trees that are left makes of the rows what marking all of them does (`marks_more`).
use mathlib.Core.Path.{◌≡◌}
use mathlib.Core.List.{List}
use Prim.Native.Nat.{ℕ, ◌-◌}
use lib.ListN.{length}
use Rattle.exchange.specs.Children.{update_each}
use Rattle.exchange.specs.Runs.{StandAll, BecomeAll}
use Rattle.ensure.proofs.update.mark_children.Given as goal

abbrev pub invariant-loop : goal.invariant-loop
invariant-loop l = (length l.rows ≡ length l.initial.rows) × StandAll l.rows l.child (l.left - l.counter)
    × ((d : List (List ℕ)) → BecomeAll update_each l.rows l.child (l.left - l.counter) d → BecomeAll update_each l.initial.rows l.at l.left d)
