-- `ensure::update::any_unspecified` meets its contract: the trees that are left say what all of them say (`unspecified_later`).
use mathlib.Core.Bool.{Bool}
use Prim.Native.Nat.{◌-◌}
use Rattle.exchange.specs.Children.{any_unspecified}
use Rattle.exchange.specs.Runs.{StandAll, SaysAll}
use Rattle.ensure.proofs.update.any_unspecified.Given as goal

abbrev pub invariant-loop : goal.invariant-loop
invariant-loop l = StandAll l.rows l.child (l.left - l.counter)
    × ((r : Bool) → SaysAll any_unspecified l.rows l.child (l.left - l.counter) r → SaysAll any_unspecified l.rows l.at l.left r)
