-- `exchange::order::kept_entries` meets its contract. The mask so far is that of the entries from i on, which is below 2 to the number of them (`Handled`).
use mathlib.Core.Path.{◌≡◌}
use Prim.Native.Nat.{◌-◌, ◌/◌, ◌^◌}
use Rattle.exchange.specs.Order.{kept_entries}
use Rattle.exchange.proofs.order.kept_entries.Given as goal

abbrev pub invariant-loop-i : goal.invariant-loop-i
invariant-loop-i l = l.kept ≡ kept_entries (l.n - l.i) (l.constants / 2 ^ l.i)
