-- `exchange::row::copy_trees` meets its contract. The rows copied, with those of the `left` trees still to come, are those of all (`Mid`).
use mathlib.Core.Path.{◌≡◌}
use mathlib.Core.List.{List, ◌++◌}
use Prim.Native.Nat.{ℕ, ◌-◌}
use lib.ListN.{length, drop}
use Rattle.exchange.specs.Trees.{trees, Plans}
use Rattle.exchange.specs.Rows.{flattens}
use Rattle.exchange.proofs.Copied.{Mid}
use Rattle.exchange.proofs.row.copy_trees.Given as goal

abbrev pub invariant-loop-left : goal.invariant-loop-left
invariant-loop-left l = (length l.dst ≡ length l.initial.dst) × ((ts : Plans) (rest : List (List ℕ)) → trees ts ≡ l.count → drop l.src.at l.src.rows.now ≡ flattens ts ++ rest → Mid l.src.rows.now l.src.at l.to l.initial.dst ts rest l.dst l.a l.b l.left)

abbrev pub decreases-loop-left : goal.decreases-loop-left
decreases-loop-left l = length l.src.rows.now - l.a
