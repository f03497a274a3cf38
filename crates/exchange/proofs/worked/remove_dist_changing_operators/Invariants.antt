-- `exchange::removeDistChangingOperators::remove_dist_changing_operators` meets its contract: at each turn a tree stands there whose remove_dist_changing_operators node is the whole's (`Reached`).
use mathlib.Core.Path.{◌≡◌}
use mathlib.Core.List.{List, ◌++◌}
use Prim.Native.Nat.{ℕ, ◌-◌}
use lib.ListN.{length, drop}
use Rattle.exchange.specs.Trees.{Plan}
use Rattle.exchange.specs.Rows.{flatten}
use Rattle.exchange.proofs.WorkedNode.{Reached}
use Rattle.exchange.proofs.worked.remove_dist_changing_operators.Given as goal

abbrev pub invariant-loop-a : goal.invariant-loop-a
invariant-loop-a l = (t : Plan) (rest : List (List ℕ)) → drop l.at l.rows ≡ flatten t ++ rest → Reached l.rows l.at l.a t

abbrev pub decreases-loop-a : goal.decreases-loop-a
decreases-loop-a l = length l.rows - l.a
