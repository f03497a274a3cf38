-- `exchange::row::past_tree` meets its contract: the rows still to come end where the tree does (`Past`).
use mathlib.Core.Path.{◌≡◌}
use mathlib.Core.List.{List, ◌++◌}
use Prim.Native.Nat.{ℕ, ◌-◌}
use lib.ListN.{length, drop}
use Rattle.exchange.specs.Trees.{Plan}
use Rattle.exchange.specs.Rows.{flatten}
use Rattle.exchange.proofs.Passed.{Past}
use Rattle.exchange.proofs.row.past_tree.Given as goal

abbrev pub invariant-loop-left : goal.invariant-loop-left
invariant-loop-left l = (t : Plan) (rest : List (List ℕ)) → drop l.at l.rows ≡ flatten t ++ rest → Past l.rows l.at t rest l.a l.left

abbrev pub decreases-loop-left : goal.decreases-loop-left
decreases-loop-left l = length l.rows - l.a
