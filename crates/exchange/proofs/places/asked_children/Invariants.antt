-- `exchange::places::asked_children` meets its contract: the children so far, and where the trees that are left stand (`AskedUpto`).
use mathlib.Core.Path.{◌≡◌}
use mathlib.Core.List.{List, ◌++◌}
use Prim.Native.Nat.{ℕ}
use lib.ListN.{length, drop}
use Rattle.exchange.specs.Trees.{trees, Plans}
use Rattle.exchange.specs.Rows.{flattens}
use Rattle.exchange.proofs.PlacesRead.{AskedUpto}
use Rattle.exchange.proofs.places.asked_children.Given as goal

abbrev pub invariant-loop-i : goal.invariant-loop-i
invariant-loop-i l = (length l.asks ≡ length l.initial.asks)
    × ((ts : Plans) (rest : List (List ℕ)) → trees ts ≡ length l.facts → drop l.at l.rows ≡ flattens ts ++ rest → AskedUpto l.rows ts rest l.facts l.i l.next l.asks)
