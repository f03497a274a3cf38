-- `exchange::places::child_places` meets its contract: the places so far, and where the trees that are left stand (`Upto`).
use mathlib.Core.Path.{◌≡◌}
use mathlib.Core.List.{List, ◌++◌}
use Prim.Native.Nat.{ℕ}
use lib.ListN.{length, drop}
use Rattle.exchange.specs.Trees.{trees, Plans}
use Rattle.exchange.specs.Rows.{flattens}
use Rattle.exchange.proofs.PlacesRead.{Upto}
use Rattle.exchange.proofs.places.child_places.Given as goal

abbrev pub invariant-loop-place : goal.invariant-loop-place
invariant-loop-place l = (ts : Plans) (rest : List (List ℕ)) → trees ts ≡ length l.initial.places → drop l.at l.rows ≡ flattens ts ++ rest → Upto l.rows l.at ts rest l.place-index l.next l.places
