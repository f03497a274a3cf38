-- The forms of states that stand, or are finished, are numbers up to 15 at every place (`stand_small`, `finished_small`).
-- Assumes nothing.
use Prim.Native.Nat.{ℕ, zero, suc, ◌≤◌, ◌<◌}
use mathlib.Core.Path.{◌≡◌, refl, ap}
use mathlib.Core.List.{List}
use native.Mathlib.Omega.{arith}
use lib.ListN.{length, get_or}
use Rattle.exchange.specs.Facts.{Row}
use Rattle.exchange.specs.States.{Child, ChildState}
use Rattle.exchange.specs.Standings.{form_numbers}
use Rattle.exchange.specs.Turns.{Stand, nobody, next}
use Rattle.exchange.proofs.FinishedStates.{Finished, over, beside}

module _ (rows : List Row) where
  pub stand_small : {n : ℕ} {needs forms : List ℕ} {cs : List ChildState} → Stand rows n needs forms cs → (k : ℕ) → k < length needs → get_or forms k 0 ≤ 15
  stand_small nobody k h = absurd (omega arith)
  stand_small (next a b g small r rest) zero h = small
  stand_small (next a b g small r rest) (suc k) h = stand_small rest k (omega arith)

  pub stand_long : {n : ℕ} {needs forms : List ℕ} {cs : List ChildState} → Stand rows n needs forms cs → length forms ≡ length needs
  stand_long nobody = refl
  stand_long (next a b g small r rest) = ap suc (stand_long rest)

  pub finished_small : {ks : List Child} {cs : List ChildState} → Finished rows ks cs → (k : ℕ) → k < length ks → get_or (form_numbers cs) k 0 ≤ 15
  finished_small over k h = absurd (omega arith)
  finished_small (beside e rest) zero h = e.small
  finished_small (beside e rest) (suc k) h = finished_small rest k (omega arith)

  pub finished_long : {ks : List Child} {cs : List ChildState} → Finished rows ks cs → length (form_numbers cs) ≡ length ks
  finished_long over = refl
  finished_long (beside e rest) = ap suc (finished_long rest)
