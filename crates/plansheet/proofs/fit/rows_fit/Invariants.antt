-- `fit::rows_fit` meets its contract: the rows before i fit and are each the first of its child and form (`Fitting`).
use Prim.Native.Nat.{ℕ, ◌<◌}
use Rattle.plansheet.proofs.Fitting.{Good}
use Rattle.plansheet.proofs.fit.rows_fit.Given as goal

abbrev pub invariant-loop-i : goal.invariant-loop-i
invariant-loop-i l = (j : ℕ) → j < l.i → Good l.target l.rows l.places l.facts l.xs.rows.now j
