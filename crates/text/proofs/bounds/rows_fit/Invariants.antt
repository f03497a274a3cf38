-- `rows_fit` meets its contract: what is left is within its bounds exactly where all of it is.
use mathlib.Core.Path.{◌≡◌}
use lib.ListN.{length}
use Rattle.text.specs.Bounds.{fits_rows}
use Rattle.text.proofs.bounds.rows_fit.Given as goal

abbrev pub invariant-loop-bound : goal.invariant-loop-bound
invariant-loop-bound l =
    let bs = l.bound-iterator.a.rest.now in let fs = l.bound-iterator.b.rest.now in
    (fits_rows l.bounds l.rows ≡ fits_rows bs fs) × (length fs ≡ length bs)
