-- What is stored, with the numbers from i on, is the whole.
use mathlib.Core.Path.{◌≡◌}
use Prim.Native.Nat.{◌≤◌}
use lib.ListN.{length, drop}
use lib.Seq.{sets}
use Rattle.linekinds.specs.Reading.{row_values}
use Rattle.linekinds.proofs.pack.copy_numbers.Given as goal

abbrev pub invariant-loop-i : goal.invariant-loop-i
invariant-loop-i l = (l.i ≤ length l.rows) × (length l.out ≡ length l.initial.out) × (sets l.out l.i (drop l.i (row_values l.rows)) ≡ sets l.initial.out 0 (row_values l.rows))
