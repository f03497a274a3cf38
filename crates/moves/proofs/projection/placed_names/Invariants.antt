-- The numbers so far, before those of the names that are left, are all; as many as were taken are gone from either list.
use mathlib.Core.Path.{◌≡◌}
use mathlib.Core.List.{◌++◌}
use Prim.Native.Nat.{◌+◌, ◌*◌}
use lib.ListN.{length, take}
use Rattle.keys.specs.Adjust.{placed_names}
use Rattle.sheet.specs.KeyAnswers.{projected_numbers}
use Rattle.moves.proofs.projection.placed_names.Given as goal

abbrev pub invariant-loop-i : goal.invariant-loop-i
invariant-loop-i l = let n = l.i-iterator.count in let names = l.i-iterator.iter.a.rest.now in let places = l.i-iterator.iter.b.rest.now in
    (length l.out ≡ 128)
    × (take (2 * n) l.out ++ projected_numbers (placed_names names places) ≡ projected_numbers (placed_names l.o l.places))
    × (n + length names ≡ length l.o)
    × (n + length places ≡ length l.places)
