-- `linekinds::pack::pack_exprs` meets its contract. The array filled so far, with what is left, is its front and the entries packed.
use mathlib.Core.Path.{◌≡◌}
use mathlib.Core.List.{◌++◌}
use Prim.Native.Nat.{◌+◌}
use lib.ListN.{length, take, drop}
use Rattle.linekinds.proofs.Packing.{packed_behind}
use Rattle.linekinds.proofs.pack.pack_exprs.Given as goal

abbrev pub invariant-loop-i : goal.invariant-loop-i
invariant-loop-i l =
    let n = l.from + l.i in
    (length l.out ≡ 64) × (take n l.out ++ drop n (packed_behind l.from l.initial.out l.entries) ≡ packed_behind l.from l.initial.out l.entries)
