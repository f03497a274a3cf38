-- `bench::store_moved` meets its contract: what is left to store, stored, is all of it stored (`stored_turn`).
use mathlib.Core.Path.{◌≡◌}
use lib.ListN.{length, drop}
use lib.Seq.{sets}
use Rattle.keys.specs.Lists.{permute}
use Rattle.keys.specs.Expressions.{gone_number}
use Rattle.bench.proofs.store_moved.Given as goal

abbrev pub invariant-loop-i : goal.invariant-loop-i
invariant-loop-i l = (length l.out ≡ length l.initial.out) × (sets l.out l.i (drop l.i (permute gone_number l.all l.at.list.now)) ≡ sets l.initial.out 0 (permute gone_number l.all l.at.list.now))
