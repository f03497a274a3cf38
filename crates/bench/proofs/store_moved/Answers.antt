-- `bench::store_moved` meets its contract: what is left to store, stored, is all of it stored (`stored_turn`).
use mathlib.Core.Path.{sym, ap, ◌∙◌}
use Prim.Native.Nat.{◌<◌}
use lib.ListN.{length, get_or, length-set, length-map, get_or-map}
use Rattle.std.proofs.lemmas.List.{get_or_default}
use Rattle.keys.specs.Lists.{permute}
use Rattle.keys.specs.Expressions.{gone_number}
use Rattle.bench.proofs.Storing.{stored_turn}
use Rattle.bench.proofs.store_moved.Goals as goal

pub loop-i-preserved : goal.loop-i-preserved
loop-i-preserved c = let k = c.args.all.now in let ps = c.args.at.list.now in let i = c.loop-i.i in let t = c.loop-i-test.true in let h : i < length (permute gone_number k ps) = rw (length-map ps) t in
    let stored = c.store.ensures in let value = c.entry.ensures ∙ sym (get_or-map (λ p. get_or k p gone_number) ps i 0) ∙ get_or_default (permute gone_number k ps) i (get_or k 0 gone_number) 0 h in (
      ap length stored ∙ simp length-set c.loop-i.invariant.0,
      rw (stored, value) (sym (stored_turn c.loop-i.out (permute gone_number k ps) i h) ∙ c.loop-i.invariant.1),
    )
