-- The columns packed so far, before the columns left, are all (`columns_turn`).
use Prim.Native.Nat.{◌+◌, ◌*◌}
use mathlib.Core.Path.{◌≡◌}
use native.Mathlib.Omega.{arith}
use lib.ListN.{get_or, length-set}
use Rattle.keys.proofs.Lists.{below_at}
use Rattle.keys.proofs.Names.{columns_turn}
use Rattle.adjust.proofs.aggregate.group_columns.Goals as goal

pub pack-requires : goal.pack-requires
pack-requires c = (omega arith, below_at 65536 c.args.groups.now c.loop-i.i c.requires.1 c.loop-i-test.true, omega arith)

pub loop-i-preserved : goal.loop-i-preserved
loop-i-preserved c = let i = c.loop-i.i in let t = c.loop-i-test.true in
    let e : c.pack.result.number ≡ get_or c.args.groups.now i 0 * 65536 + i = omega (arith, c.pack.ensures) in (
      simp length-set c.loop-i.invariant.0,
      rw e (columns_turn c.args.groups.now c.loop-i.out i c.loop-i.invariant.1 t (omega (arith, c.loop-i.invariant.0)) (omega arith) (below_at 65536 c.args.groups.now i c.requires.1 t)),
    )
