-- `exchange::order::kept_entries` meets its contract. The mask so far is that of the entries from i on, which is below 2 to the number of them (`Handled`).
use Prim.Native.Nat.{◌-◌, ◌/◌, ◌^◌}
use native.Mathlib.Omega.{arith}
use Rattle.exchange.proofs.Handled.{kept_small, kept_none, kept_turn, kept_all}
use Rattle.exchange.proofs.order.kept_entries.Goals as goal

pub loop-i-init : goal.loop-i-init
loop-i-init c = kept_none (c.args.n - c.args.n) _ (omega arith)

pub overflow_mul-kept : goal.overflow_mul-kept
overflow_mul-kept c = let l = c.loop-i in omega (arith, kept_small (c.args.n - l.i) (c.args.constants / 2 ^ l.i) (omega (arith, c.requires)), l.invariant)

pub overflow_add-kept : goal.overflow_add-kept
overflow_add-kept c = let l = c.loop-i in
    let on = kept_turn c.args.n l.i c.args.constants l.kept c.from.result c.loop-i-test.true l.auto.i l.invariant c.from.ensures in
    omega (arith, on, kept_small (c.args.n - (l.i - 1)) (c.args.constants / 2 ^ (l.i - 1)) (omega (arith, c.requires)))

pub loop-i-preserved : goal.loop-i-preserved
loop-i-preserved c = let l = c.loop-i in kept_turn c.args.n l.i c.args.constants l.kept c.from.result c.loop-i-test.true l.auto.i l.invariant c.from.ensures

pub returns : goal.returns
returns c = kept_all c.args.n c.loop-i.i c.args.constants (omega (arith, c.loop-i-test.false)) c.loop-i.invariant
