-- `linekinds::plain::numbers_at` meets its contract. What was read so far stands on the line so far (`numbers_more`).
use Prim.Native.Nat.{◌<◌}
use native.Mathlib.Omega.{arith}
use lib.ListN.{length-set}
use Rattle.linekinds.proofs.PlainText.{numbers_none, numbers_more, field_goes, numbers_found}
use Rattle.linekinds.proofs.plain.numbers_at.Goals as goal

pub loop-at-init : goal.loop-at-init
loop-at-init c = (c.told-list, omega arith, numbers_none _ _ _ _)

pub loop-at-smaller : goal.loop-at-smaller
loop-at-smaller c =
    let h = c.stands.ensures.0 c.loop-at-test.true in
    let g = field_goes _ _ _ c.in_ok-number.ensures h.0 in
    omega (arith, h.0, g.0, g.1)

pub loop-at-preserved : goal.loop-at-preserved
loop-at-preserved c =
    let v = c.loop-at.invariant in
    let free : c.loop-at.n < 32 = omega (arith, v.1) in
    (simp length-set v.0, omega (arith, free), numbers_more _ _ _ _ _ _ c.loop-at.list v.2 c.in_ok-number.ensures (omega arith) (omega (arith, v.0, free)))

pub returns : goal.returns
returns c = let v = c.loop-at.invariant in let a = c.args in (v.0, numbers_found a.s.now a.at a.largest c.loop-at.n c.loop-at.p c.loop-at.list v.2 v.1 c.line_end.result c.line_end.ensures)
