-- `linekinds::plain::entries_at` meets its contract. What was packed so far stands on the line so far (`entries_more`).
use Prim.Native.Nat.{◌<◌}
use native.Mathlib.Omega.{arith}
use lib.ListN.{length-set}
use Rattle.linekinds.proofs.PlainText.{entries_none, entries_more, entry_goes, entries_found}
use Rattle.linekinds.proofs.plain.entries_at.Goals as goal

pub loop-at-init : goal.loop-at-init
loop-at-init c = (c.told-list, c.requires.0, entries_none _ _ _ _)

pub loop-at-smaller : goal.loop-at-smaller
loop-at-smaller c =
    let h = c.stands.ensures.0 c.loop-at-test.true in
    let g = entry_goes _ _ _ _ c.in_ok-entry.ensures h.0 in
    omega (arith, h.0, g.0, g.1)

pub loop-at-preserved : goal.loop-at-preserved
loop-at-preserved c =
    let v = c.loop-at.invariant in
    let free : c.loop-at.n < 64 = omega (arith, v.1, c.requires.1) in
    (simp length-set v.0, omega (arith, v.1), entries_more _ _ _ _ _ _ _ _ c.loop-at.list v.2 c.in_ok-entry.ensures (omega (arith, v.0, free)))

pub returns : goal.returns
returns c = let v = c.loop-at.invariant in let a = c.args in (v.0, entries_found a.s.now a.at a.from a.most c.loop-at.n c.loop-at.p a.list.now c.loop-at.list v.2 v.1 c.line_end.result c.line_end.ensures)
