-- The lines from line `i` on are left to write.
use mathlib.Core.Path.{ap}
use lib.ListN.{length}
use native.Mathlib.Omega.{arith}
use Rattle.lines.proofs.Pieces.{writing_first, writing_room, writing_more, writing_done}
use Rattle.lines.proofs.HeldLines.{held_pieces}
use Rattle.lines.proofs.sheet_text.put_sheet.Goals as goal

pub loop-i-init : goal.loop-i-init
loop-i-init c = let h = c.args.held in writing_first _ _ _ _ (omega (arith, c.requires.3, ap length (held_pieces c.args.k h.lists.now h.counts.now c.args.n 0)))

pub put_held-p-requires : goal.put_held-p-requires
put_held-p-requires c = rw (c.letter.ensures, c.codes.ensures, c.list.ensures) (writing_room _ _ _ _ _ _ _ c.loop-i.invariant c.loop-i-test.true)

pub loop-i-preserved : goal.loop-i-preserved
loop-i-preserved c = writing_more _ _ _ _ _ _ _ c.loop-i.invariant c.loop-i-test.true _ _ (rw (c.letter.ensures, c.codes.ensures, c.list.ensures) at c.put_held-p.ensures)

pub returns : goal.returns
returns c = let h = c.args.held in rw (held_pieces c.args.k h.lists.now h.counts.now c.args.n 0) (writing_done _ _ _ _ _ _ _ c.loop-i.invariant c.loop-i-test.false)
