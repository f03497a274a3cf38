-- `put_again` meets its contract, by the room for the sheet's bytes.
use Rattle.std.proofs.Common.{arith}
use Rattle.lines.proofs.Room.{room_written}
use Rattle.sheet.specs.Held.{held_text}
use Rattle.lochkave.proofs.again.put_again.Goals as goal

pub put_sheet-requires : goal.put_sheet-requires
put_sheet-requires c = let q = c.requires in (q.lines.0, q.lines.1, q.counts, omega (arith, q.bytes, c.if-out-bytes.false))

pub returns : goal.returns
returns c = let a = c.args in
    room_written a.out.now (held_text a.kind a.held.lists.now a.held.counts.now 0 a.n) (omega (arith, c.if-out-bytes.false, c.requires.bytes)) _ _ c.put_sheet.ensures
