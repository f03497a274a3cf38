-- `put_plan_again` meets its contract, by the room for the sheet's bytes.
use Rattle.std.proofs.Common.{arith}
use Rattle.lines.proofs.Room.{room_written}
use Rattle.plananswer.specs.SheetTexts.{sheet_rows_text}
use Rattle.lochkave.proofs.again.put_plan_again.Goals as goal

pub put_plan_sheet-requires : goal.put_plan_sheet-requires
put_plan_sheet-requires c = omega (arith, c.requires, c.if-out-bytes.false)

pub returns : goal.returns
returns c = let a = c.args in
    room_written a.out.now (sheet_rows_text a.held.settings a.held.tree.now a.held.node a.held.children.now a.held.facts.now a.held.masks.now) (omega (arith, c.if-out-bytes.false, c.requires)) _ _ c.put_plan_sheet.ensures
