-- `write_plan` meets its contract, by the room for the answer's text.
use Rattle.std.proofs.Common.{arith}
use Rattle.plananswer.specs.RowTexts.{rows_text}
use Rattle.lines.proofs.Room.{room_written}
use Rattle.plananswer.proofs.plan.write_plan.Goals as goal

pub returns : goal.returns
returns c = let a = c.args in
    room_written a.out.now (rows_text a.head.changed a.head.window a.head.interleave a.head.tracked a.answer.rows.now) (omega (arith, c.if-out-plan_text_length.false, c.plan_text_length.ensures)) _ _ c.put_plan.ensures
