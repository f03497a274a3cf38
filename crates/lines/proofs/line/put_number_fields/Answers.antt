-- `put_number_fields` meets its contract: the fields from `i` on are left to write.
use Rattle.lines.proofs.Pieces.{writing_first, writing_room, writing_more, writing_done}
use Rattle.lines.proofs.Lines.{number_fields_lem}
use Rattle.lines.proofs.line.put_number_fields.Goals as goal

pub loop-n-init : goal.loop-n-init
loop-n-init c = writing_first _ _ _ _ (rw (number_fields_lem c.args.list.now) at c.requires)

pub put_number_field-p-requires : goal.put_number_field-p-requires
put_number_field-p-requires c = writing_room _ _ _ _ _ _ _ c.loop-n.invariant c.loop-n-test.true

pub loop-n-preserved : goal.loop-n-preserved
loop-n-preserved c = writing_more _ _ _ _ _ _ _ c.loop-n.invariant c.loop-n-test.true _ _ c.put_number_field-p.ensures

pub returns : goal.returns
returns c = rw (number_fields_lem c.args.list.now) (writing_done _ _ _ _ _ _ _ c.loop-n.invariant c.loop-n-test.false)
