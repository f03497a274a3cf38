-- The letter, the fields, the LF.
use Rattle.lines.proofs.Lines.{numbers_due}
use Rattle.lines.proofs.Pieces.{due_room, due_then, due_none}
use Rattle.lines.proofs.line.put_numbers.Goals as goal

pub put_byte-p-requires : goal.put_byte-p-requires
put_byte-p-requires c = due_room (numbers_due c.args.letter c.args.list.now c.requires)

pub put_number_fields-q-requires : goal.put_number_fields-q-requires
put_number_fields-q-requires c = due_room (due_then (numbers_due c.args.letter c.args.list.now c.requires) c.put_byte-p.ensures)

pub put_byte-requires : goal.put_byte-requires
put_byte-requires c = due_room (due_then (due_then (numbers_due c.args.letter c.args.list.now c.requires) c.put_byte-p.ensures) c.put_number_fields-q.ensures)

pub returns : goal.returns
returns c = due_none (due_then (due_then (due_then (numbers_due c.args.letter c.args.list.now c.requires) c.put_byte-p.ensures) c.put_number_fields-q.ensures) c.put_byte.ensures)
