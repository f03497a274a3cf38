-- The letter, two fields, the LF.
use Rattle.lines.proofs.Lines.{pair_due}
use Rattle.lines.proofs.Pieces.{due_room, due_then, due_none}
use Rattle.lines.proofs.line.put_pair.Goals as goal

pub put_byte-p-requires : goal.put_byte-p-requires
put_byte-p-requires c = due_room (pair_due c.args.letter c.args.a c.args.b c.requires)

pub put_number_field-q-requires : goal.put_number_field-q-requires
put_number_field-q-requires c = due_room (due_then (pair_due c.args.letter c.args.a c.args.b c.requires) c.put_byte-p.ensures)

pub put_number_field-e-requires : goal.put_number_field-e-requires
put_number_field-e-requires c = due_room (due_then (due_then (pair_due c.args.letter c.args.a c.args.b c.requires) c.put_byte-p.ensures) c.put_number_field-q.ensures)

pub put_byte-requires : goal.put_byte-requires
put_byte-requires c = due_room (due_then (due_then (due_then (pair_due c.args.letter c.args.a c.args.b c.requires) c.put_byte-p.ensures) c.put_number_field-q.ensures) c.put_number_field-e.ensures)

pub returns : goal.returns
returns c = due_none (due_then (due_then (due_then (due_then (pair_due c.args.letter c.args.a c.args.b c.requires) c.put_byte-p.ensures) c.put_number_field-q.ensures) c.put_number_field-e.ensures) c.put_byte.ensures)
