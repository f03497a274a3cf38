-- The letter, the mark, the expressions, the LF; where there is no mark, a line of nothing.
use Rattle.lines.proofs.HeldLines.{input_due, behind_first}
use Rattle.lines.proofs.Pieces.{due_room, due_then, due_none}
use Rattle.lines.proofs.sheet_text.put_input.Goals as goal

pub put_byte-p-requires : goal.put_byte-p-requires
put_byte-p-requires c = due_room (input_due c.args.letter c.args.list.now c.requires)

pub put_number_fields-q-requires : goal.put_number_fields-q-requires
put_number_fields-q-requires c = due_room (due_then (input_due c.args.letter c.args.list.now c.requires) c.put_byte-p.ensures)

pub put_expr_fields-e-requires : goal.put_expr_fields-e-requires
put_expr_fields-e-requires c = rw (behind_first c.args.list.now) (due_room (due_then (due_then (input_due c.args.letter c.args.list.now c.requires) c.put_byte-p.ensures) c.put_number_fields-q.ensures))

pub put_byte-requires : goal.put_byte-requires
put_byte-requires c = due_room (due_then (due_then (due_then (input_due c.args.letter c.args.list.now c.requires) c.put_byte-p.ensures) c.put_number_fields-q.ensures) (rw (behind_first c.args.list.now) at c.put_expr_fields-e.ensures))

pub returns : goal.returns
returns c = due_none (due_then (due_then (due_then (due_then (input_due c.args.letter c.args.list.now c.requires) c.put_byte-p.ensures) c.put_number_fields-q.ensures) (rw (behind_first c.args.list.now) at c.put_expr_fields-e.ensures)) c.put_byte.ensures)
