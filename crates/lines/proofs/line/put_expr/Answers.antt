-- Kind, name and index, one after another.
use Rattle.lines.proofs.Lines.{expr_due}
use Rattle.lines.proofs.Pieces.{due_room, due_then, due_none}
use Rattle.lines.proofs.line.put_expr.Goals as goal

pub put_number_field-p-requires : goal.put_number_field-p-requires
put_number_field-p-requires c = rw c.kind.ensures (due_room (expr_due c.args.e.number c.requires))

pub put_number_field-q-requires : goal.put_number_field-q-requires
put_number_field-q-requires c = rw c.name.ensures (due_room (due_then (expr_due c.args.e.number c.requires) (rw c.kind.ensures at c.put_number_field-p.ensures)))

pub put_number_field-requires : goal.put_number_field-requires
put_number_field-requires c = rw c.index.ensures (due_room (due_then (due_then (expr_due c.args.e.number c.requires) (rw c.kind.ensures at c.put_number_field-p.ensures)) (rw c.name.ensures at c.put_number_field-q.ensures)))

pub returns : goal.returns
returns c = due_none (due_then (due_then (due_then (expr_due c.args.e.number c.requires) (rw c.kind.ensures at c.put_number_field-p.ensures)) (rw c.name.ensures at c.put_number_field-q.ensures)) (rw c.index.ensures at c.put_number_field.ensures))
