-- `put_line` meets its contract: what is left of the line is written from `p` on.
use mathlib.Core.Path.{◌∙◌}
use mathlib.Core.List.{map}
use native.Mathlib.Omega.{arith}
use Rattle.text.specs.Write.{row_field}
use Rattle.text.proofs.Lengths.{line_length}
use Rattle.text.proofs.Stores.{wrote_length}
use Rattle.text.proofs.Writing.{line_first, line_room, line_more, line_last, line_done}
use Rattle.text.proofs.write.put_line.Goals as goal

pub put_byte-p-requires : goal.put_byte-p-requires
put_byte-p-requires c = omega (arith, line_length c.args.letter (map row_field c.args.rows.now))

pub loop-row-init : goal.loop-row-init
loop-row-init c = line_first _ _ _ _ (omega arith) _ _ c.put_byte-p.ensures

pub put_field-p-requires : goal.put_field-p-requires
put_field-p-requires c = rw c.of_row.ensures (line_room _ _ _ _ _ _ c.loop-row.invariant (omega arith))

pub loop-row-preserved : goal.loop-row-preserved
loop-row-preserved c = line_more _ _ _ _ _ _ c.loop-row.invariant (omega arith) _ _ (rw c.of_row.ensures at c.put_field-p.ensures)

pub put_byte-requires : goal.put_byte-requires
put_byte-requires c = line_last _ _ _ _ _ _ c.loop-row.invariant (omega arith)

pub shape_of-out : goal.shape_of-out
shape_of-out c = wrote_length c.put_byte.ensures ∙ c.loop-row.invariant.room ∙ wrote_length c.put_byte-p.ensures

pub returns : goal.returns
returns c = line_done _ _ _ _ _ _ c.loop-row.invariant (omega arith) _ _ _ c.put_byte-p.ensures _ _ c.put_byte.ensures
