-- `put_number_field` meets its contract: a comma, and the digits behind it.
use native.Mathlib.Omega.{arith}
use Rattle.text.proofs.Stores.{wrote_then, wrote_length}
use Rattle.lines.specs.Fields.{number_field}
use Rattle.lines.proofs.line.put_number_field.Goals as goal

pub put_byte-p-requires : goal.put_byte-p-requires
unfolding number_field
put_byte-p-requires c = omega arith

pub put_number-requires : goal.put_number-requires
unfolding number_field
put_number-requires c = omega (arith, c.put_byte-p.ensures.place, wrote_length c.put_byte-p.ensures)

pub returns : goal.returns
unfolding number_field
returns c = wrote_then c.put_byte-p.ensures c.put_number.ensures
