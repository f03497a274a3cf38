-- `put_field` meets its contract: a comma, and digits where there is a number.
use mathlib.Core.Logic.{inl, inr}
use native.Mathlib.Omega.{arith}
use Rattle.text.specs.Write.{field_text}
use Rattle.text.proofs.Stores.{wrote_then, wrote_length}
use Rattle.text.proofs.write.put_field.Goals as goal

pub put_number-requires : goal.put_number-requires
unfolding field_text
put_number-requires c = omega (arith, rw c.in-Number.is at c.requires, c.put_byte-p.ensures.place, wrote_length c.put_byte-p.ensures)

pub returns-in-Number : goal.returns-in-Number
unfolding field_text
returns-in-Number c = rw c.in-Number.is (wrote_then c.put_byte-p.ensures c.put_number.ensures)

pub returns-in-Empty : goal.returns-in-Empty
unfolding field_text
returns-in-Empty c = elim c.in-Empty.is [ inl e ↦ rw e c.put_byte-p.ensures | inr e ↦ rw e c.put_byte-p.ensures ]
