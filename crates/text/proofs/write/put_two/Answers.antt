-- `put_two` meets its contract: the digit of the tenth, and the last one behind it.
use Prim.Native.Nat.{◌/◌}
use native.Mathlib.Omega.{arith}
use Rattle.text.proofs.Decimal.{decimal_one, decimal_more, length_more, length_one}
use Rattle.text.proofs.Stores.{wrote_then, wrote_length}
use Rattle.text.proofs.write.put_two.Goals as goal

pub put_byte-p-requires : goal.put_byte-p-requires
put_byte-p-requires c = omega (arith, c.requires.2, length_more c.args.n c.requires.0)

pub put_byte-requires : goal.put_byte-requires
put_byte-requires c = let n = c.args.n in let w = c.put_byte-p.ensures in omega (arith, c.requires.2, length_more n c.requires.0, length_one (n / 10) (omega (arith, c.requires.1)), w.place, wrote_length w)

pub returns : goal.returns
returns c = let n = c.args.n in let d = c.digit.ensures in let e = c.digit-2.ensures in rw (decimal_more n c.requires.0, decimal_one (n / 10) (omega (arith, c.requires.1)), ← d, ← e) (wrote_then c.put_byte-p.ensures c.put_byte.ensures)
