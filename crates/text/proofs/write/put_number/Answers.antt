-- `put_number` meets its contract: one, two or three digits, or digits that end where the length says.
use native.Mathlib.Omega.{arith}
use Rattle.text.proofs.Decimal.{decimal_one, decimal_some, decimal_more, length_more}
use Rattle.text.proofs.Stores.{wrote_then, wrote_length}
use Rattle.text.proofs.Writing.{wrote_to}
use Rattle.text.proofs.write.put_number.Goals as goal

pub put_byte-requires : goal.put_byte-requires
put_byte-requires c = omega (arith, decimal_some c.args.n)

pub returns-then-n-lt10 : goal.returns-then-n-lt10
returns-then-n-lt10 c = rw (decimal_one c.args.n (omega arith), ← c.digit.ensures) c.put_byte.ensures

-- three digits: the tenth, and the last one behind it
pub put_two-p-requires : goal.put_two-p-requires
put_two-p-requires c = (omega arith, omega arith, omega (arith, c.requires, length_more c.args.n (omega arith)))

pub put_byte-requires-then-n-lt1000 : goal.put_byte-requires-then-n-lt1000
put_byte-requires-then-n-lt1000 c = let w = c.put_two-p.ensures in omega (arith, c.requires, length_more c.args.n (omega arith), w.place, wrote_length w)

pub returns-then-n-lt1000 : goal.returns-then-n-lt1000
returns-then-n-lt1000 c = let e = c.digit-then-n-lt1000.ensures in rw (decimal_more c.args.n (omega arith), ← e) (wrote_then c.put_two-p.ensures c.put_byte-then-n-lt1000.ensures)

pub returns : goal.returns
returns c = wrote_to _ _ _ _ _ (omega (arith, c.number_length.ensures.exact)) c.put_digits.ensures
