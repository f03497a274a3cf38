-- A number that ends past the bytes of a sheet is the only one there (`number_ends`).
use mathlib.Core.Path.{refl}
use native.Mathlib.Omega.{arith}
use Rattle.numberlines.proofs.OneNumber.{number_ends}
use Rattle.numberlines.proofs.Numbers.{number_is}
use Rattle.numberlines.proofs.row.last_to.Goals as goal

pub returns-then-number-ge-MOST_BYTES : goal.returns-then-number-ge-MOST_BYTES
returns-then-number-ge-MOST_BYTES c =
    let o' = number_is _ _ _ c.number_to.result c.number_to.ensures c.in_ok-number.number c.in_ok-number.ensures.value in
    (refl, λ n end o l. omega (arith, number_ends _ _ n end 10 _ _ 10 (omega arith) (omega arith) o o', l, c.if-number-ge-MOST_BYTES.true))
