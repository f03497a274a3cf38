-- `fit::within_bits` meets its contract: none is left where the first n bits are shifted out (`Fitting`).
use mathlib.Core.Path.{sym}
use native.Mathlib.Omega.{arith}
use borrow.Author.Tests.{le-leb}
use Rattle.std.proofs.Math.Pow.{pow_mono}
use Rattle.plansheet.proofs.Fitting.{within_shifted, within_wide}
use Rattle.plansheet.proofs.fit.within_bits.Goals as goal

pub returns-then-n-from : goal.returns-then-n-from
returns-then-n-from c =
    let a = c.args in
    rw (le-leb _ _ c.if-n-from.true) (sym (within_wide a.n a.mask (omega (arith, c.ranges.mask.fits, pow_mono {i = 64} {j = a.n} (omega (arith, c.from.ensures, c.if-n-from.true))))))

pub returns-else-n-from : goal.returns-else-n-from
returns-else-n-from c = sym (within_shifted c.args.n c.args.mask)
