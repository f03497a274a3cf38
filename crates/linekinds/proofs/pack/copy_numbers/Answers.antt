-- What is stored, with the numbers from i on, is the whole (`copy_more`).
use mathlib.Core.Path.{◌∙◌}
use native.Mathlib.Omega.{arith}
use lib.ListN.{length-set}
use Rattle.linekinds.proofs.Packing.{copy_more}
use Rattle.linekinds.proofs.pack.copy_numbers.Goals as goal

pub loop-i-preserved : goal.loop-i-preserved
loop-i-preserved c = let l = c.loop-i in (omega arith, simp length-set l.invariant.1, copy_more c.args.rows.now l.out l.i c.loop-i-test.true ∙ l.invariant.2)
