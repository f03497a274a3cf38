-- `line::sets_of` meets its contract: 2 to the number of children, of which nothing is shifted out.
use mathlib.Core.Path.{sym, ◌∙◌}
use native.Mathlib.Omega.{arith}
use Rattle.std.proofs.Math.Pow.{shl_exact}
use Rattle.plansheet.proofs.FineLines.{two_power}
use Rattle.plansheet.proofs.line.sets_of.Goals as goal

pub returns : goal.returns
returns c = let n = c.args.n in shl_exact 1 n 64 (omega arith) (omega (arith, c.requires)) ∙ rw (sym (two_power n)) (omega arith)
