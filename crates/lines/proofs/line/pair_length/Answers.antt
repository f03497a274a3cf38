-- `pair_length` meets its contract: two numbers, two commas, a letter and an LF.
use native.Mathlib.Omega.{arith}
use Rattle.lines.proofs.Lines.{pair_long}
use Rattle.lines.proofs.line.pair_length.Goals as goal

pub returns-clause-exact : goal.returns-clause-exact
returns-clause-exact c = λ letter. omega (arith, pair_long c.args.a c.args.b letter, c.number_length.ensures.exact, c.number_length-2.ensures.exact)
