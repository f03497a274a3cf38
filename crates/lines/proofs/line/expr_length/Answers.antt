-- `expr_length` meets its contract: three numbers and three commas.
use native.Mathlib.Omega.{arith}
use Rattle.lines.proofs.Lines.{expr_long}
use Rattle.lines.proofs.line.expr_length.Goals as goal

pub returns-clause-exact : goal.returns-clause-exact
returns-clause-exact c = omega (
  arith,
  expr_long c.args.e.number,
  rw c.kind.ensures at c.number_length.ensures.exact,
  rw c.name.ensures at c.number_length-2.ensures.exact,
  rw c.index.ensures at c.number_length-3.ensures.exact,
)
