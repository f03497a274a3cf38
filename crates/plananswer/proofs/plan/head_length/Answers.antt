-- `head_length` meets its contract: four numbers, four commas, a letter and an LF.
use native.Mathlib.Omega.{arith}
use Rattle.plananswer.proofs.RowLines.{head_long}
use Rattle.plananswer.proofs.plan.head_length.Goals as goal

pub returns-clause-exact : goal.returns-clause-exact
returns-clause-exact c = let a = c.args.head in omega (
  arith,
  head_long a.changed a.window a.interleave a.tracked,
  c.number_length.ensures.exact,
  c.number_length-2.ensures.exact,
  c.number_length-3.ensures.exact,
  c.number_length-4.ensures.exact,
)
