-- `join_lists_length` meets its contract: the lengths of the five lines, added.
use native.Mathlib.Omega.{arith}
use Rattle.lines.proofs.AnswerParts.{join_long}
use Rattle.lines.proofs.join_text.join_lists_length.Goals as goal

pub returns-clause-exact : goal.returns-clause-exact
returns-clause-exact c = let long = join_long c.args.x.now.report c.args.x.now.followed c.args.x.now.positions.now c.args.x.now.left.now c.args.x.now.right.now c.args.x.now.directions.now in omega (arith, long, c.pair_length.ensures.exact 105, c.numbers_length.ensures.exact 80, c.exprs_length.ensures.exact 76, c.exprs_length-2.ensures.exact 71, c.numbers_length-2.ensures.exact 83)
