-- `key_lists_length` meets its contract: the lengths of the seven lines, added.
use native.Mathlib.Omega.{arith}
use Rattle.lines.proofs.AnswerParts.{key_long}
use Rattle.lines.proofs.key_text.key_lists_length.Goals as goal

pub returns-clause-exact : goal.returns-clause-exact
returns-clause-exact c = let long = key_long c.args.x.now.changed c.args.x.now.report c.args.x.now.positions.now c.args.x.now.required.now c.args.x.now.left.now c.args.x.now.right.now c.args.x.now.directions.now c.args.x.now.projection.now in omega (arith, long, c.pair_length.ensures.exact 107, c.numbers_length.ensures.exact 80, c.exprs_length.ensures.exact 82, c.exprs_length-2.ensures.exact 76, c.exprs_length-3.ensures.exact 71, c.numbers_length-2.ensures.exact 83, c.numbers_length-3.ensures.exact 74)
