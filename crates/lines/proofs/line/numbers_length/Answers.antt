-- `numbers_length` meets its contract: the length so far, with that of the fields from `i` on, is the line's.
use native.Mathlib.Omega.{arith}
use mathlib.Core.List.{map}
use Rattle.text.specs.declared.field.Field.TheVariants.{Number as number}
use Rattle.lines.specs.Fields.{number_field}
use Rattle.lines.proofs.Pieces.{adding_more, adding_done}
use Rattle.lines.proofs.Lines.{number_fields_lem, line_long}
use Rattle.lines.proofs.line.numbers_length.Goals as goal

pub loop-n-preserved : goal.loop-n-preserved
unfolding number_field
loop-n-preserved c = adding_more _ _ 2 21 _ _ c.loop-n.invariant c.loop-n-test.true _ (omega (arith, c.number_length.ensures.exact)) (omega (arith, c.number_length.ensures.few))

pub returns-clause-exact : goal.returns-clause-exact
returns-clause-exact c = let v = c.loop-n.invariant in line_long (map number c.args.list.now) (number_fields_lem c.args.list.now) _ (adding_done _ _ 2 21 _ _ v c.loop-n-test.false)
