-- `exprs_length` meets its contract: the length so far, with that of the expressions from `i` on, is the line's.
use mathlib.Core.List.{map}
use Rattle.text.specs.declared.field.Field.TheVariants.{Number as number}
use Rattle.keys.specs.Expressions.{expressions}
use Rattle.sheet.specs.KeyAnswers.{expr_numbers}
use Rattle.lines.proofs.Pieces.{adding_more, adding_done}
use Rattle.lines.proofs.Lines.{expr_fields_lem, line_long}
use Rattle.lines.proofs.line.exprs_length.Goals as goal

pub loop-e-preserved : goal.loop-e-preserved
loop-e-preserved c = adding_more _ _ 2 63 _ _ c.loop-e.invariant c.loop-e-test.true _ c.expr_length-length.ensures.exact c.expr_length-length.ensures.few

pub returns-clause-exact : goal.returns-clause-exact
returns-clause-exact c = let v = c.loop-e.invariant in line_long (map number (expr_numbers (expressions c.args.list.now))) (expr_fields_lem c.args.list.now) _ (adding_done _ _ 2 63 _ _ v c.loop-e-test.false)
