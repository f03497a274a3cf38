-- `put_expr_fields` meets its contract: the expressions from `i` on are left to write.
use Rattle.lines.proofs.Pieces.{writing_first, writing_room, writing_more, writing_done}
use Rattle.lines.proofs.Lines.{expr_fields_lem}
use Rattle.lines.proofs.line.put_expr_fields.Goals as goal

pub loop-e-init : goal.loop-e-init
loop-e-init c = writing_first _ _ _ _ (rw (expr_fields_lem c.args.list.now) at c.requires)

pub put_expr-p-requires : goal.put_expr-p-requires
put_expr-p-requires c = writing_room _ _ _ _ _ _ _ c.loop-e.invariant c.loop-e-test.true

pub loop-e-preserved : goal.loop-e-preserved
loop-e-preserved c = writing_more _ _ _ _ _ _ _ c.loop-e.invariant c.loop-e-test.true _ _ c.put_expr-p.ensures

pub returns : goal.returns
returns c = rw (expr_fields_lem c.args.list.now) (writing_done _ _ _ _ _ _ _ c.loop-e.invariant c.loop-e-test.false)
