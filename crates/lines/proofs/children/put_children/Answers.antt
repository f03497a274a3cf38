-- The lines from child `i` on are left to write.
use Rattle.std.specs.Prelude.{option_copied}
use Rattle.lines.proofs.Pieces.{writing_first, writing_room, writing_more, writing_done}
use Rattle.lines.proofs.ChildPieces.{children_pieces}
use Rattle.lines.proofs.children.put_children.Goals as goal

pub loop-i-init : goal.loop-i-init
loop-i-init c = let x = c.args.children in let h = c.args.held in
    writing_first _ _ _ _ (rw (children_pieces (option_copied x.first) (option_copied x.others) h.lists.now h.counts.now c.args.n) at c.requires.4)

pub put_exprs-p-requires : goal.put_exprs-p-requires
put_exprs-p-requires c = rw (c.child_list.ensures, c.list.ensures) (writing_room _ _ _ _ _ _ _ c.loop-i.invariant c.loop-i-test.true)

pub loop-i-preserved : goal.loop-i-preserved
loop-i-preserved c = writing_more _ _ _ _ _ _ _ c.loop-i.invariant c.loop-i-test.true _ _ (rw (c.child_list.ensures, c.list.ensures) at c.put_exprs-p.ensures)

pub returns : goal.returns
returns c = let x = c.args.children in let h = c.args.held in
    rw (children_pieces (option_copied x.first) (option_copied x.others) h.lists.now h.counts.now c.args.n) (writing_done _ _ _ _ _ _ _ c.loop-i.invariant c.loop-i-test.false)
