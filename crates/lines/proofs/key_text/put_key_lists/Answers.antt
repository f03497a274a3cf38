-- Seven lines, one after another.
use Rattle.lines.proofs.Dues.{key_due}
use Rattle.lines.proofs.Pieces.{due_room, due_then, due_none}
use Rattle.lines.proofs.key_text.put_key_lists.Goals as goal

pub put_pair-at_p-requires : goal.put_pair-at_p-requires
put_pair-at_p-requires c = due_room (key_due c.args.x.now c.args.out.now c.requires)

pub put_numbers-at_r-requires : goal.put_numbers-at_r-requires
put_numbers-at_r-requires c = due_room (due_then (key_due c.args.x.now c.args.out.now c.requires) c.put_pair-at_p.ensures)

pub put_exprs-at_l-requires : goal.put_exprs-at_l-requires
put_exprs-at_l-requires c = due_room (due_then (due_then (key_due c.args.x.now c.args.out.now c.requires) c.put_pair-at_p.ensures) c.put_numbers-at_r.ensures)

pub put_exprs-at_g-requires : goal.put_exprs-at_g-requires
put_exprs-at_g-requires c = due_room (due_then (due_then (due_then (key_due c.args.x.now c.args.out.now c.requires) c.put_pair-at_p.ensures) c.put_numbers-at_r.ensures) c.put_exprs-at_l.ensures)

pub put_exprs-at_s-requires : goal.put_exprs-at_s-requires
put_exprs-at_s-requires c = due_room (due_then (due_then (due_then (due_then (key_due c.args.x.now c.args.out.now c.requires) c.put_pair-at_p.ensures) c.put_numbers-at_r.ensures) c.put_exprs-at_l.ensures) c.put_exprs-at_g.ensures)

pub put_numbers-at_j-requires : goal.put_numbers-at_j-requires
put_numbers-at_j-requires c = due_room (due_then (due_then (due_then (due_then (due_then (key_due c.args.x.now c.args.out.now c.requires) c.put_pair-at_p.ensures) c.put_numbers-at_r.ensures) c.put_exprs-at_l.ensures) c.put_exprs-at_g.ensures) c.put_exprs-at_s.ensures)

pub put_numbers-requires : goal.put_numbers-requires
put_numbers-requires c = due_room (due_then (due_then (due_then (due_then (due_then (due_then (key_due c.args.x.now c.args.out.now c.requires) c.put_pair-at_p.ensures) c.put_numbers-at_r.ensures) c.put_exprs-at_l.ensures) c.put_exprs-at_g.ensures) c.put_exprs-at_s.ensures) c.put_numbers-at_j.ensures)

pub returns : goal.returns
returns c = due_none (due_then (due_then (due_then (due_then (due_then (due_then (due_then (key_due c.args.x.now c.args.out.now c.requires) c.put_pair-at_p.ensures) c.put_numbers-at_r.ensures) c.put_exprs-at_l.ensures) c.put_exprs-at_g.ensures) c.put_exprs-at_s.ensures) c.put_numbers-at_j.ensures) c.put_numbers.ensures)
