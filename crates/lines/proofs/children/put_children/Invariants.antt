-- The lines from child `i` on are left to write.
use Rattle.std.specs.Prelude.{option_copied}
use Rattle.lines.proofs.Pieces.{Writing}
use Rattle.lines.proofs.ChildPieces.{child_piece}
use Rattle.lines.proofs.children.put_children.Given as goal

abbrev pub invariant-loop-i : goal.invariant-loop-i
invariant-loop-i l = Writing (child_piece (option_copied l.children.first) (option_copied l.children.others) l.held.lists.now l.held.counts.now) l.n l.initial.out l.at l.out l.p l.i
