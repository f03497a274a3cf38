-- The length so far, with that of the lines from child `i` on, is that of all.
use Rattle.std.specs.Prelude.{option_copied}
use Rattle.lines.proofs.Pieces.{Adding}
use Rattle.lines.proofs.ChildPieces.{child_piece}
use Rattle.lines.proofs.children.children_length.Given as goal

abbrev pub invariant-loop-i : goal.invariant-loop-i
invariant-loop-i l = Adding (child_piece (option_copied l.children.first) (option_copied l.children.others) l.held.lists.now l.held.counts.now) l.n 0 4096 l.length l.i
