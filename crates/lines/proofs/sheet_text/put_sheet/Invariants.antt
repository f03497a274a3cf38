-- The lines from line `i` on are left to write.
use Rattle.lines.proofs.Pieces.{Writing}
use Rattle.lines.proofs.HeldLines.{held_piece}
use Rattle.lines.proofs.sheet_text.put_sheet.Given as goal

abbrev pub invariant-loop-i : goal.invariant-loop-i
invariant-loop-i l = Writing (held_piece l.k l.held.lists.now l.held.counts.now) l.n l.initial.out 0 l.out l.p l.i
