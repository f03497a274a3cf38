-- The lines of the rows from the next on are left to write.
use lib.ListN.{drop}
use Rattle.lines.proofs.Pieces.{Owed}
use Rattle.plananswer.specs.RowTexts.{lines_of}
use Rattle.plananswer.proofs.rows.put_rows.Given as goal

abbrev pub invariant-loop-row : goal.invariant-loop-row
invariant-loop-row g l = let text = g.L.RowLine.text in Owed l.initial.out l.at (lines_of text l.rows) l.out l.p (lines_of text (drop l.row-index l.rows))
