-- What was added, with the lines from the next row on, is as long as all lines; each has at most 191 bytes.
use Rattle.std.proofs.Common.{◌≡◌, ◌+◌, ◌*◌, ◌≤◌, length, drop}
use Rattle.plananswer.specs.RowTexts.{lines_of, row_line}
use Rattle.plananswer.proofs.plan.lines_length.Given as goal

abbrev pub invariant-loop-row : goal.invariant-loop-row
invariant-loop-row l = record {
  whole : l.n + length (lines_of row_line (drop l.row-index l.answer.rows.now)) ≡ length (lines_of row_line l.answer.rows.now);
  few : l.n ≤ l.row-index * 191;
}
