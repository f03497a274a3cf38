-- What was added, with the lines from the next row on, is as long as all lines.
use Rattle.std.proofs.Common.{arith, ap, length, get_or, drop, ◌+◌, [], length-append}
use Rattle.plananswer.specs.RowTexts.{lines_of, row_line}
use Rattle.plananswer.proofs.RowLines.{lines_first, lines_none}
use Rattle.plananswer.proofs.plan.lines_length.Goals as goal

pub loop-row-preserved : goal.loop-row-preserved
loop-row-preserved c =
    let i = c.loop-row.row-index in
    let rows = c.args.answer.rows.now in
    record {
      whole = omega (
        arith,
        c.loop-row.invariant.whole,
        c.operator_length-n.ensures.exact,
        ap length (lines_first row_line rows i [] c.loop-row-test.true),
        length-append (row_line (get_or rows i [])) (lines_of row_line (drop (i + 1) rows)),
      );
      few = omega (arith, c.operator_length-n.ensures.few, c.loop-row.invariant.few);
    }

pub returns-clause-exact : goal.returns-clause-exact
returns-clause-exact c = omega (
  arith,
  c.loop-row.invariant.whole,
  ap length (lines_none row_line c.args.answer.rows.now c.loop-row.row-index c.loop-row-test.false),
)
