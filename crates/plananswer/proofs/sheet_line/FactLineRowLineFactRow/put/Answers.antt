-- The row's numbers are those of the line.
use Rattle.std.proofs.Common.{sym}
use Rattle.plananswer.proofs.SheetRows.{fact_numbers_lem}
use Rattle.plananswer.proofs.sheet_line.FactLineRowLineFactRow.put.Goals as goal

pub put_numbers-requires : goal.put_numbers-requires
put_numbers-requires c = rw (sym (fact_numbers_lem c.args.row.now c.told-row)) c.requires

pub returns : goal.returns
returns c = rw (fact_numbers_lem c.args.row.now c.told-row) c.put_numbers.ensures
