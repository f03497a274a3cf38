-- The row's numbers are those of the line.
use Rattle.std.proofs.Common.{sym}
use Rattle.plananswer.proofs.SheetRows.{child_numbers_lem}
use Rattle.plananswer.proofs.sheet_line.ChildLineRowLineChildRow.put.Goals as goal

pub put_numbers-requires : goal.put_numbers-requires
put_numbers-requires c = rw (sym (child_numbers_lem c.args.row.now c.told-row)) c.requires

pub returns : goal.returns
returns c = rw (child_numbers_lem c.args.row.now c.told-row) c.put_numbers.ensures
