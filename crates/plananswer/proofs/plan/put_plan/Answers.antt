-- `put_plan` meets its contract: the d line, and the t lines behind it.
use Rattle.std.proofs.Common.{◌++◌}
use Rattle.text.proofs.Stores.{wrote_then}
use Rattle.lines.proofs.Pieces.{owed_all, owed_room, owed_then}
use Rattle.plananswer.specs.RowTexts.{lines_of, row_line, head_line, rows_text}
use Rattle.plananswer.proofs.plan.put_plan.Goals as goal

pub put_head-p-requires : goal.put_head-p-requires
unfolding rows_text
put_head-p-requires c = let a = c.args in let h = a.head in let first = head_line h.changed h.window h.interleave h.tracked in let rest = lines_of row_line a.rows.now in
    owed_room first rest (owed_all a.out.now a.at (first ++ rest) c.requires)

pub put_rows-requires : goal.put_rows-requires
unfolding rows_text
put_rows-requires c = let a = c.args in let h = a.head in let first = head_line h.changed h.window h.interleave h.tracked in let rest = lines_of row_line a.rows.now in
    (owed_then (owed_all a.out.now a.at (first ++ rest) c.requires) c.put_head-p.ensures).enough

pub returns : goal.returns
unfolding rows_text
returns c = wrote_then c.put_head-p.ensures c.put_rows.ensures
