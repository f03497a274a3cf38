-- The lines of the rows from the next on are left to write.
use Rattle.std.proofs.Common.{drop, ◌+◌, ◌≡◌, ◌++◌, sym, ap, ◌∙◌}
use Rattle.lines.proofs.Pieces.{owed_room, owed_then, owed_none}
use Rattle.plananswer.specs.RowTexts.{lines_of}
use Rattle.plananswer.proofs.RowLines.{lines_first, lines_none}
use Rattle.plananswer.proofs.rows.put_rows.Given as given
use Rattle.plananswer.proofs.rows.put_rows.Goals as goal
use Rattle.plananswer.proofs.rows.put_rows.Goals.{After-row-item}

-- the line of the next row stands first
first :
    (g : given.Over) (c : After-row-item g) → let text = g.L.RowLine.text in let rows = c.args.rows.now in let i = c.loop-row.row-index in
    lines_of text (drop i rows) ≡ text c.row-item.result ++ lines_of text (drop (i + 1) rows)
first g c =
    let text = g.L.RowLine.text in let rows = c.args.rows.now in let i = c.loop-row.row-index in
    lines_first text rows i c.row-item.result c.loop-row-test.true ∙ ap (λ x. text x ++ lines_of text (drop (i + 1) rows)) (sym c.row-item.is)

pub put-p-requires : goal.put-p-requires
put-p-requires g c = owed_room _ _ (rw (first g (goal.at.put-p-requires g c).After-row-item) at c.loop-row.invariant)

pub loop-row-preserved : goal.loop-row-preserved
loop-row-preserved g c = owed_then (rw (first g (goal.at.loop-row-preserved g c).After-row-item) at c.loop-row.invariant) c.put-p.ensures

pub returns : goal.returns
returns g c = owed_none (rw (lines_none g.L.RowLine.text c.args.rows.now c.loop-row.row-index c.loop-row-test.false) at c.loop-row.invariant)
