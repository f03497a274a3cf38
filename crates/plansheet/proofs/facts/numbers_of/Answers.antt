-- `plansheet::facts::numbers_of` meets its contract: the room is as long as the line's numbers, and is filled.
use mathlib.Core.Path.{sym, ◌∙◌}
use lib.ListN.{length-map, length-replicate}
use Rattle.linekinds.specs.Reading.{row_value, row_values}
use Rattle.numberlines.proofs.Numbers.{filled}
use Rattle.plansheet.proofs.facts.numbers_of.Goals as goal

pub returns : goal.returns
returns g c = let ns = row_values c.args.fields.now in
    c.copy_numbers.ensures ∙ filled _ ns (length-map c.args.fields.now row_value ∙ c.requires ∙ sym (length-replicate g.row.N 0))
