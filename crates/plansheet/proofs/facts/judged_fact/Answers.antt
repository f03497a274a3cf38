-- `plansheet::facts::judged_fact` meets its contract: the numbers of the line that `fact_line` read are the row.
use mathlib.Core.Path.{refl, sym, ap, ◌∙◌}
use mathlib.Core.List.{List}
use mathlib.Core.Option.{Option}
use native.Mathlib.Omega.{arith}
use lib.ListN.{set}
use Rattle.text.specs.declared.field.Field.{Field}
use lib.Seq.{length-take-le}
use Rattle.linekinds.specs.KeyLines.{values}
use Rattle.linekinds.specs.Lines.{fields_of}
use Rattle.plansheet.specs.PlanLines.{fact_line}
use Rattle.plansheet.proofs.Singles.{Single, single}
use Rattle.plansheet.proofs.facts.judged_fact.Goals as goal
use Rattle.plansheet.proofs.facts.judged_fact.Goals.{In-Line}

-- the X line that was read
line_read : (c : In-Line) → Single fact_line 0 c.args.s.now c.args.at c.in-Line.count c.in-Line.next c.fact_line-r.new.fields
line_read c =
    let a = c.args in let r = c.fact_line-r in
    single fact_line refl 0 a.s.now a.at _ _ a.fields.now _ (sym c.in-Line.is ∙ r.ensures.answer 0) r.ensures.stored (omega (arith, c.requires))

pub slice_bounds-numbers_of-end : goal.slice_bounds-numbers_of-end
slice_bounds-numbers_of-end c = (line_read (goal.at.slice_bounds-numbers_of-end c).In-Line).fits

pub slice_bounds-numbers_of-end-2 : goal.slice_bounds-numbers_of-end-2
slice_bounds-numbers_of-end-2 c = sym (length-take-le _ _ (line_read (goal.at.slice_bounds-numbers_of-end-2 c).In-Line).fits)

pub numbers_of-requires : goal.numbers_of-requires
numbers_of-requires c = (omega arith, (line_read (goal.at.numbers_of-requires c).In-Line).part)

pub returns-clause-stored : goal.returns-clause-stored
returns-clause-stored c =
    let a = c.args in let t = line_read (goal.at.returns-clause-stored c).In-Line in
    c.store.ensures ∙ ap (set a.rows.now a.n) (c.numbers_of.ensures ∙ t.vals ∙ ap (λ (x : Option (List Field)). values (fields_of x)) (sym t.took.is))
