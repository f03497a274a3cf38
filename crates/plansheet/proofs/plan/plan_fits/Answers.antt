-- `plansheet::plan::plan_fits` meets its contract: the tests on the rooms are those of the sheet in them (`PlanFitted`).
use mathlib.Core.Path.{◌≡◌, sym, ◌∙◌}
use Prim.Native.Nat.{◌≤◌}
use native.Mathlib.Omega.{arith}
use lib.ListN.{length, take}
use lib.Seq.{length-take-le}
use Rattle.linekinds.specs.KeyLines.{values}
use Rattle.exchange.specs.FactRows.{node_facts}
use Rattle.plansheet.specs.declared.rooms.LinesRead.{LinesRead}
use Rattle.plansheet.proofs.FineLines.{two_small}
use Rattle.plansheet.proofs.PlanFitted.{worked_rooms, rooms_fit, rooms_crowded, stand_all}
use Rattle.plansheet.proofs.plan.plan_fits.Goals as goal

-- the children have an F row each
rows_many : (f : LinesRead) → f.children ≤ 8 → length (take f.children f.facts.now) ≡ f.children
rows_many f h = length-take-le f.children f.facts.now (omega (arith, h, f.eight))

pub returns-then-f-clause-answer : goal.returns-then-f-clause-answer
returns-then-f-clause-answer c =
    let f = c.args.f in
    λ st t g e r. sym (rooms_crowded t g f.rows.now f.facts.now f.xs.now f.masks.now f.worked f.children f.count r f.eight (f.roomy c.if-f.true) c.if-f.true st)

pub slice_bounds-masks-end : goal.slice_bounds-masks-end
slice_bounds-masks-end c =
    sym (length-take-le c.sets_of.result c.args.f.masks.now (omega (arith, c.sets_of.ensures, two_small c.args.f.children c.requires.filled.rooms.few, c.args.f.masked)))

pub facts_fit-requires-clause-stand_all : goal.facts_fit-requires-clause-stand_all
facts_fit-requires-clause-stand_all c =
    let f = c.args.f in let q = c.requires.filled in let r = q.rooms in
    rw (rows_many f r.few) (stand_all q.plan f.rows.now f.worked f.children (worked_rooms q.plan f.rows.now r.rest f.worked r.stands r.place) (sym r.many))

pub facts_fit-requires-clause-stands : goal.facts_fit-requires-clause-stands
facts_fit-requires-clause-stands c =
    let f = c.args.f in let q = c.requires.filled in let r = q.rooms in
    ((worked_rooms q.plan f.rows.now r.rest f.worked r.stands r.place).inside, rw (rows_many f r.few) r.few)

pub returns-clause-answer : goal.returns-clause-answer
returns-clause-answer c =
    let f = c.args.f in λ st t g e r.
    let w = worked_rooms t f.rows.now r.rest f.worked r.stands r.place in
    c.facts_fit.ensures st w.operator (node_facts (values g.node)) w.below w.rest e (sym w.count ∙ sym r.many ∙ sym (rows_many f r.few)) w.stands
    ∙ rooms_fit t g f.rows.now f.facts.now f.xs.now f.masks.now f.worked f.children f.count r c.if-f.false _ c.sets_of.ensures st
