-- `linekinds::plain::field_at` meets its contract: a comma, and what `number_at` finds after it (`field_found`).
use native.Mathlib.Omega.{arith}
use Rattle.linekinds.specs.PlainText.{StandsAt}
use Rattle.linekinds.proofs.PlainText.{field_found}
use Rattle.linekinds.proofs.plain.field_at.Goals as goal

pub returns-then-not-stands : goal.returns-then-not-stands
returns-then-not-stands c = tt

pub overflow_add-at : goal.overflow_add-at
overflow_add-at c =
    let comma : StandsAt c.args.s.now c.args.at 44 = c.stands.ensures.0 c.if-not-stands.false in
    omega (arith, (comma).0)

pub returns : goal.returns
returns c =
    let comma : StandsAt c.args.s.now c.args.at 44 = c.stands.ensures.0 c.if-not-stands.false in
    field_found c.args.s.now c.args.at c.number_at.result (comma) c.number_at.ensures
