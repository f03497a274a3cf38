-- `linekinds::plain::line_end` meets its contract: it says yes where its tests do.
use mathlib.Core.Path.{refl}
use native.Mathlib.Omega.{arith}
use Rattle.linekinds.specs.PlainText.{StandsAt}
use Rattle.linekinds.proofs.plain.line_end.Goals as goal

pub returns-then-not-stands : goal.returns-then-not-stands
returns-then-not-stands c = tt

pub returns : goal.returns
returns c =
    let lf : StandsAt c.args.s.now c.args.at 10 = c.stands.ensures.0 c.if-not-stands.false in
    (refl, record { ends = lf; goes = refl; early = omega arith })
