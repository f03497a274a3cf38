-- The first list, or else the second, behind it (`Fields`).
use Rattle.std.proofs.Common.{ap, sym, ◌∙◌}
use Rattle.keys.specs.Values.{found}
use Rattle.adjust.proofs.Fields.{place_first, place_second, place_neither}
use Rattle.adjust.proofs.aggregate.find_field.Goals as goal

pub returns-in-Some-clause-place : goal.returns-in-Some-clause-place
returns-in-Some-clause-place c = place_first c.args.name c.args.moved.now c.args.aggregates.now c.in-Some.p (sym c.in-Some.ensures.place)

pub returns-in_err-find-clause-place : goal.returns-in_err-find-clause-place
returns-in_err-find-clause-place c = ap found c.from_residual.ensures ∙ place_neither c.args.name c.args.moved.now c.args.aggregates.now (sym c.in_default.ensures.place) (sym c.in_err-find.ensures.place)

pub returns-clause-place : goal.returns-clause-place
returns-clause-place c = place_second c.args.name c.args.moved.now c.args.aggregates.now _ (sym c.in_default.ensures.place) (sym c.in_ok-find.ensures.place)
