-- The first field of that name (`found_position`).
use Rattle.std.proofs.Common.{rules, tests, eqb, ap, ◌∙◌}
use Rattle.std.proofs.lemmas.List.{map-id}
use Rattle.std.proofs.lemmas.Iterator.{YieldsList-from_slice}
use Rattle.std.proofs.lemmas.Iterator.Search.{position_from_yields_List}
use Rattle.keys.specs.Lists.{place_of}
use Rattle.keys.specs.Values.{found}
use Rattle.keys.proofs.Places.{found_position}
use Rattle.adjust.proofs.aggregate.find.Goals as goal

pub returns-clause-place : goal.returns-clause-place
returns-clause-place c = let n = c.args.name in let all = c.args.fields.now in
    let first = position_from_yields_List (λ f. eqb f n) _ _ c.position.result c.position.ensures.ran (YieldsList-from_slice all cc) (λ x b q k. search (rules, tests)) in
    ap found first ∙ found_position (λ f. f) n all ∙ ap (place_of eqb n) (map-id all)
