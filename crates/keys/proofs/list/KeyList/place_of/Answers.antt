-- The first entry of that number (`found_position`).
use Rattle.std.proofs.Common.{rules, tests, eqb, sym, ap, ◌∙◌}
use Rattle.std.specs.List.{take-map}
use Rattle.std.proofs.lemmas.Iterator.{YieldsList-from_slice}
use Rattle.std.proofs.lemmas.Iterator.Search.{position_from_yields_List}
use Rattle.keys.specs.Lists.{place_of}
use Rattle.keys.specs.Values.{number_of, found}
use Rattle.keys.proofs.Places.{found_position}
use Rattle.keys.proofs.list.KeyList.place_of.Goals as goal

pub returns-clause-place : goal.returns-clause-place
returns-clause-place c =
    let s = c.args.self.now in
    let first = position_from_yields_List (λ e. eqb (number_of e) c.args.key) _ _ c.position.result c.position.ensures.ran (YieldsList-from_slice c.keys.result.now cc) (λ x b q k. search (rules, tests)) in
    ap found first ∙ found_position number_of c.args.key c.keys.result.now ∙ rw (c.keys.ensures) (ap (place_of eqb c.args.key) (sym (take-map number_of s.count s.items)))
