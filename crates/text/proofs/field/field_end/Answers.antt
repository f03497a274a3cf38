-- `field_end` meets its contract: the first comma or LF of what is left, or its length (`span_found`).
use Rattle.std.proofs.Common.{rules, tests, eqb, refl, ap, true, false, ◌≡◌, ◌∙◌, ◌||◌, ◌+◌, drop}
use Rattle.std.proofs.lemmas.Iterator.{YieldsList-from_slice, IsFirst-from_position}
use Rattle.text.specs.Scan.{span}
use Rattle.text.proofs.Scanning.{span_found, rest_from}
use Rattle.text.proofs.field.field_end.Goals as goal

pub returns : goal.returns
returns c =
    let a = c.args in let rest = c.unwrap_or-rest.result.now in
    let first = IsFirst-from_position _ _ c.position.result (λ b. true ≡ (eqb b 44 || eqb b 10)) (λ b. false ≡ (eqb b 44 || eqb b 10)) c.position.ensures.ran (YieldsList-from_slice rest cc) (λ x q k. search (rules, tests)) (λ x q k. search (rules, tests)) in
    let is : rest ≡ drop a.at a.s.now = rest_from a.s.now a.at c.get.result _ _ c.unwrap_or-rest.ensures refl c.get.ensures.lookup.0 in
    record { place = ap (λ n. a.at + n) (c.unwrap_or.ensures ∙ span_found rest c.position.result first ∙ ap span is) }
