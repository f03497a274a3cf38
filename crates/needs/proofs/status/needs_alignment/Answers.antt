-- `needs::status::needs_alignment` meets its contract: a child of those numbers that asks is a child that asks.
use Rattle.std.proofs.Common.{rules, ◌≡◌, ◌∙◌, true, refl, ap}
use mathlib.Core.Bool.{Bool, ◌||◌}
use mathlib.Core.List.{List, [], ◌∷◌, map}
use Rattle.std.specs.Prelude.{IsTrue, ◌↔◌}
use Rattle.std.specs.List.{Any, list_any}
use Rattle.std.proofs.lemmas.List.Folds.{Any-from_list_any, list_any-from_Any}
use Rattle.exchange.specs.declared.settings.Settings.{Settings}
use Rattle.exchange.specs.declared.status.Asked.{Asked}
use Rattle.exchange.specs.Status.{asks_alignment, needs_alignment}
use Rattle.exchange.specs.FactRows.{child_for}
use Rattle.keys.proofs.Truths.{both_ways}
use Rattle.needs.proofs.status.needs_alignment.Goals as goal

any_asks : (s : Settings) (asks : List Asked) → list_any (λ a. asks_alignment s (child_for a)) asks ≡ needs_alignment s (map child_for asks)
unfolding needs_alignment
any_asks s [] = refl
any_asks s (a ∷ asks) = ap (λ (t : Bool). asks_alignment s (child_for a) || t) (any_asks s asks)

pub returns : goal.returns
returns c =
    let s = c.args.s in let asks = c.args.asks.now in let p : Asked → Bool = λ a. asks_alignment s (child_for a) in
    let e : IsTrue c.any.result ↔ Any (λ a. p a ≡ true) asks = search rules in
    both_ways c.any.result (list_any p asks) (λ h. list_any-from_Any p asks (e.0 h)) (λ h. e.1 (Any-from_list_any p asks h)) ∙ any_asks s asks
