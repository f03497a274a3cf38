-- `undefined_exprs` meets its contract: three rows that are no expression are three numbers that are none.
use Rattle.std.proofs.Common.{rules, ◌≡◌, ◌∙◌, ◌/◌, true, length, refl, ap}
use mathlib.Core.Bool.{not}
use Rattle.std.specs.Prelude.{◌↔◌, IsTrue}
use Rattle.std.specs.List.{Any, list_any}
use Rattle.linekinds.proofs.Defined.{any_is, first_three, threes_any}
use Rattle.linekinds.proofs.kind.undefined_exprs.Goals as goal

pub returns : goal.returns
returns c =
    let rs = c.args.rows.now in
    let e : IsTrue c.any.result ↔ Any (λ x. not (first_three x) ≡ true) c.as_chunks.result.0.now = search rules in
    any_is _ _ _ e ∙ ap (list_any (λ x. not (first_three x))) c.as_chunks.ensures.front ∙ threes_any (length rs / 3) rs refl
