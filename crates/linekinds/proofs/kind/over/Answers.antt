-- `over` meets its contract: a row over the largest is a number over it.
use Rattle.std.proofs.Common.{◌≡◌, ◌∙◌, arith, true}
use Rattle.std.specs.Prelude.{slice_index, ltb, ◌↔◌, IsTrue}
use Rattle.std.specs.List.{Any}
use Rattle.std.proofs.lemmas.Grind.{common_steps}
use Rattle.std.proofs.lemmas.Bool.Decides.{nat_tests}
use Rattle.linekinds.proofs.Defined.{any_is, over_any}
use Rattle.linekinds.proofs.kind.over.Goals as goal

pub returns : goal.returns
returns c = let e : IsTrue c.any.result ↔ Any (λ r. ltb c.args.most (slice_index r 1) ≡ true) c.args.rows.now = grind (arith, common_steps, nat_tests) in any_is _ _ _ e ∙ over_any c.args.most c.args.rows.now
