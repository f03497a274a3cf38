-- `fit::masks_fit` meets its contract: that each mask fits is what is asked of all (`Fitting`).
use Rattle.std.proofs.Common.{arith}
use Rattle.std.specs.Prelude.{◌↔◌, IsTrue}
use Rattle.std.specs.List.{AllPass}
use Rattle.std.proofs.lemmas.Grind.{common_steps}
use Rattle.std.proofs.lemmas.Bool.Decides.{nat_tests}
use Rattle.exchange.specs.Fit.{within_bits}
use Rattle.plansheet.proofs.Fitting.{masks_all}
use Rattle.plansheet.proofs.fit.masks_fit.Goals as goal

pub returns : goal.returns
returns c = let e : IsTrue c.all.result ↔ AllPass (within_bits c.args.n) c.args.masks.now = grind (arith, common_steps, nat_tests) in masks_all _ _ _ e
