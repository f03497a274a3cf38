-- Where groups moved, the places are those of the outcome.
use Prim.Native.Nat.{ℕ}
use mathlib.Core.Path.{ap, ◌∙◌}
use mathlib.Core.List.{List, ◌++◌}
use lib.ListN.{length}
use Rattle.keys.specs.Adjust.{placed_names, names_from}
use Rattle.sheet.specs.KeyAnswers.{projected_numbers}
use Rattle.moves.proofs.projection.projected_by.Goals as goal

pub returns-clause-names : goal.returns-clause-names
returns-clause-names c = let o = c.args.o.now in let f = names_from (length o) c.args.a.now in
    rw c.in-Regrouped.is (c.projected.ensures.names ∙ ap (λ (ps : List ℕ). projected_numbers (placed_names o ps ++ f)) c.positions.ensures)
