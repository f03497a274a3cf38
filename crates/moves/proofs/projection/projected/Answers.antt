-- The numbers of the group names, and of the aggregate names after them, are those of both (`numbers_append`).
use Prim.Native.Nat.{ℕ}
use mathlib.Core.Path.{ap, sym, ◌∙◌}
use mathlib.Core.List.{List, ◌++◌}
use lib.ListN.{length}
use Rattle.keys.specs.Adjust.{placed_names, names_from}
use Rattle.sheet.specs.KeyAnswers.{projected_numbers}
use Rattle.moves.proofs.Projections.{numbers_append}
use Rattle.moves.proofs.projection.projected.Goals as goal

pub returns-clause-names : goal.returns-clause-names
returns-clause-names c = let e = c.names_from.ensures in let o = c.args.o.now in let f = names_from (length o) c.args.a.now in
    e.1 ∙ ap (λ (l : List ℕ). l ++ projected_numbers f) c.placed_names-at.ensures.1 ∙ sym (numbers_append (placed_names o c.args.places.now) f)
