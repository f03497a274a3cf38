-- Chunks of two are rows of two numbers (`chunks_paired`).
use mathlib.Core.Path.{refl, ◌∙◌}
use lib.ListN.{length}
use Prim.Native.Nat.{◌/◌}
use Rattle.moves.proofs.Rows.{chunks_paired}
use Rattle.moves.proofs.decide.rule_rows.Goals as goal

pub returns : goal.returns
returns c = c.as_chunks.ensures.front ∙ chunks_paired (length c.args.list.now / 2) c.args.list.now refl
