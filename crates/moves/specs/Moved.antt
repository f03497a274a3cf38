-- The pairs of an answer at the positions that were found.
-- Renders document 01, "Answer: `k,changed,report` .., then P positions, R, L, G, S, J, C".
use Rattle.std.specs.Prelude.{ℕ, ◌≡◌, List}
use Rattle.keys.specs.Lists.{permute}
use Rattle.keys.specs.Expressions.{gone_number}
use Rattle.keys.specs.Adjust.{moved_directions}
use Rattle.moves.specs.declared.moved.MovedPairs.{MovedPairs}

-- the positions ps, and what stands there on either side and among the directions
pub record MovedBy (l g s ps : List ℕ) (m : MovedPairs) : Type 0 where
  pub positions : m.positions.now ≡ ps
  pub left : m.left.now ≡ permute gone_number l ps
  pub right : m.right.now ≡ permute gone_number g ps
  pub directions : m.directions.now ≡ moved_directions s ps
