-- How many lines a tree has.
-- Renders document 01, "256 T lines" and "An output of 65,536 bytes always suffices": the lines of an answer are counted by the lines of its sheet.
use Rattle.std.specs.Prelude.{ℕ, suc, ◌+◌}
use Rattle.exchange.specs.Trees.{node, none, ◌∷ᶠ◌, Plan, Plans}

unfoldable mutual
  pub lines : Plan → ℕ
  lines (node o ts) = suc (liness ts)

  pub liness : Plans → ℕ
  liness none = 0
  liness (t ∷ᶠ ts) = lines t + liness ts
