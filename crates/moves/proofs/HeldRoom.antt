-- A line that is held has at most 64 numbers.
-- Assumes nothing.
use Prim.Native.Nat.{ℕ, ◌≤◌}
use mathlib.Core.List.{List}
use native.Mathlib.Omega.{arith}
use lib.ListN.{length, get_or, length-take}
use Rattle.sheet.specs.Held.{held_at}

module _ (lists : List (List ℕ)) (counts : List ℕ) (i : ℕ) (room : get_or counts i 0 ≤ 64) where
  pub held_short : length (held_at lists counts i) ≤ 64
  unfolding held_at
  held_short = rw length-take (omega arith)
