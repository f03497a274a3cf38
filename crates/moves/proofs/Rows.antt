-- Chunks of two are rows of two numbers.
-- Assumes nothing.
use Prim.Native.Nat.{ℕ, zero, suc, ◌/◌}
use mathlib.Core.Path.{◌≡◌, refl, ap}
use mathlib.Core.List.{List, [], ◌∷◌}
use native.Mathlib.Omega.{arith}
use lib.ListN.{length}
use Rattle.std.specs.Simd.{first_chunks}
use Rattle.sheet.specs.Held.{pair_rows}

pub chunks_paired : (k : ℕ) (xs : List ℕ) → k ≡ length xs / 2 → first_chunks 2 k xs ≡ pair_rows xs
unfolding pair_rows
chunks_paired zero [] h = refl
chunks_paired zero (a ∷ []) h = refl
chunks_paired zero (a ∷ b ∷ xs) h = absurd (omega arith)
chunks_paired (suc k) [] h = absurd (omega arith)
chunks_paired (suc k) (a ∷ []) h = absurd (omega arith)
chunks_paired (suc k) (a ∷ b ∷ xs) h = ap (λ (rows : List (List ℕ)). (a ∷ b ∷ []) ∷ rows) (chunks_paired k xs (omega arith))
