-- A list three by three: what holds of fewer than three, and of three more, holds of all.
-- Assumes nothing.
use Prim.Native.Nat.{ℕ, zero, suc, ◌/◌}
use mathlib.Core.Path.{◌≡◌}
use mathlib.Core.List.{List, [], ◌∷◌}
use native.Mathlib.Omega.{arith}
use lib.ListN.{length}

module _ {A : Type 0} (P : ℕ → List A → Type 0) (none : P 0 []) (one : (a : A) → P 0 (a ∷ [])) (two : (a b : A) → P 0 (a ∷ b ∷ []))
    (more : (k : ℕ) (a b c : A) (xs : List A) → P k xs → P (suc k) (a ∷ b ∷ c ∷ xs)) where
  pub by_threes : (k : ℕ) (xs : List A) → k ≡ length xs / 3 → P k xs
  by_threes zero [] h = none
  by_threes zero (a ∷ []) h = one a
  by_threes zero (a ∷ b ∷ []) h = two a b
  by_threes zero (a ∷ b ∷ c ∷ xs) h = absurd (omega arith)
  by_threes (suc k) [] h = absurd (omega arith)
  by_threes (suc k) (a ∷ []) h = absurd (omega arith)
  by_threes (suc k) (a ∷ b ∷ []) h = absurd (omega arith)
  by_threes (suc k) (a ∷ b ∷ c ∷ xs) h = more k a b c xs (by_threes k xs (omega arith))
