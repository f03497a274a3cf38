-- The parts of a text, as a search for the byte that parts them finds them.
-- Assumes nothing.
use mathlib.Core.Path.{◌≡◌, refl}
use mathlib.Core.List.{List, [], ◌∷◌}
use mathlib.Core.Bool.{Bool, true, false, cond}
use Prim.Native.Nat.{ℕ, suc, ◌≤◌, ◌<◌}
use native.Mathlib.Omega.{arith}
use lib.Dec.{eqb}
use lib.ListN.{length, take, drop}
use Rattle.text.specs.Text.{until, onto, parts}

pub until_le_at : (t : Bool) (u l : ℕ) → u ≤ l → cond t 0 (suc u) ≤ suc l
until_le_at true u l h = omega arith
until_le_at false u l h = omega arith

pub until_le : (b : ℕ) (xs : List ℕ) → until b xs ≤ length xs
unfolding until
until_le b [] = omega arith
until_le b (x ∷ xs) = until_le_at (eqb x b) (until b xs) (length xs) (until_le b xs)

last_at : (t : Bool) (x u : ℕ) (xs : List ℕ) (ps : List (List ℕ)) → cond t 0 (suc u) ≡ suc (length xs) → (u ≡ length xs → ps ≡ xs ∷ []) → cond t ([] ∷ ps) (onto x ps) ≡ (x ∷ xs) ∷ []
unfolding onto
last_at true x u xs ps h ih = absurd (omega arith)
last_at false x u xs ps h ih = rw (ih (omega arith))

pub parts_last : (b : ℕ) (xs : List ℕ) → until b xs ≡ length xs → parts b xs ≡ xs ∷ []
unfolding until parts
parts_last b [] h = refl
parts_last b (x ∷ xs) h = last_at (eqb x b) x (until b xs) xs (parts b xs) h (parts_last b xs)

more_at : (t : Bool) (b x u : ℕ) (xs : List ℕ) → cond t 0 (suc u) < suc (length xs) → (u < length xs → parts b xs ≡ take u xs ∷ parts b (drop (suc u) xs)) → cond t ([] ∷ parts b xs) (onto x (parts b xs)) ≡ take (cond t 0 (suc u)) (x ∷ xs) ∷ parts b (drop (suc (cond t 0 (suc u))) (x ∷ xs))
unfolding onto
more_at true b x u xs h ih = refl
more_at false b x u xs h ih = rw (ih (omega arith))

pub parts_more : (b : ℕ) (xs : List ℕ) → until b xs < length xs → parts b xs ≡ take (until b xs) xs ∷ parts b (drop (suc (until b xs)) xs)
unfolding until parts
parts_more b [] h = absurd (omega arith)
parts_more b (x ∷ xs) h = more_at (eqb x b) b x (until b xs) xs h (parts_more b xs)
