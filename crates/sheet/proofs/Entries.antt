-- What holds of every entry of a list: of lists put together, of entries taken out.
use Prim.Native.Nat.{ℕ, zero, suc, ◌≤◌}
use native.Mathlib.Omega.{arith}
use mathlib.Core.List.{List, [], ◌∷◌, ◌++◌}
use lib.ListN.{length, get_or, length-map, replicate}
use Rattle.keys.specs.Lists.{permute}
use Rattle.sheet.specs.Sizes.{Each, Few}

pub each_append : {A : Type 0} (P : A → Type 0) (xs ys : List A) → Each P xs → Each P ys → Each P (xs ++ ys)
each_append P [] ys h k = k
each_append P (x ∷ xs) ys h k = (h.0, each_append P xs ys h.1 k)

pub each_same : {A : Type 0} (P : A → Type 0) (n : ℕ) (x : A) → P x → Each P (replicate n x)
each_same P zero x h = tt
each_same P (suc n) x h = (h, each_same P n x h)

pub each_weaker : {A : Type 0} (P Q : A → Type 0) → ((x : A) → P x → Q x) → (xs : List A) → Each P xs → Each Q xs
each_weaker P Q f [] h = tt
each_weaker P Q f (x ∷ xs) h = (f x h.0, each_weaker P Q f xs h.1)

pub each_at : {A : Type 0} (P : A → Type 0) (d : A) → P d → (xs : List A) (i : ℕ) → Each P xs → P (get_or xs i d)
each_at P d h [] i e = h
each_at P d h (x ∷ xs) zero e = e.0
each_at P d h (x ∷ xs) (suc i) e = each_at P d h xs i e.1

each_permuted : {A : Type 0} (P : A → Type 0) (d : A) → P d → (xs : List A) → Each P xs → (ps : List ℕ) → Each P (permute d xs ps)
each_permuted P d h xs e [] = tt
each_permuted P d h xs e (p ∷ ps) = (each_at P d h xs p e, each_permuted P d h xs e ps)

-- ---- at most n entries

pub nothing_few : {A : Type 0} (n : ℕ) (P : A → Type 0) → Few n P []
nothing_few n P = record { few = omega arith; each = tt }

pub few_weaker : {A : Type 0} (n : ℕ) (P Q : A → Type 0) → ((x : A) → P x → Q x) → (xs : List A) → Few n P xs → Few n Q xs
few_weaker n P Q f xs h = record { few = h.few; each = each_weaker P Q f xs h.each }

-- entries at no more places than there may be entries
pub few_permuted : {A : Type 0} (n : ℕ) (P : A → Type 0) (d : A) → P d → (xs : List A) → Few n P xs → (ps : List ℕ) → length ps ≤ n → Few n P (permute d xs ps)
few_permuted n P d h xs f ps l = record { few = omega (arith, length-map ps (λ p. get_or xs p d)); each = each_permuted P d h xs f.each ps }
