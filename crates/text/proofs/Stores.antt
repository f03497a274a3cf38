-- Bytes stored one after another, forwards and backwards.
-- Assumes nothing.
use mathlib.Core.Path.{◌≡◌, refl, ap, ◌∙◌}
use mathlib.Core.List.{List, [], ◌∷◌, ◌++◌}
use Prim.Native.Nat.{ℕ, suc, ◌+◌, ◌≤◌}
use native.Mathlib.Omega.{arith}
use lib.ListN.{length, set, length-append}
use lib.Seq.{sets, set_comm, length-sets}
use Rattle.text.specs.Write.{Wrote}

pub sets_append : {A : Type 0} (l : List A) (i : ℕ) (xs ys : List A) → sets (sets l i xs) (i + length xs) ys ≡ sets l i (xs ++ ys)
sets_append l i [] ys = let e : i + 0 ≡ i = omega arith in rw e
sets_append l i (x ∷ xs) ys = let e : i + suc (length xs) ≡ suc i + length xs = omega arith in rw e (sets_append (set l i x) (suc i) xs ys)

-- a byte stored behind the place of xs may be stored first
set_late : (l : List ℕ) (i j : ℕ) (xs : List ℕ) (d : ℕ) → i + length xs ≤ j → sets (set l j d) i xs ≡ set (sets l i xs) j d
set_late l i j [] d h = refl
set_late l i j (x ∷ xs) d h = rw (set_comm l j i d x (λ e. omega arith)) (set_late (set l i x) (suc i) j xs d (omega arith))

pub sets_last : (l : List ℕ) (i j : ℕ) (xs : List ℕ) (d : ℕ) → j ≡ i + length xs → sets (set l j d) i xs ≡ sets l i (xs ++ (d ∷ []))
sets_last l i j xs d e = set_late l i j xs d (omega arith) ∙ rw e (sets_append l i xs (d ∷ []))

-- two runs of bytes, one after the other
pub wrote_then : {l : List ℕ} {at : ℕ} {xs l₁ : List ℕ} {n₁ : ℕ} {ys l₂ : List ℕ} {n₂ : ℕ} → Wrote l at xs l₁ n₁ → Wrote l₁ n₁ ys l₂ n₂ → Wrote l at (xs ++ ys) l₂ n₂
wrote_then {l} {at} {xs} {l₁} {n₁} {ys} {l₂} {n₂} a b =
    record {
      place = rw length-append (omega (arith, a.place, b.place));
      stored = rw (b.stored, a.stored, a.place) (sets_append l at xs ys);
    }

-- the room stays as long as it was
pub wrote_length : {l : List ℕ} {at : ℕ} {xs l₁ : List ℕ} {n₁ : ℕ} → Wrote l at xs l₁ n₁ → length l₁ ≡ length l
wrote_length {l} {at} {xs} w = ap length w.stored ∙ length-sets l at xs

-- xs is to be written from at on, and ys, from p on, is what is left of it
pub record Left (l : List ℕ) (at : ℕ) (xs : List ℕ) (l' : List ℕ) (p : ℕ) (ys : List ℕ) : Type 0 where
  pub place : p + length ys ≡ at + length xs
  pub stored : sets l' p ys ≡ sets l at xs

pub left_all : (l : List ℕ) (at : ℕ) (xs : List ℕ) → Left l at xs l at xs
left_all l at xs = record { place = refl; stored = refl }

module _ {l : List ℕ} {at : ℕ} {xs l₁ : List ℕ} {p₁ : ℕ} where
  pub left_then : {ys zs l₂ : List ℕ} {p₂ : ℕ} → Left l at xs l₁ p₁ (ys ++ zs) → Wrote l₁ p₁ ys l₂ p₂ → Left l at xs l₂ p₂ zs
  left_then {ys} {zs} a w =
      record {
        place = omega (arith, a.place, w.place, length-append ys zs);
        stored = rw (w.stored, w.place) (sets_append l₁ p₁ ys zs ∙ a.stored);
      }

  pub left_none : Left l at xs l₁ p₁ [] → Wrote l at xs l₁ p₁
  left_none a = record { place = omega (arith, a.place); stored = a.stored }
