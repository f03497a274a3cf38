-- The places of a list in their own order are an arrangement, and a list that is expected as it stands fits in it.
use Prim.Native.Nat.{ℕ, zero, suc, ◌+◌, ◌≤◌, ◌<◌}
use mathlib.Core.Path.{◌≡◌, refl, ap, sym}
use mathlib.Core.Bool.{Bool, true, false}
use mathlib.Core.List.{List, [], ◌∷◌}
use native.Mathlib.Omega.{arith}
use borrow.Author.Tests.{eqb-true, ne_eqb}
use lib.Dec.{eqb}
use lib.ListN.{length, drop, drop_of_length-le}
use lib.Seq.{drop-cons}
use Rattle.keys.specs.Lists.{same_list, permute}
use Rattle.keys.specs.Arrange.{Below, times, Arrangement, Equivalence, Fits}
use Rattle.keys.specs.Kept.{up_from}
use Rattle.keys.proofs.Truths.{and_first, and_second}
use Rattle.keys.proofs.Sums.{one, all_places}

up_length : (i n : ℕ) → length (up_from i n) ≡ n
up_length i zero = refl
up_length i (suc n) = ap suc (up_length (suc i) n)

up_below : (i n m : ℕ) → i + n ≤ m → Below m (up_from i n)
up_below i zero m h = tt
up_below i (suc n) m h = (omega arith, up_below (suc i) n m (omega arith))

up_before : (i n k : ℕ) → k < i → times k (up_from i n) ≡ 0
up_before i zero k h = refl
up_before i (suc n) k h =
    let a : times k (up_from (suc i) n) ≡ 0 = up_before (suc i) n k (omega arith) in
    let b : one (eqb k i) ≡ 0 = ap one (ne_eqb k i (λ e. absurd (omega arith))) in
    omega arith

up_distinct : (i n k : ℕ) → times k (up_from i n) ≤ 1
up_distinct i zero k = omega arith
up_distinct i (suc n) k = go (eqb k i) refl (up_distinct (suc i) n k)
  where
    go : (b : Bool) → eqb k i ≡ b → times k (up_from (suc i) n) ≤ 1 → one b + times k (up_from (suc i) n) ≤ 1
    go true t h = let a : times k (up_from (suc i) n) ≡ 0 = up_before (suc i) n k (omega (arith, eqb-true k i t)) in omega arith
    go false t h = omega arith

pub up_arranges : (n : ℕ) → Arrangement n (up_from 0 n)
up_arranges n = all_places n (up_from 0 n) (up_length 0 n) (up_below 0 n n (omega arith)) (up_distinct 0 n)

module _ {A : Type 0} (gone : A) where
  up_permutes : (xs : List A) (i n : ℕ) → i + n ≡ length xs → permute gone xs (up_from i n) ≡ drop i xs
  up_permutes xs i zero h = sym (drop_of_length-le xs {i = i} (omega arith))
  up_permutes xs i (suc n) h = rw (up_permutes xs (suc i) n (omega arith)) (sym (drop-cons xs i gone (omega arith)))

module _ {A : Type 0} (same : A → A → Bool) where
  pub same_list_sym : Equivalence same → (xs ys : List A) → same_list same xs ys ≡ true → same_list same ys xs ≡ true
  same_list_sym eq [] [] e = refl
  same_list_sym eq [] (y ∷ ys) e = e
  same_list_sym eq (x ∷ xs) [] e = e
  same_list_sym eq (x ∷ xs) (y ∷ ys) e =
      rw (eq.symmetric x y (and_first (same x y) (same_list same xs ys) e)) (same_list_sym eq xs ys (and_second (same x y) (same_list same xs ys) e))

  pub own_order_fits :
      (gone : A) (current expected : List A) (n : ℕ) → length current ≡ n → same_list same current expected ≡ true →
      Fits same gone current expected (up_from 0 n)
  own_order_fits gone current expected n k e = record {
    arrangement = rw k (up_arranges n);
    equal = rw (up_permutes gone current 0 n (omega arith)) e;
  }
