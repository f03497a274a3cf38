-- Sums over the numbers below n, and over a list of such numbers: the two ways of counting.
use Prim.Native.Nat.{ℕ, zero, suc, ◌+◌, ◌*◌, ◌≤◌, ◌<◌}
use mathlib.Core.Path.{◌≡◌, refl, sym, ◌∙◌}
use mathlib.Core.Bool.{Bool, cond}
use mathlib.Core.List.{List, [], ◌∷◌}
use native.Mathlib.Nat.{zero-mul, one-mul, add-mul, mul-one}
use native.Mathlib.Omega.{arith}
use lib.Dec.{eqb, eqb-zero-suc, eqb-suc-zero, eqb-suc-suc}
use lib.ListN.{length}
use Rattle.keys.specs.Arrange.{Below, times, Arrangement}

abbrev pub one : Bool → ℕ
one b = cond b 1 0

-- f at each number below n
abbrev pub sum : ℕ → (ℕ → ℕ) → ℕ
sum zero f = 0
sum (suc n) f = f 0 + sum n (λ k. f (suc k))

-- f at each entry
abbrev pub weigh : (ℕ → ℕ) → List ℕ → ℕ
weigh f [] = 0
weigh f (p ∷ ps) = f p + weigh f ps

pub sum_ext : (n : ℕ) (f g : ℕ → ℕ) → ((k : ℕ) → k < n → f k ≡ g k) → sum n f ≡ sum n g
sum_ext zero f g h = refl
sum_ext (suc n) f g h =
    let a : f 0 ≡ g 0 = h 0 (omega arith) in
    let b : sum n (λ k. f (suc k)) ≡ sum n (λ k. g (suc k)) = sum_ext n (λ k. f (suc k)) (λ k. g (suc k)) (λ k p. h (suc k) (omega arith)) in
    omega arith

sum_none : (n : ℕ) (f : ℕ → ℕ) → ((k : ℕ) → k < n → f k ≡ 0) → sum n f ≡ 0
sum_none zero f h = refl
sum_none (suc n) f h =
    let a : f 0 ≡ 0 = h 0 (omega arith) in
    let b : sum n (λ k. f (suc k)) ≡ 0 = sum_none n (λ k. f (suc k)) (λ k p. h (suc k) (omega arith)) in
    omega arith

sum_both : (n : ℕ) (f g : ℕ → ℕ) → sum n (λ k. f k + g k) ≡ sum n f + sum n g
sum_both zero f g = refl
sum_both (suc n) f g =
    let b : sum n (λ k. f (suc k) + g (suc k)) ≡ sum n (λ k. f (suc k)) + sum n (λ k. g (suc k)) = sum_both n (λ k. f (suc k)) (λ k. g (suc k)) in
    omega arith

-- all but one of the summands are 0
sum_at : (n p : ℕ) (f : ℕ → ℕ) → p < n → sum n (λ k. one (eqb k p) * f k) ≡ f p
sum_at zero p f h = absurd (omega arith)
sum_at (suc n) zero f h =
    let a : sum n (λ k. one (eqb (suc k) 0) * f (suc k)) ≡ 0 = sum_none n _ (λ k p. rw (eqb-suc-zero k) (zero-mul (f (suc k)))) in
    let b : 1 * f 0 ≡ f 0 = one-mul (f 0) in
    omega arith
sum_at (suc n) (suc p) f h =
    let a : sum n (λ k. one (eqb (suc k) (suc p)) * f (suc k)) ≡ sum n (λ k. one (eqb k p) * f (suc k)) = sum_ext n _ _ (λ k q. rw (eqb-suc-suc k p)) in
    let b : sum n (λ k. one (eqb k p) * f (suc k)) ≡ f (suc p) = sum_at n p (λ k. f (suc k)) (omega arith) in
    let d : one (eqb 0 (suc p)) * f 0 ≡ 0 = rw (eqb-zero-suc p) (zero-mul (f 0)) in
    omega arith

-- each number counts as often as it stands in the list
pub counted : (n : ℕ) (f : ℕ → ℕ) (ps : List ℕ) → Below n ps → weigh f ps ≡ sum n (λ k. times k ps * f k)
counted n f [] b = sym (sum_none n (λ k. 0 * f k) (λ k h. zero-mul (f k)))
counted n f (p ∷ ps) b =
    let a : sum n (λ k. (one (eqb k p) + times k ps) * f k) ≡ sum n (λ k. one (eqb k p) * f k + times k ps * f k)
    = sum_ext n _ _ (λ k h. add-mul (one (eqb k p)) (times k ps) (f k)) in
    let d : sum n (λ k. one (eqb k p) * f k + times k ps * f k) ≡ sum n (λ k. one (eqb k p) * f k) + sum n (λ k. times k ps * f k) = sum_both n _ _ in
    let e : sum n (λ k. one (eqb k p) * f k) ≡ f p = sum_at n p f b.0 in
    let i : weigh f ps ≡ sum n (λ k. times k ps * f k) = counted n f ps b.1 in
    omega arith

-- over an arrangement the two sums are one
pub arranged : (n : ℕ) (f : ℕ → ℕ) (ps : List ℕ) → Arrangement n ps → weigh f ps ≡ sum n f
arranged n f ps a = counted n f ps a.within ∙ sum_ext n (λ k. times k ps * f k) f (λ k h. rw (a.once k h) (one-mul (f k)))

sum_ones : (n : ℕ) (f : ℕ → ℕ) → ((k : ℕ) → k < n → f k ≤ 1) → sum n f ≤ n
sum_ones zero f h = omega arith
sum_ones (suc n) f h =
    let a : f 0 ≤ 1 = h 0 (omega arith) in
    let b : sum n (λ k. f (suc k)) ≤ n = sum_ones n (λ k. f (suc k)) (λ k p. h (suc k) (omega arith)) in
    omega arith

-- n summands of at most 1 that come to n are each 1
all_ones : (n : ℕ) (f : ℕ → ℕ) → ((k : ℕ) → k < n → f k ≤ 1) → n ≤ sum n f → (k : ℕ) → k < n → f k ≡ 1
all_ones zero f h s k p = absurd (omega arith)
all_ones (suc n) f h s zero p =
    let a : f 0 ≤ 1 = h 0 (omega arith) in
    let b : sum n (λ k. f (suc k)) ≤ n = sum_ones n (λ k. f (suc k)) (λ k p. h (suc k) (omega arith)) in
    omega arith
all_ones (suc n) f h s (suc k) p =
    let a : f 0 ≤ 1 = h 0 (omega arith) in
    all_ones n (λ k. f (suc k)) (λ k p. h (suc k) (omega arith)) (omega arith) k (omega arith)

weigh_ones : (ps : List ℕ) → weigh (λ k. 1) ps ≡ length ps
weigh_ones [] = refl
weigh_ones (p ∷ ps) = let a : weigh (λ k. 1) ps ≡ length ps = weigh_ones ps in omega arith

-- n places below n of which none stands twice are all of them
pub all_places : (n : ℕ) (ps : List ℕ) → length ps ≡ n → Below n ps → ((k : ℕ) → times k ps ≤ 1) → Arrangement n ps
all_places n ps l b d = record {
  long = l;
  within = b;
  once = all_ones n (λ k. times k ps) (λ k h. d k) (omega (arith, total));
}
  where
    total : sum n (λ k. times k ps) ≡ length ps
    total =
        sum_ext n (λ k. times k ps) (λ k. times k ps * 1) (λ k h. sym (mul-one (times k ps)))
        ∙ sym (counted n (λ k. 1) ps b) ∙ weigh_ones ps
