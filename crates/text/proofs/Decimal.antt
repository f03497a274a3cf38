-- The decimal digits of a number: how they go on from those of its tenth, and how many there are.
-- Assumes nothing.
use mathlib.Core.Path.{◌≡◌, refl, ap, ◌∙◌}
use mathlib.Core.List.{List, [], ◌∷◌, ◌++◌}
use mathlib.Core.Bool.{Bool, true, false, cond}
use Prim.Native.Nat.{ℕ, zero, suc, ◌+◌, ◌*◌, ◌/◌, ◌%◌, ◌^◌, ◌≤◌, ◌<◌}
use native.Mathlib.Nat.{pow-suc}
use native.Mathlib.Omega.{arith}
use lib.Dec.{ltb}
use lib.ListN.{length, length-append}
use borrow.Author.Tests.{ltb-true, ltb-false, lt-ltb, le-ltb}
use Rattle.text.specs.Write.{digits, decimal}

-- as much fuel as the number is, or more: the digits are the same
same_at : (t : Bool) (n : ℕ) (a b : List ℕ) → (t ≡ false → a ≡ b) → cond t ((48 + n) ∷ []) (a ++ ((48 + n % 10) ∷ [])) ≡ cond t ((48 + n) ∷ []) (b ++ ((48 + n % 10) ∷ []))
same_at true n a b h = refl
same_at false n a b h = ap (λ (l : List ℕ). l ++ ((48 + n % 10) ∷ [])) (h refl)

same : (k j n : ℕ) → n ≤ k → n ≤ j → digits k n ≡ digits j n
unfolding digits
same zero zero n h l = refl
same zero (suc j) n h l = rw (lt-ltb n 10 (omega arith))
same (suc k) zero n h l = rw (lt-ltb n 10 (omega arith))
same (suc k) (suc j) n h l = same_at (ltb n 10) n (digits k (n / 10)) (digits j (n / 10)) (λ e. let big : 10 ≤ n = ltb-false n 10 e in same k j (n / 10) (omega arith) (omega arith))

pub decimal_one : (n : ℕ) → n < 10 → decimal n ≡ (48 + n) ∷ []
unfolding decimal digits
decimal_one zero h = refl
decimal_one (suc n) h = rw (lt-ltb (suc n) 10 h)

pub decimal_more : (n : ℕ) → 10 ≤ n → decimal n ≡ decimal (n / 10) ++ ((48 + n % 10) ∷ [])
unfolding decimal digits
decimal_more zero h = absurd (omega arith)
decimal_more (suc n) h = rw (le-ltb (suc n) 10 h) (ap (λ (l : List ℕ). l ++ ((48 + suc n % 10) ∷ [])) (same n (suc n / 10) (suc n / 10) (omega arith) (omega arith)))

-- what holds of the digits alone, and of a number's digits if of its tenth's, holds of every number's digits
pub by_tenths : (P : ℕ → Type 0) → ((n : ℕ) → n < 10 → P n) → ((n : ℕ) → 10 ≤ n → P (n / 10) → P n) → (n : ℕ) → P n
by_tenths P one more n = go (suc n) n (omega arith)
  where
    pick : (k n : ℕ) → n < suc k → ((m : ℕ) → m < k → P m) → (t : Bool) → ltb n 10 ≡ t → P n
    pick k n h ih true e = one n (ltb-true n 10 e)
    pick k n h ih false e = let big : 10 ≤ n = ltb-false n 10 e in more n big (ih (n / 10) (omega arith))

    go : (k n : ℕ) → n < k → P n
    go zero n h = absurd (omega arith)
    go (suc k) n h = pick k n h (go k) (ltb n 10) refl

-- ---- how many there are

pub decimal_some : (n : ℕ) → 0 < length (decimal n)
decimal_some = by_tenths (λ n. 0 < length (decimal n))
    (λ n h. rw (decimal_one n h) (omega arith))
    (λ n h ih. rw (decimal_more n h, length-append) (omega arith))

pub length_more : (n : ℕ) → 10 ≤ n → length (decimal n) ≡ length (decimal (n / 10)) + 1
length_more n h = ap length (decimal_more n h) ∙ length-append (decimal (n / 10)) ((48 + n % 10) ∷ [])

pub length_one : (n : ℕ) → n < 10 → length (decimal n) ≡ 1
length_one n h = ap length (decimal_one n h)

below_at_lem : (k n : ℕ) → n < 10 ^ suc (suc k) → ((m : ℕ) → m < 10 ^ suc k → length (decimal m) ≤ suc k) → (t : Bool) → ltb n 10 ≡ t → length (decimal n) ≤ suc (suc k)
below_at_lem k n h ih true e = omega (arith, length_one n (ltb-true n 10 e))
below_at_lem k n h ih false e =
    let big : 10 ≤ n = ltb-false n 10 e in
    let less : n < 10 ^ suc k * 10 = rw (pow-suc 10 (suc k)) at h in
    omega (arith, length_more n big, ih (n / 10) (omega arith))

-- a number below 10^k has at most k digits, k at least 1
pub decimal_below : (k n : ℕ) → n < 10 ^ suc k → length (decimal n) ≤ suc k
decimal_below zero n h = omega (arith, length_one n h)
decimal_below (suc k) n h = below_at_lem k n h (decimal_below k) (ltb n 10) refl

pow_some : (k : ℕ) → 1 ≤ 10 ^ k
pow_some zero = omega arith
pow_some (suc k) = rw (pow-suc 10 k) (omega (arith, pow_some k))

-- a number from 10^k on has more than k digits
pub decimal_from : (k n : ℕ) → 10 ^ k ≤ n → k < length (decimal n)
decimal_from zero n h = decimal_some n
decimal_from (suc k) n h =
    let more : 10 ^ k * 10 ≤ n = rw (pow-suc 10 k) at h in
    let big : 10 ≤ n = omega (arith, pow_some k) in
    omega (arith, length_more n big, decimal_from k (n / 10) (omega arith))

-- so the length is known from the powers of ten on either side
pub decimal_between : (k n : ℕ) → 10 ^ k ≤ n → n < 10 ^ suc k → length (decimal n) ≡ suc k
decimal_between k n h l = omega (arith, decimal_from k n h, decimal_below k n l)

-- a larger number has no fewer digits
pub decimal_monotone : (b a : ℕ) → a ≤ b → length (decimal a) ≤ length (decimal b)
decimal_monotone = by_tenths (λ b. (a : ℕ) → a ≤ b → length (decimal a) ≤ length (decimal b))
    (λ b h a l. omega (arith, length_one a (omega arith), length_one b h))
    (λ b h ih a l. pick b h ih a l (ltb a 10) refl)
  where
    pick : (b : ℕ) → 10 ≤ b → ((a : ℕ) → a ≤ b / 10 → length (decimal a) ≤ length (decimal (b / 10))) → (a : ℕ) → a ≤ b → (t : Bool) → ltb a 10 ≡ t → length (decimal a) ≤ length (decimal b)
    pick b h ih a l true e = omega (arith, length_one a (ltb-true a 10 e), decimal_some b)
    pick b h ih a l false e = let big : 10 ≤ a = ltb-false a 10 e in omega (arith, length_more a big, length_more b h, ih (a / 10) (omega arith))
