-- What reading a field gives, exactly: a number where the text is that number's decimal text and it is no larger than asked, and empty where there is no text.
-- Assumes nothing.
use mathlib.Core.Path.{◌≡◌, refl, sym, ap, ◌∙◌}
use mathlib.Core.List.{List, [], ◌∷◌, ◌++◌, append-nil, append_assoc}
use mathlib.Core.Bool.{Bool, true, false, cond, ◌&&◌}
use Prim.Native.Nat.{ℕ, ◌+◌, ◌-◌, ◌*◌, ◌/◌, ◌%◌, ◌≤◌, ◌<◌, max}
use native.Mathlib.Omega.{arith}
use lib.Dec.{ltb, leb, eqb}
use lib.ListN.{length, get_or, get_or-append}
use borrow.Author.Tests.{le-leb, leb-true, ne_eqb, eqb-false, ltb-true, ltb-false}
use Rattle.std.proofs.lemmas.Bool.{and_parts}
use Rattle.text.specs.declared.field.Field.{Field}
use Rattle.text.specs.declared.field.Field.TheVariants.{Number as number, Empty as empty, Malformed as malformed}
use Rattle.text.specs.Text.{run, field, is_digit}
use Rattle.text.specs.Write.{decimal}
use Rattle.text.specs.Bounds.{Bound, allows}
use Rattle.text.proofs.Decimal.{decimal_one, decimal_more, decimal_some, length_one, length_more, by_tenths}

-- ---- what is read as a number is its decimal text

-- a byte that a number goes on with
record Digit (m a x : ℕ) : Type 0 where
  low : 48 ≤ x
  high : x ≤ 57
  within : a * 10 + (x - 48) ≤ m

digit : (m a x : ℕ) → (is_digit x && leb (a * 10 + (x - 48)) m) ≡ true → Digit m a x
digit m a x e =
    let p = and_parts (is_digit x) (leb (a * 10 + (x - 48)) m) e in
    let q = and_parts (leb 48 x) (leb x 57) p.0 in
    record { low = leb-true 48 x q.0; high = leb-true x 57 q.1; within = leb-true (a * 10 + (x - 48)) m p.1 }

-- the digits xs after those of a are the digits of v
record After (m a : ℕ) (xs : List ℕ) (v : ℕ) : Type 0 where
  text : decimal v ≡ decimal a ++ xs
  within : v ≤ m

run_at : (t : Bool) (m a x : ℕ) (xs : List ℕ) (v : ℕ) → (is_digit x && leb (a * 10 + (x - 48)) m) ≡ t → 1 ≤ a → cond t (run m (a * 10 + (x - 48)) xs) malformed ≡ number v → (1 ≤ a * 10 + (x - 48) → a * 10 + (x - 48) ≤ m → run m (a * 10 + (x - 48)) xs ≡ number v → After m (a * 10 + (x - 48)) xs v) → After m a (x ∷ xs) v
run_at true m a x xs v t h e ih =
    let d = digit m a x t in
    let tenth : (a * 10 + (x - 48)) / 10 ≡ a = omega (arith, d.low, d.high) in
    let last : 48 + (a * 10 + (x - 48)) % 10 ≡ x = omega (arith, d.low, d.high) in
    let whole : decimal (a * 10 + (x - 48)) ≡ decimal a ++ (x ∷ []) = decimal_more (a * 10 + (x - 48)) (omega arith) ∙ rw (tenth, last) in
    let r = ih (omega arith) d.within e in
    record { text = r.text ∙ ap (λ (ys : List ℕ). ys ++ xs) whole ∙ append_assoc (decimal a) (x ∷ []) xs; within = r.within }
run_at false m a x xs v t h e ih = absurd (cc)

run_after : (xs : List ℕ) (m a v : ℕ) → 1 ≤ a → a ≤ m → run m a xs ≡ number v → After m a xs v
unfolding run
run_after [] m a v h l e = let q : a ≡ v = cc in record { text = rw (← q) (sym (append-nil (decimal a))); within = omega arith }
run_after (x ∷ xs) m a v h l e = run_at (is_digit x && leb (a * 10 + (x - 48)) m) m a x xs v refl h e (run_after xs m (a * 10 + (x - 48)) v)

-- a first digit, and what follows it
one_at : (t : Bool) (m b v : ℕ) → (is_digit b && leb (0 * 10 + (b - 48)) m) ≡ t → cond t (number (0 * 10 + (b - 48))) malformed ≡ number v → (b ∷ [] ≡ decimal v) × (v ≤ m)
one_at true m b v t e =
    let d = digit m 0 b t in
    let q : 0 * 10 + (b - 48) ≡ v = cc in
    let w : 48 + v ≡ b = omega (arith, d.low) in
    (sym (decimal_one v (omega (arith, d.high)) ∙ ap (λ (x : ℕ). x ∷ []) w), omega (arith, d.within))
one_at false m b v t e = absurd (cc)

two_at : (t : Bool) (m b c : ℕ) (cs : List ℕ) (v : ℕ) → (is_digit b && leb (0 * 10 + (b - 48)) m) ≡ t → (b ≡ 48 → ⊥) → cond t (run m (0 * 10 + (b - 48)) (c ∷ cs)) malformed ≡ number v → (b ∷ c ∷ cs ≡ decimal v) × (v ≤ m)
two_at true m b c cs v t ne e =
    let d = digit m 0 b t in
    let r = run_after (c ∷ cs) m (0 * 10 + (b - 48)) v (omega (arith, d.low)) d.within e in
    let w : 48 + (0 * 10 + (b - 48)) ≡ b = omega (arith, d.low) in
    let f : decimal (0 * 10 + (b - 48)) ≡ b ∷ [] = decimal_one (0 * 10 + (b - 48)) (omega (arith, d.high)) ∙ ap (λ (x : ℕ). x ∷ []) w in
    (sym (r.text ∙ ap (λ (ys : List ℕ). ys ++ (c ∷ cs)) f), r.within)
two_at false m b c cs v t ne e = absurd (cc)

lead_at : (t : Bool) (m b c : ℕ) (cs : List ℕ) (v : ℕ) → eqb b 48 ≡ t → cond t malformed (run m 0 (b ∷ c ∷ cs)) ≡ number v → (b ∷ c ∷ cs ≡ decimal v) × (v ≤ m)
unfolding run
lead_at true m b c cs v t e = absurd (cc)
lead_at false m b c cs v t e = two_at (is_digit b && leb (0 * 10 + (b - 48)) m) m b c cs v refl (eqb-false b 48 t) e

number_only : (m : ℕ) (xs : List ℕ) (n : ℕ) → field m xs ≡ number n → (xs ≡ decimal n) × (n ≤ m)
unfolding field run
number_only m [] n e = absurd (cc)
number_only m (b ∷ []) n e = one_at (is_digit b && leb (0 * 10 + (b - 48)) m) m b n refl e
number_only m (b ∷ c ∷ cs) n e = lead_at (eqb b 48) m b c cs n refl e

-- ---- a number's decimal text is read as that number

last_at : (t : Bool) (p q r : Field) (v : ℕ) → cond t p malformed ≡ number v → (p ≡ number v → q ≡ r) → cond t q malformed ≡ r
last_at true p q r v e ih = ih e
last_at false p q r v e ih = absurd (cc)

run_last : (xs : List ℕ) (m a v d : ℕ) → run m a xs ≡ number v → run m a (xs ++ (d ∷ [])) ≡ run m v (d ∷ [])
unfolding run
run_last [] m a v d e = let q : a ≡ v = cc in rw q
run_last (x ∷ xs) m a v d e =
    last_at (is_digit x && leb (a * 10 + (x - 48)) m) (run m (a * 10 + (x - 48)) xs) (run m (a * 10 + (x - 48)) (xs ++ (d ∷ []))) (run m v (d ∷ [])) v e
    (λ p. run_last xs m (a * 10 + (x - 48)) v d p)

run_digit : (m v d : ℕ) → d < 10 → v * 10 + d ≤ m → run m v ((48 + d) ∷ []) ≡ number (v * 10 + d)
unfolding run
run_digit m v d h l =
    let e : 48 + d - 48 ≡ d = omega arith in
    rw (e, le-leb 48 (48 + d) (omega arith), le-leb (48 + d) 57 (omega arith), le-leb (v * 10 + d) m l)

run_decimal : (m n : ℕ) → n ≤ m → run m 0 (decimal n) ≡ number n
run_decimal m = by_tenths (λ n. n ≤ m → run m 0 (decimal n) ≡ number n)
    (λ n h l. rw (decimal_one n h) (run_digit m 0 n h (omega arith) ∙ ap number (omega arith)))
    (λ n h ih l. rw (decimal_more n h) (run_last (decimal (n / 10)) m 0 (n / 10) (48 + n % 10) (ih (omega arith)) ∙ run_digit m (n / 10) (n % 10) (omega arith) (omega arith) ∙ ap number (omega arith)))

-- it begins with no 0, unless it is 0
first_digit : (n : ℕ) → 1 ≤ n → get_or (decimal n) 0 0 ≡ 48 → ⊥
first_digit = by_tenths (λ n. 1 ≤ n → get_or (decimal n) 0 0 ≡ 48 → ⊥)
    (λ n h. rw (decimal_one n h) (λ l e. omega arith))
    (λ n h ih l e. ih (omega arith) (sym (get_or-append (decimal (n / 10)) ((48 + n % 10) ∷ []) 0 0 (decimal_some (n / 10))) ∙ (rw (decimal_more n h) at e)))

field_one : (m : ℕ) (s : List ℕ) → length s ≡ 1 → field m s ≡ run m 0 s
unfolding field
field_one m [] h = absurd (omega arith)
field_one m (b ∷ []) h = refl
field_one m (b ∷ c ∷ cs) h = absurd (omega arith)

field_more : (m : ℕ) (s : List ℕ) → 1 < length s → (get_or s 0 0 ≡ 48 → ⊥) → field m s ≡ run m 0 s
unfolding field
field_more m [] h e = absurd (omega arith)
field_more m (b ∷ []) h e = absurd (omega arith)
field_more m (b ∷ c ∷ cs) h e = rw (ne_eqb b 48 e)

number_every : (m n : ℕ) → n ≤ m → field m (decimal n) ≡ number n
number_every m n l = go (ltb n 10) refl
  where
    go : (t : Bool) → ltb n 10 ≡ t → field m (decimal n) ≡ number n
    go true e = field_one m (decimal n) (length_one n (ltb-true n 10 e)) ∙ run_decimal m n l
    go false e =
        let big : 10 ≤ n = ltb-false n 10 e in
        field_more m (decimal n) (omega (arith, length_more n big, decimal_some (n / 10))) (first_digit n (omega arith)) ∙ run_decimal m n l

-- ---- the law, for every largest number

pub number_exact : (m : ℕ) (xs : List ℕ) (n : ℕ) → (field m xs ≡ number n → (xs ≡ decimal n) × (n ≤ m)) × (xs ≡ decimal n → n ≤ m → field m xs ≡ number n)
number_exact m xs n = (number_only m xs n, λ e l. rw e (number_every m n l))

some_at_lem : (t : Bool) (f : Field) → (f ≡ empty → ⊥) → cond t f malformed ≡ empty → ⊥
some_at_lem true f n e = n e
some_at_lem false f n e = cc

run_some : (m a : ℕ) (xs : List ℕ) → run m a xs ≡ empty → ⊥
unfolding run
run_some m a [] e = cc
run_some m a (x ∷ xs) e = some_at_lem (is_digit x && leb (a * 10 + (x - 48)) m) (run m (a * 10 + (x - 48)) xs) (run_some m (a * 10 + (x - 48)) xs) e

empty_at : (t : Bool) (f : Field) → (f ≡ empty → ⊥) → cond t malformed f ≡ empty → ⊥
empty_at true f n e = cc
empty_at false f n e = n e

empty_only : (m : ℕ) (xs : List ℕ) → field m xs ≡ empty → xs ≡ []
unfolding field
empty_only m [] e = refl
empty_only m (b ∷ []) e = absurd (run_some m 0 (b ∷ []) e)
empty_only m (b ∷ c ∷ cs) e = absurd (empty_at (eqb b 48) (run m 0 (b ∷ c ∷ cs)) (run_some m 0 (b ∷ c ∷ cs)) e)

pub empty_exact : (m : ℕ) (xs : List ℕ) → (field m xs ≡ empty → xs ≡ []) × (xs ≡ [] → field m xs ≡ empty)
unfolding field
empty_exact m xs = (empty_only m xs, λ e. rw e)

-- two numbers have one decimal text only if they are the same
pub decimal_injective : (a b : ℕ) → decimal a ≡ decimal b → a ≡ b
decimal_injective a b e =
    let p : field (max a b) (decimal a) ≡ number a = number_every (max a b) a (omega arith) in
    let q : field (max a b) (decimal a) ≡ number b = (number_exact (max a b) (decimal a) b).1 e (omega arith) in
    cc

-- ---- a smaller largest number

-- what was read up to m is judged by a bound as what is read up to the bound's own number
module _ (b : Bound) (m : ℕ) (wider : b.largest ≤ m) (xs : List ℕ) where
  above_at : (n : ℕ) (t : Bool) → leb n b.largest ≡ t → field m xs ≡ number n → field b.largest xs ≡ malformed → t ≡ false
  above_at n true t e f =
      let q : field b.largest xs ≡ number n = (number_exact b.largest xs n).1 ((number_exact m xs n).0 e).0 (leb-true n b.largest t) in
      let z : ◌≡◌ {A = ℕ} 0 1 = cc in
      absurd (omega arith)
  above_at n false t e f = refl

  own_at : (f g : Field) → field m xs ≡ f → field b.largest xs ≡ g → allows b f ≡ allows b g
  own_at f (number n) e g =
      let r = (number_exact b.largest xs n).0 g in
      let q : field m xs ≡ number n = (number_exact m xs n).1 r.0 (omega (arith, r.1)) in
      ap (allows b) (sym e ∙ q)
  own_at f empty e g =
      let q : field m xs ≡ empty = (empty_exact m xs).1 ((empty_exact b.largest xs).0 g) in
      ap (allows b) (sym e ∙ q)
  own_at (number n) malformed e g = above_at n (leb n b.largest) refl e g
  own_at empty malformed e g =
      let q : field b.largest xs ≡ empty = (empty_exact b.largest xs).1 ((empty_exact m xs).0 e) in
      let z : ◌≡◌ {A = ℕ} 0 1 = cc in
      absurd (omega arith)
  own_at malformed malformed e g = refl

  pub allows_own : allows b (field m xs) ≡ allows b (field b.largest xs)
  allows_own = own_at (field m xs) (field b.largest xs) refl refl
