-- The fields of a line, span by span.
-- Assumes nothing.
use mathlib.Core.Path.{◌≡◌, refl, sym, ap, ◌∙◌}
use mathlib.Core.List.{List, [], ◌∷◌}
use mathlib.Core.Bool.{Bool, true, false, cond, ◌&&◌}
use Prim.Native.Nat.{ℕ, suc, ◌+◌, ◌-◌, ◌*◌, ◌≤◌, ◌<◌}
use native.Mathlib.Omega.{arith}
use lib.Dec.{eqb, leb}
use lib.ListN.{length, take, drop, get_or, length-drop}
use lib.Seq.{drop-drop, get_or-drop}
use borrow.Author.Tests.{ne_eqb, le-leb, leb-true, eqb-true, eqb-false}
use Rattle.text.specs.declared.field.Field.{Field}
use Rattle.text.specs.declared.field.Field.TheVariants.{Number as number, Empty as empty, Malformed as malformed}
use Rattle.text.specs.Text.{most, until, onto, parts, run, field, fields, line}
use Rattle.text.specs.Scan.{span, more_digits, first}

-- a field that goes on after a number that is not 0
turn_at : (l h k : Bool) (a b : Field) → a ≡ b → cond l (cond h (cond k a malformed) malformed) malformed ≡ cond ((l && h) && k) b malformed
turn_at true true true a b e = e
turn_at true true false a b e = refl
turn_at true false k a b e = refl
turn_at false h k a b e = refl

more_at : (c f : Bool) (n b : ℕ) (bs : List ℕ) → (n ≡ 0 → ⊥) → (let m : ℕ = n * 10 + (b - 48) in more_digits m bs ≡ run most m (take (span bs) bs)) → (let m : ℕ = n * 10 + (b - 48) in cond c (number n) (cond f (number n) (cond (leb 48 b) (cond (leb b 57) (cond (eqb n 0) malformed (cond (leb m most) (more_digits m bs) malformed)) malformed) malformed)) ≡ run most n (take (cond c 0 (cond f 0 (suc (span bs)))) (b ∷ bs)))
unfolding run
more_at true f n b bs n0 ih = refl
more_at false true n b bs n0 ih = refl
more_at false false n b bs n0 ih = rw (ne_eqb n 0 n0) (turn_at (leb 48 b) (leb b 57) (leb (n * 10 + (b - 48)) most) _ _ ih)

pub digits_run : (n : ℕ) (xs : List ℕ) → (n ≡ 0 → ⊥) → more_digits n xs ≡ run most n (take (span xs) xs)
unfolding more_digits span run
digits_run n [] n0 = refl
digits_run n (b ∷ bs) n0 = more_at (eqb b 44) (eqb b 10) n b bs n0 (digits_run (n * 10 + (b - 48)) bs (λ e. omega arith))

-- a field that goes on after a 0
abbrev zeroed : List ℕ → Field
zeroed [] = number 0
zeroed (y ∷ ys) = malformed

all_bad : (l h : Bool) → cond l (cond h malformed malformed) malformed ≡ malformed
all_bad true true = refl
all_bad true false = refl
all_bad false h = refl

zero_at : (c f : Bool) (b : ℕ) (bs : List ℕ) → cond c (number 0) (cond f (number 0) (cond (leb 48 b) (cond (leb b 57) malformed malformed) malformed)) ≡ zeroed (take (cond c 0 (cond f 0 (suc (span bs)))) (b ∷ bs))
zero_at true f b bs = refl
zero_at false true b bs = refl
zero_at false false b bs = all_bad (leb 48 b) (leb b 57)

digits_zeroed : (xs : List ℕ) → more_digits 0 xs ≡ zeroed (take (span xs) xs)
unfolding more_digits span
digits_zeroed [] = refl
digits_zeroed (b ∷ bs) = zero_at (eqb b 44) (eqb b 10) b bs

-- a digit, and the span that follows it
run_digit : (b : ℕ) (zs : List ℕ) → 48 ≤ b → b ≤ 57 → run most 0 (b ∷ zs) ≡ run most (b - 48) zs
unfolding run
run_digit b zs l h = let e : 0 * 10 + (b - 48) ≡ b - 48 = omega arith in rw (e, le-leb 48 b l, le-leb b 57 h, le-leb (b - 48) most (omega arith))

digit_at : (z : Bool) (b : ℕ) (bs ys : List ℕ) → eqb b 48 ≡ z → 48 ≤ b → b ≤ 57 → take (span bs) bs ≡ ys → more_digits (b - 48) bs ≡ field most (b ∷ ys)
unfolding field run
digit_at true b bs [] p l h e = let k : b - 48 ≡ 0 = omega (arith, eqb-true b 48 p) in rw (run_digit b [] l h, k) (digits_zeroed bs ∙ ap zeroed e)
digit_at true b bs (y ∷ ys) p l h e = let k : b - 48 ≡ 0 = omega (arith, eqb-true b 48 p) in rw (p, k) (digits_zeroed bs ∙ ap zeroed e)
digit_at false b bs [] p l h e = let k : b - 48 ≡ 0 → ⊥ = λ q. eqb-false b 48 p (omega arith) in rw (run_digit b [] l h) (digits_run (b - 48) bs k ∙ ap (run most (b - 48)) e)
digit_at false b bs (y ∷ ys) p l h e = let k : b - 48 ≡ 0 → ⊥ = λ q. eqb-false b 48 p (omega arith) in rw (p, run_digit b (y ∷ ys) l h) (digits_run (b - 48) bs k ∙ ap (run most (b - 48)) e)

same_either : (t : Bool) (f : Field) → f ≡ cond t f f
same_either true f = refl
same_either false f = refl

begun_at : (l h : Bool) (b : ℕ) (bs ys : List ℕ) → leb 48 b ≡ l → leb b 57 ≡ h → take (span bs) bs ≡ ys → cond l (cond h (more_digits (b - 48) bs) malformed) malformed ≡ field most (b ∷ ys)
unfolding field run
begun_at false h b bs [] p q e = rw p
begun_at false h b bs (y ∷ ys) p q e = rw p (same_either (eqb b 48) malformed)
begun_at true false b bs [] p q e = rw (p, q)
begun_at true false b bs (y ∷ ys) p q e = rw (p, q) (same_either (eqb b 48) malformed)
begun_at true true b bs ys p q e = digit_at (eqb b 48) b bs ys refl (leb-true 48 b p) (leb-true b 57 q) e

first_at_lem : (c f : Bool) (b : ℕ) (bs : List ℕ) → cond c empty (cond f empty (cond (leb 48 b) (cond (leb b 57) (more_digits (b - 48) bs) malformed) malformed)) ≡ field most (take (cond c 0 (cond f 0 (suc (span bs)))) (b ∷ bs))
unfolding field
first_at_lem true f b bs = refl
first_at_lem false true b bs = refl
first_at_lem false false b bs = begun_at (leb 48 b) (leb b 57) b bs (take (span bs) bs) refl refl refl

pub first_field : (xs : List ℕ) → first xs ≡ field most (take (span xs) xs)
unfolding first span field
first_field [] = refl
first_field (b ∷ bs) = first_at_lem (eqb b 44) (eqb b 10) b bs

-- where a span ends
le_at : (c f : Bool) (u l : ℕ) → u ≤ l → cond c 0 (cond f 0 (suc u)) ≤ suc l
le_at true f u l h = omega arith
le_at false true u l h = omega arith
le_at false false u l h = omega arith

pub span_le : (xs : List ℕ) → span xs ≤ length xs
unfolding span
span_le [] = omega arith
span_le (x ∷ xs) = le_at (eqb x 44) (eqb x 10) (span xs) (length xs) (span_le xs)

stopped_at : (c f : Bool) (x : ℕ) (xs : List ℕ) → eqb x 44 ≡ c → eqb x 10 ≡ f → cond c 0 (cond f 0 (suc (span xs))) < suc (length xs) → (get_or (x ∷ xs) (cond c 0 (cond f 0 (suc (span xs)))) 0 ≡ 10 → ⊥) → (span xs < length xs → (get_or xs (span xs) 0 ≡ 10 → ⊥) → get_or xs (span xs) 0 ≡ 44) → get_or (x ∷ xs) (cond c 0 (cond f 0 (suc (span xs)))) 0 ≡ 44
stopped_at true f x xs p q h n ih = eqb-true x 44 p
stopped_at false true x xs p q h n ih = absurd (n (eqb-true x 10 q))
stopped_at false false x xs p q h n ih = ih (omega arith) n

stopped : (xs : List ℕ) → span xs < length xs → (get_or xs (span xs) 0 ≡ 10 → ⊥) → get_or xs (span xs) 0 ≡ 44
unfolding span
stopped [] h n = absurd (omega arith)
stopped (x ∷ xs) h n = stopped_at (eqb x 44) (eqb x 10) x xs refl refl h n (stopped xs)

lf_at : (c f : Bool) (x : ℕ) (xs : List ℕ) → eqb x 44 ≡ c → get_or (x ∷ xs) (cond c 0 (cond f 0 (suc (span xs)))) 0 ≡ 10 → (get_or xs (span xs) 0 ≡ 10 → until 10 xs ≡ span xs) → cond f 0 (suc (until 10 xs)) ≡ cond c 0 (cond f 0 (suc (span xs)))
lf_at true f x xs p g ih = let z : x ≡ 44 = eqb-true x 44 p in absurd (omega arith)
lf_at false true x xs p g ih = refl
lf_at false false x xs p g ih = ap suc (ih g)

until_lf : (xs : List ℕ) → get_or xs (span xs) 0 ≡ 10 → until 10 xs ≡ span xs
unfolding span until
until_lf [] g = refl
until_lf (x ∷ xs) g = lf_at (eqb x 44) (eqb x 10) x xs refl g (until_lf xs)

end_at : (c f : Bool) (x : ℕ) (xs : List ℕ) → cond c 0 (cond f 0 (suc (span xs))) ≡ suc (length xs) → (span xs ≡ length xs → until 10 xs ≡ span xs) → cond f 0 (suc (until 10 xs)) ≡ cond c 0 (cond f 0 (suc (span xs)))
end_at true f x xs g ih = absurd (omega arith)
end_at false true x xs g ih = refl
end_at false false x xs g ih = ap suc (ih (omega arith))

until_end : (xs : List ℕ) → span xs ≡ length xs → until 10 xs ≡ span xs
unfolding span until
until_end [] g = refl
until_end (x ∷ xs) g = end_at (eqb x 44) (eqb x 10) x xs g (until_end xs)

-- a span has no comma
free_at : (c f : Bool) (x : ℕ) (xs : List ℕ) → eqb x 44 ≡ c → parts 44 (take (span xs) xs) ≡ take (span xs) xs ∷ [] → parts 44 (take (cond c 0 (cond f 0 (suc (span xs)))) (x ∷ xs)) ≡ take (cond c 0 (cond f 0 (suc (span xs)))) (x ∷ xs) ∷ []
unfolding parts onto
free_at true f x xs p ih = refl
free_at false true x xs p ih = refl
free_at false false x xs p ih = rw (p, ih)

free : (xs : List ℕ) → parts 44 (take (span xs) xs) ≡ take (span xs) xs ∷ []
unfolding span parts
free [] = refl
free (x ∷ xs) = free_at (eqb x 44) (eqb x 10) x xs refl (free xs)

-- a span that a comma ends
record Then (xs : List ℕ) (w : ℕ) : Type 0 where
  ends : until 10 xs ≡ suc (w + until 10 (drop (suc w) xs))
  split : parts 44 (take (until 10 xs) xs) ≡ take w xs ∷ parts 44 (take (until 10 (drop (suc w) xs)) (drop (suc w) xs))

then_at : (c f : Bool) (x : ℕ) (xs : List ℕ) → eqb x 44 ≡ c → eqb x 10 ≡ f → get_or (x ∷ xs) (cond c 0 (cond f 0 (suc (span xs)))) 0 ≡ 44 → (get_or xs (span xs) 0 ≡ 44 → Then xs (span xs)) → Then (x ∷ xs) (cond c 0 (cond f 0 (suc (span xs))))
unfolding until parts onto
then_at true true x xs p q g ih = let z : x ≡ 10 = eqb-true x 10 q in absurd (omega arith)
then_at true false x xs p q g ih = record { ends = rw q (omega arith); split = rw (q, p) }
then_at false true x xs p q g ih = let z : x ≡ 10 = eqb-true x 10 q in absurd (omega arith)
then_at false false x xs p q g ih = record { ends = rw q (omega (arith, (ih g).ends)); split = rw (q, p, (ih g).split) }

then : (xs : List ℕ) → get_or xs (span xs) 0 ≡ 44 → Then xs (span xs)
unfolding span
then [] g = absurd (omega arith)
then (x ∷ xs) g = then_at (eqb x 44) (eqb x 10) x xs refl refl g (then xs)

-- at a position i of a text s, where the field that begins there ends at j
module _ (s : List ℕ) (i j : ℕ) (found : j ≡ i + span (drop i s)) where
  ended : until 10 (drop i s) ≡ span (drop i s) → fields (line (drop i s)) ≡ first (drop i s) ∷ []
  unfolding fields line
  ended e = rw (e, free (drop i s), first_field (drop i s))

  pub out_until : length s ≤ j → until 10 (drop i s) ≡ span (drop i s)
  out_until h = until_end (drop i s) (omega (arith, span_le (drop i s), length-drop i s))

  pub out_fields : length s ≤ j → fields (line (drop i s)) ≡ first (drop i s) ∷ []
  out_fields h = ended (out_until h)

  here : get_or (drop i s) (span (drop i s)) 0 ≡ get_or s j 0
  here = rw (get_or-drop, found)

  pub lf_until : get_or s j 0 ≡ 10 → until 10 (drop i s) ≡ span (drop i s)
  lf_until g = until_lf (drop i s) (here ∙ g)

  pub lf_fields : get_or s j 0 ≡ 10 → fields (line (drop i s)) ≡ first (drop i s) ∷ []
  lf_fields g = ended (lf_until g)

  module _ (inside : j < length s) (n : get_or s j 0 ≡ 10 → ⊥) where
    comma : get_or (drop i s) (span (drop i s)) 0 ≡ 44
    comma = stopped (drop i s) (omega (arith, length-drop i s)) (λ g. n (sym here ∙ g))

    onward : drop (suc (span (drop i s))) (drop i s) ≡ drop (j + 1) s
    onward = let e : j + 1 ≡ i + suc (span (drop i s)) = omega arith in rw (e, drop-drop (suc (span (drop i s))) i s)

    pub comma_until : i + until 10 (drop i s) ≡ j + 1 + until 10 (drop (j + 1) s)
    comma_until = rw (← onward) (omega (arith, (then (drop i s) comma).ends))

    pub comma_fields : fields (line (drop i s)) ≡ first (drop i s) ∷ fields (line (drop (j + 1) s))
    unfolding fields line
    comma_fields = rw (← onward, first_field (drop i s), (then (drop i s) comma).split)
