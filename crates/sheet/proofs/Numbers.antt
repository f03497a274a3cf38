-- Lines of numbers and what they stand for: expressions, rules, marks; what was made of a line's numbers is written as they stood.
use mathlib.Core.Path.{◌≡◌, refl, sym, ap, ◌∙◌}
use Prim.Native.Nat.{ℕ, zero, suc, ◌+◌, ◌*◌, ◌/◌, ◌%◌, ◌≤◌}
use native.Mathlib.Omega.{arith}
use mathlib.Core.List.{List, [], ◌∷◌, ◌++◌, map}
use mathlib.Core.Bool.{Bool, true, false, cond, not, ◌&&◌}
use mathlib.Core.Option.{none, some}
use lib.Dec.{eqb}
use lib.ListN.{length, take, drop, get_or, take-append-drop, drop_of_length-le}
use lib.Seq.{drop-cons}
use borrow.Author.Tests.{eqb-true, eqb-false, not-true, not-false}
use Rattle.std.proofs.lemmas.Bool.{and_parts}
use Rattle.text.specs.declared.field.Field.{Field}
use Rattle.text.specs.declared.field.Field.TheVariants.{Number as number, Empty as empty, Malformed as malformed}
use Rattle.text.specs.Text.{value_of}
use Rattle.text.specs.Bounds.{Bound, allows, allows_all, fits}
use Rattle.keys.specs.Expressions.{Expression}
use Rattle.linekinds.specs.Lines.{Kind, plain, whole_entries}
use Rattle.linekinds.specs.KeyLines.{values}
use Rattle.sheet.specs.KeySheets.{exprs, rules_of, mark, input_of, unused_keys}
use Rattle.sheet.specs.KeyAnswers.{expr_numbers}
use Rattle.sheet.specs.KeyTexts.{mark_number, rule_exprs, input_numbers}
use Rattle.sheet.proofs.InTurn.{Fine}

-- ---- fields that are numbers

-- no field of the bounds may be empty
unfoldable pub filled : List Bound → Bool
filled [] = true
filled (b ∷ bs) = not b.optional && filled bs

allows_number : (b : Bound) (f : Field) → b.optional ≡ false → allows b f ≡ true → number (value_of f) ≡ f
allows_number b (number n) o e = refl
allows_number b empty o e = absurd (cc)
allows_number b malformed o e = absurd (cc)

pub all_numbers : (fs : List Field) → allows_all plain fs ≡ true → map number (values fs) ≡ fs
unfolding allows_all
all_numbers [] e = refl
all_numbers (f ∷ fs) e = let p = and_parts (allows plain f) (allows_all plain fs) e in λ j. allows_number plain f refl p.0 j ∷ all_numbers fs p.1 j

fits_numbers : (bs : List Bound) (fs : List Field) → filled bs ≡ true → fits bs fs ≡ true → map number (values fs) ≡ fs
unfolding fits filled
fits_numbers bs [] o e = refl
fits_numbers [] (f ∷ fs) o e = absurd (cc)
fits_numbers (b ∷ bs) (f ∷ fs) o e =
    let p = and_parts (allows b f) (fits bs fs) e in
    let q = and_parts (not b.optional) (filled bs) o in
    λ j. allows_number b f (not-true b.optional q.0) p.0 j ∷ fits_numbers bs fs q.1 p.1 j

numbers_append : (fs gs : List Field) → map number (values fs) ≡ fs → map number (values gs) ≡ gs → map number (values (fs ++ gs)) ≡ fs ++ gs
numbers_append [] gs e h = h
numbers_append (f ∷ fs) gs e h =
    let a : number (value_of f) ≡ f = cc in
    let b : map number (values fs) ≡ fs = cc in
    λ j. a j ∷ numbers_append fs gs b h j

module _ (k : Kind) (fs : List Field) (fine : Fine k fs) where
  abbrev pub heads : ℕ
  heads = length k.heads

  pub fit_heads : fits k.heads (take heads fs) ≡ true
  fit_heads = (and_parts (fits k.heads (take heads fs)) (allows_all plain (drop heads fs) && whole_entries k.width (length (drop heads fs))) fine.fit).0

  pub fit_list : (allows_all plain (drop heads fs) ≡ true) × (whole_entries k.width (length (drop heads fs)) ≡ true)
  fit_list =
      and_parts (allows_all plain (drop heads fs)) (whole_entries k.width (length (drop heads fs)))
      (and_parts (fits k.heads (take heads fs)) (allows_all plain (drop heads fs) && whole_entries k.width (length (drop heads fs))) fine.fit).1

  -- a line without empty fields is its numbers
  pub row_numbers_lem : filled k.heads ≡ true → map number (values fs) ≡ fs
  row_numbers_lem o =
      rw (take-append-drop heads fs) at (numbers_append (take heads fs) (drop heads fs) (fits_numbers k.heads (take heads fs) o fit_heads) (all_numbers (drop heads fs) fit_list.0))

-- ---- a list by its places

abbrev pub spelled : {A : Type 0} → A → ℕ → ℕ → List A → List A
spelled d i zero xs = []
spelled d i (suc n) xs = get_or xs i d ∷ spelled d (suc i) n xs

pub spelled_out : {A : Type 0} (d : A) (n i : ℕ) (xs : List A) → length xs ≡ i + n → drop i xs ≡ spelled d i n xs
spelled_out d zero i xs h = drop_of_length-le xs {i = i} (omega arith)
spelled_out {A = A} d (suc n) i xs h = drop-cons xs i d (omega arith) ∙ ap (λ (ys : List A). get_or xs i d ∷ ys) (spelled_out d n (suc i) xs (omega arith))

-- ---- expressions, rules, marks

pub exprs_again : (ns : List ℕ) → length ns % 3 ≡ 0 → expr_numbers (exprs ns) ≡ ns
unfolding exprs
exprs_again [] h = refl
exprs_again (k ∷ []) h = absurd (omega arith)
exprs_again (k ∷ n ∷ []) h = absurd (omega arith)
exprs_again (k ∷ n ∷ i ∷ rest) h = ap (λ (ys : List ℕ). k ∷ n ∷ i ∷ ys) (exprs_again rest (omega arith))

pub exprs_length : (ns : List ℕ) → length ns % 3 ≡ 0 → length (exprs ns) * 3 ≡ length ns
unfolding exprs
exprs_length [] h = refl
exprs_length (k ∷ []) h = absurd (omega arith)
exprs_length (k ∷ n ∷ []) h = absurd (omega arith)
exprs_length (k ∷ n ∷ i ∷ rest) h = omega (arith, exprs_length rest (omega arith))

pub rules_again : (es : List Expression) → length es % 2 ≡ 0 → rule_exprs (rules_of es) ≡ es
unfolding rules_of
rules_again [] h = refl
rules_again (e ∷ []) h = absurd (omega arith)
rules_again (e ∷ f ∷ es) h = ap (λ (ys : List Expression). e ∷ f ∷ ys) (rules_again es (omega arith))

pub rules_length : (es : List Expression) → length es % 2 ≡ 0 → length (rules_of es) * 2 ≡ length es
unfolding rules_of
rules_length [] h = refl
rules_length (e ∷ []) h = absurd (omega arith)
rules_length (e ∷ f ∷ es) h = omega (arith, rules_length es (omega arith))

pub exprs_even : (ns : List ℕ) → length ns % 6 ≡ 0 → length (exprs ns) % 2 ≡ 0
exprs_even ns h =
    let e : length (exprs ns) ≡ 2 * (length ns / 6) = omega (arith, exprs_length ns (omega arith)) in
    rw e (omega arith)

pub rule_numbers_again : (ns : List ℕ) → length ns % 6 ≡ 0 → expr_numbers (rule_exprs (rules_of (exprs ns))) ≡ ns
rule_numbers_again ns h = rw (rules_again (exprs ns) (exprs_even ns h)) (exprs_again ns (omega arith))

mark_at : (t : Bool) (n : ℕ) → eqb n 1 ≡ t → n ≤ 1 → mark_number t ≡ n
mark_at true n e h = sym (eqb-true n 1 e)
mark_at false n e h = let ne : n ≡ 1 → ⊥ = eqb-false n 1 e in omega arith

pub mark_again : (n : ℕ) → n ≤ 1 → mark_number (mark n) ≡ n
mark_again n h = mark_at (mark n) n refl h

input_at :
    (t : Bool) (m : ℕ) (ns : List ℕ) → mark m ≡ t → m ≤ 1 → length ns % 3 ≡ 0 → (not t && not (eqb (length ns) 0)) ≡ false →
    input_numbers (cond t (some (exprs ns)) none) ≡ m ∷ ns
input_at true m ns e h l u = rw (eqb-true m 1 e) (ap (λ (ys : List ℕ). 1 ∷ ys) (exprs_again ns l))
input_at false m [] e h l u = ap (λ (x : ℕ). x ∷ []) (mark_at false m e h)
input_at false m (n ∷ ns) e h l u = let z : suc (length ns) ≡ 0 = eqb-true (suc (length ns)) 0 (not-false (eqb (suc (length ns)) 0) u) in absurd (omega arith)

pub input_again : (m : ℕ) (ns : List ℕ) → m ≤ 1 → length ns % 3 ≡ 0 → unused_keys (m ∷ ns) ≡ false → input_numbers (input_of (m ∷ ns)) ≡ m ∷ ns
input_again m ns h l u = input_at (mark m) m ns refl h l u
