-- The number that turns a line back is the lowest whose condition holds.
use mathlib.Core.Path.{◌≡◌, refl, sym, ◌∙◌}
use mathlib.Core.Logic.{◌↔◌}
use Prim.Native.Nat.{ℕ, zero, suc, ◌+◌, ◌≤◌, ◌<◌}
use native.Mathlib.Omega.{arith}
use mathlib.Core.List.{List, [], ◌∷◌}
use mathlib.Core.Bool.{Bool, true, false, cond, not, ◌||◌}
use mathlib.Core.Option.{Option, none, some}
use lib.Dec.{ltb}
use lib.ListN.{get_or}
use Rattle.text.specs.declared.field.Field.{Field}
use Rattle.linekinds.specs.Lines.{Kind, most_bytes, fields_fit, too_many_entries, line_number}
use Rattle.sheet.specs.Refusals.{conditions, Lowest, NoCondition}

unfoldable lowest_of : ℕ → List Bool → ℕ
lowest_of from [] = 0
lowest_of from (c ∷ cs) = cond c from (lowest_of (suc from) cs)

fit_at : (a b : Bool) (n : ℕ) → cond a (cond b 2 n) 2 ≡ cond (not a || b) 2 n
fit_at true b n = refl
fit_at false b n = refl

number_lowest : (k : Kind) (next : ℕ) (x : Option (List Field)) → line_number k 0 next x ≡ lowest_of 1 (conditions k next x)
unfolding line_number lowest_of
number_lowest k next none = refl
number_lowest k next (some fs) =
    fit_at (fields_fit k fs) (k.malformed fs) (cond (ltb most_bytes next || (too_many_entries k fs || k.large 0 fs)) 3 (cond (k.undefined fs) 4 (cond (k.unfit fs) 6 0)))

-- ---- the first condition that holds

one_more : (from : ℕ) (cs : List Bool) (n : ℕ) → Lowest (suc from) cs n → Lowest from (false ∷ cs) n
one_more from cs n l = record { below = suc l.below; number = omega (arith, l.number); holds = l.holds; lowest = before }
  where
    before : (i : ℕ) → i < suc l.below → get_or (false ∷ cs) i false ≡ false
    before zero h = refl
    before (suc i) h = l.lowest i (omega arith)

lowest_only : (from : ℕ) (cs : List Bool) (n : ℕ) → (n ≡ 0 → ⊥) → lowest_of from cs ≡ n → Lowest from cs n
unfolding lowest_of
lowest_only from [] n ne e = absurd (ne (sym e))
lowest_only from (true ∷ cs) n ne e = record { below = 0; number = omega arith; holds = refl; lowest = λ i h. absurd (omega arith) }
lowest_only from (false ∷ cs) n ne e = one_more from cs n (lowest_only (suc from) cs n ne e)

lowest_holds : (from : ℕ) (cs : List Bool) (n p : ℕ) → n ≡ from + p → get_or cs p false ≡ true → ((i : ℕ) → i < p → get_or cs i false ≡ false) → lowest_of from cs ≡ n
unfolding lowest_of
lowest_holds from [] n p e h l = absurd (cc)
lowest_holds from (true ∷ cs) n zero e h l = omega arith
lowest_holds from (true ∷ cs) n (suc p) e h l = let f : true ≡ false = l 0 (omega arith) in absurd (cc)
lowest_holds from (false ∷ cs) n zero e h l = absurd (cc)
lowest_holds from (false ∷ cs) n (suc p) e h l = lowest_holds (suc from) cs n p (omega arith) h (λ i k. l (suc i) (omega arith))

none_holds : (from : ℕ) (cs : List Bool) → 1 ≤ from → lowest_of from cs ≡ 0 → NoCondition cs
unfolding lowest_of
none_holds from [] h e i = refl
none_holds from (true ∷ cs) h e i = absurd (omega arith)
none_holds from (false ∷ cs) h e zero = refl
none_holds from (false ∷ cs) h e (suc i) = none_holds (suc from) cs (omega arith) e i

holds_none : (from : ℕ) (cs : List Bool) → NoCondition cs → lowest_of from cs ≡ 0
unfolding lowest_of
holds_none from [] h = refl
holds_none from (c ∷ cs) h = rw (h 0) (holds_none (suc from) cs (λ i. h (suc i)))

module _ (k : Kind) (next : ℕ) (x : Option (List Field)) where
  pub number_exactly : (n : ℕ) → (n ≡ 0 → ⊥) → (line_number k 0 next x ≡ n) ↔ Lowest 1 (conditions k next x) n
  number_exactly n ne = (
    λ e. lowest_only 1 (conditions k next x) n ne (sym (number_lowest k next x) ∙ e),
    λ l. number_lowest k next x ∙ lowest_holds 1 (conditions k next x) n l.below l.number l.holds l.lowest,
  )

  pub no_number_exactly : (line_number k 0 next x ≡ 0) ↔ NoCondition (conditions k next x)
  no_number_exactly = (
    λ e. none_holds 1 (conditions k next x) (omega arith) (sym (number_lowest k next x) ∙ e),
    λ h. number_lowest k next x ∙ holds_none 1 (conditions k next x) h,
  )
