-- A sheet whose first byte is none of K, I and D is refused by 1 on line 1.
-- Assumes nothing.
use Prim.Native.Nat.{ℕ}
use mathlib.Core.Path.{◌≡◌, refl}
use mathlib.Core.Bool.{Bool, true, false, cond}
use mathlib.Core.Option.{none}
use mathlib.Core.List.{List, [], ◌∷◌}
use lib.Dec.{eqb}
use lib.ListN.{get_or}
use borrow.Author.Tests.{ne_eqb}
use Rattle.text.specs.Text.{onto, parts, line_fields}
use Rattle.text.specs.Lines.{first_of}
use Rattle.linekinds.specs.Lines.{refused as turned_back, line_number, rows_of}
use Rattle.sheet.specs.KeyAnswers.{refused}
use Rattle.plansheet.specs.PlanLines.{settings_line}
use Rattle.plansheet.specs.PlanSheets.{read_plan}
use Rattle.plananswer.specs.PlanDecision.{plan_decision}
use Rattle.lochkave.specs.Decision.{decision}

first_field : (x : ℕ) (l : List ℕ) → (x ≡ 68 → ⊥) → line_fields 68 (x ∷ l) ≡ none
unfolding line_fields
first_field x [] n = rw (ne_eqb x 68 n)
first_field x (c ∷ cs) n = rw (ne_eqb x 68 n)

first_onto : (x : ℕ) (ls : List (List ℕ)) → (x ≡ 68 → ⊥) → first_of 68 (onto x ls) ≡ none
unfolding first_of onto
first_onto x [] n = refl
first_onto x (l ∷ []) n = refl
first_onto x (l ∷ m ∷ ms) n = first_field x l n

first_empty : (ls : List (List ℕ)) → first_of 68 ([] ∷ ls) ≡ none
unfolding first_of line_fields
first_empty [] = refl
first_empty (m ∷ ms) = refl

first_none : (s : List ℕ) → (get_or s 0 0 ≡ 68 → ⊥) → first_of 68 (parts 10 s) ≡ none
unfolding parts first_of
first_none [] n = refl
first_none (x ∷ xs) n = go (eqb x 10)
  where
    go : (b : Bool) → first_of 68 (cond b ([] ∷ parts 10 xs) (onto x (parts 10 xs))) ≡ none
    go true = first_empty (parts 10 xs)
    go false = first_onto x (parts 10 xs) n

other_run : (ls : List (List ℕ)) → first_of 68 ls ≡ none → rows_of settings_line 1 0 1 0 ls ≡ turned_back 1 1
unfolding rows_of line_number
other_run [] e = refl
other_run (l ∷ ls) e = rw e

pub other_refused : (s : List ℕ) → (get_or s 0 0 ≡ 75 → ⊥) → (get_or s 0 0 ≡ 73 → ⊥) → (get_or s 0 0 ≡ 68 → ⊥) → decision s ≡ refused 1 1
unfolding decision plan_decision read_plan
other_refused s a b c = rw (ne_eqb (get_or s 0 0) 75 a, ne_eqb (get_or s 0 0) 73 b, other_run (parts 10 s) (first_none s c))
