-- What holds of every run that was read: induction over its lines.
-- Assumes nothing.
use mathlib.Core.Path.{◌≡◌, refl, sym, ap, ◌∙◌}
use mathlib.Core.List.{List, [], ◌∷◌}
use mathlib.Core.Option.{Option, none, some}
use mathlib.Core.Bool.{Bool, true, false, cond}
use Prim.Native.Nat.{ℕ, suc}
use native.Mathlib.Omega.{arith}
use lib.Dec.{eqb}
use borrow.Author.Tests.{eqb-true}
use Rattle.text.specs.declared.field.Field.{Field}
use Rattle.text.specs.Lines.{first_of, next_of}
use Rattle.linekinds.specs.Lines.{Kind, Run, read, refused, before, line_number, fields_of, rows_of}

-- one line: the run ends before it, or it is a row and the run goes on
data Cases (a b : Bool) (fs : List Field) (r : Run) (ls : List (List ℕ)) (line at : ℕ) (rs : List (List Field)) (rest : List (List ℕ)) (l p : ℕ) : Type 0 where
  ends : a ≡ true → rs ≡ [] → rest ≡ ls → l ≡ line → p ≡ at → Cases a b fs r ls line at rs rest l p
  goes : (ss : List (List Field)) → a ≡ false → b ≡ true → rs ≡ fs ∷ ss → r ≡ read ss rest l p → Cases a b fs r ls line at rs rest l p

cases :
    (a b : Bool) (fs : List Field) (r : Run) (ls : List (List ℕ)) (line at n : ℕ) (rs : List (List Field)) (rest : List (List ℕ)) (l p : ℕ) →
    cond a (read [] ls line at) (cond b (before fs r) (refused n line)) ≡ read rs rest l p → Cases a b fs r ls line at rs rest l p
cases true b fs r ls line at n rs rest l p e = ends refl (cc) (cc) (cc) (cc)
cases false true fs (read ss ms k q) ls line at n rs rest l p e =
    let e₁ : ms ≡ rest = cc in
    let e₂ : k ≡ l = cc in
    let e₃ : q ≡ p = cc in
    goes ss refl refl (cc) (rw (e₁, e₂, e₃))
cases false true fs (refused m k) ls line at n rs rest l p e = let z : ◌≡◌ {A = ℕ} 0 1 = cc in absurd (omega arith)
cases false false fs r ls line at n rs rest l p e = let z : ◌≡◌ {A = ℕ} 0 1 = cc in absurd (omega arith)

-- a line without a number is there
found : (k : Kind) (seen next : ℕ) (x : Option (List Field)) → line_number k seen next x ≡ 0 → x ≡ some (fields_of x)
unfolding line_number
found k seen next none e = absurd (omega arith)
found k seen next (some fs) e = refl

-- what holds of no rows where the run ends, and of a row in front of rows of which it holds, holds of every run that was read
module _ (k : Kind) (P : (owed seen line at : ℕ) (ls : List (List ℕ)) (rs : List (List Field)) → Type 0) (rest : List (List ℕ)) (l p : ℕ)
    (stop : (owed seen : ℕ) → k.stops owed (first_of k.letter rest) ≡ true → P owed seen l p rest [])
    (more : (owed seen line at : ℕ) (l₀ : List ℕ) (ls : List (List ℕ)) (ss : List (List Field)) (fs : List Field) → k.stops owed (some fs) ≡ false
    → first_of k.letter (l₀ ∷ ls) ≡ some fs → line_number k seen (next_of at (l₀ ∷ ls)) (some fs) ≡ 0
    → P (k.owes owed fs) (suc seen) (suc line) (next_of at (l₀ ∷ ls)) ls ss → P owed seen line at (l₀ ∷ ls) (fs ∷ ss)) where
  none_at_lem :
      (owed seen line at : ℕ) (rs : List (List Field)) (a : Bool) → k.stops owed none ≡ a →
      cond a (read [] [] line at) (refused 1 line) ≡ read rs rest l p → P owed seen line at [] rs
  unfolding first_of
  none_at_lem owed seen line at rs true h e =
      let r : [] ≡ rs = cc in
      let s : [] ≡ rest = cc in
      let i : line ≡ l = cc in
      let j : at ≡ p = cc in
      let f : k.stops owed (first_of k.letter rest) ≡ true = rw (← s) h in
      rw (s, ← r, i, j) (stop owed seen f)
  none_at_lem owed seen line at rs false h e = let z : ◌≡◌ {A = ℕ} 0 1 = cc in absurd (omega arith)

  line_at_lem :
      (owed seen line at : ℕ) (l₀ : List ℕ) (ls : List (List ℕ)) (rs : List (List Field)) (x : Option (List Field)) → first_of k.letter (l₀ ∷ ls) ≡ x → (r : Run) →
      Cases (k.stops owed x) (eqb (line_number k seen (next_of at (l₀ ∷ ls)) x) 0) (fields_of x) r (l₀ ∷ ls) line at rs rest l p →
      ((ss : List (List Field)) → r ≡ read ss rest l p → P (k.owes owed (fields_of x)) (suc seen) (suc line) (next_of at (l₀ ∷ ls)) ls ss) → P owed seen line at (l₀ ∷ ls) rs
  line_at_lem owed seen line at l₀ ls rs x f r (ends a q s i j) ih =
      let g : k.stops owed (first_of k.letter rest) ≡ true = rw (s, f) a in
      rw (q, ← s, ← i, ← j) (stop owed seen g)
  line_at_lem owed seen line at l₀ ls rs x f r (goes ss a b q w) ih =
      let z : line_number k seen (next_of at (l₀ ∷ ls)) x ≡ 0 = eqb-true (line_number k seen (next_of at (l₀ ∷ ls)) x) 0 b in
      let i : x ≡ some (fields_of x) = found k seen (next_of at (l₀ ∷ ls)) x z in
      rw q (more owed seen line at l₀ ls ss (fields_of x) (ap (k.stops owed) (sym i) ∙ a) (f ∙ i) (ap (line_number k seen (next_of at (l₀ ∷ ls))) (sym i) ∙ z) (ih ss w))

  pub by_lines : (owed seen line at : ℕ) (ls : List (List ℕ)) (rs : List (List Field)) → rows_of k owed seen line at ls ≡ read rs rest l p → P owed seen line at ls rs
  unfolding rows_of
  by_lines owed seen line at [] rs e = none_at_lem owed seen line at rs (k.stops owed none) refl e
  by_lines owed seen line at (l₀ ∷ ls) rs e =
      let x : Option (List Field) = first_of k.letter (l₀ ∷ ls) in
      let n : ℕ = line_number k seen (next_of at (l₀ ∷ ls)) x in
      let r : Run = rows_of k (k.owes owed (fields_of x)) (suc seen) (suc line) (next_of at (l₀ ∷ ls)) ls in
      line_at_lem owed seen line at l₀ ls rs x refl r (cases (k.stops owed x) (eqb n 0) (fields_of x) r (l₀ ∷ ls) line at n rs rest l p e)
      (λ ss w. by_lines (k.owes owed (fields_of x)) (suc seen) (suc line) (next_of at (l₀ ∷ ls)) ls ss w)
