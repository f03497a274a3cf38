-- A run of any kind is a line of each of its kinds in turn, and one run after the other is the lines of both in turn.
-- Assumes nothing.
use mathlib.Core.Path.{◌≡◌, refl, sym, ◌∙◌}
use Prim.Native.Nat.{ℕ, zero, suc}
use mathlib.Core.List.{List, [], ◌∷◌, ◌++◌, tail}
use mathlib.Core.Bool.{Bool, true, false, cond}
use mathlib.Core.Option.{Option, none, some}
use lib.Dec.{eqb}
use lib.ListN.{length, drop}
use Rattle.text.specs.declared.field.Field.{Field}
use Rattle.text.specs.Lines.{first_of, next_of}
use Rattle.linekinds.specs.Lines.{Kind, Run, read, refused, before, line_number, fields_of, rows_of}
use Rattle.sheet.specs.KeySheets.{Reading, ended}
use Rattle.sheet.specs.SheetLines.{in_turn}
use Rattle.sheet.specs.Refusals.{line_rows}
use Rattle.sheet.proofs.Chained.{ended_before}
use Rattle.plansheet.specs.Shapes.{Shape, fixed_line}
use Rattle.plansheet.specs.PlanSheets.{with_rows}
use Rattle.plansheet.proofs.Turns.{rows_line, rows_done}
use Rattle.plantheorems.specs.RunKinds.{placed, run_kinds}

-- ---- a run

placed_number : (k : Kind) (seen next : ℕ) (x : Option (List Field)) → line_number k seen next x ≡ line_number (placed k seen) 0 next x
unfolding line_number
placed_number k seen next none = refl
placed_number k seen next (some fs) = refl

none_at_lem : (k : Kind) (b : Bool) (seen line at : ℕ) → cond b (read [] [] line at) (refused 1 line) ≡ in_turn (cond b [] (placed k seen ∷ [])) line at []
unfolding in_turn first_of line_number
none_at_lem k true seen line at = refl
none_at_lem k false seen line at = refl

line_at_lem :
    (k : Kind) (b : Bool) (seen line at : ℕ) (ls : List (List ℕ)) (ks : List Kind) (r : Run) → r ≡ in_turn ks (suc line) (next_of at ls) (tail ls) →
    cond b (read [] ls line at)
    (cond (eqb (line_number k seen (next_of at ls) (first_of k.letter ls)) 0) (before (fields_of (first_of k.letter ls)) r) (refused (line_number k seen (next_of at ls) (first_of k.letter ls)) line))
    ≡ in_turn (cond b [] (placed k seen ∷ ks)) line at ls
unfolding in_turn
line_at_lem k true seen line at ls ks r e = refl
line_at_lem k false seen line at ls ks r e = rw (e, placed_number k seen (next_of at ls) (first_of k.letter ls))

pub run_in_turn : (k : Kind) (owed seen line at : ℕ) (ls : List (List ℕ)) → rows_of k owed seen line at ls ≡ in_turn (run_kinds k owed seen ls) line at ls
unfolding rows_of run_kinds
run_in_turn k owed seen line at [] = none_at_lem k (k.stops owed none) seen line at
run_in_turn k owed seen line at (l ∷ ls) =
    let x : Option (List Field) = first_of k.letter (l ∷ ls) in
    line_at_lem k (k.stops owed x) seen line at (l ∷ ls) (run_kinds k (k.owes owed (fields_of x)) (suc seen) ls) (rows_of k (k.owes owed (fields_of x)) (suc seen) (suc line) (next_of at (l ∷ ls)) ls)
    (run_in_turn k (k.owes owed (fields_of x)) (suc seen) (suc line) (next_of at (l ∷ ls)) ls)

-- a run of one line
pub one_in_turn : (h : Shape) (line at : ℕ) (ls : List (List ℕ)) → rows_of (fixed_line h) 1 0 line at ls ≡ in_turn (fixed_line h ∷ []) line at ls
unfolding in_turn
one_in_turn h line at ls =
    rows_line (fixed_line h) 1 0 line at ls (first_of h.letter ls) refl refl
    ∙ rw (rows_done (fixed_line h) 0 1 (suc line) (next_of at ls) (tail ls) (first_of h.letter (tail ls)) refl refl)

-- ---- one run after the other

with_before :
    {A : Type 0} (fs : List Field) (r : Run) (rest : List (List Field) → ℕ → ℕ → List (List ℕ) → Reading A) →
    with_rows (before fs r) rest ≡ with_rows r (λ rs l p ls. rest (fs ∷ rs) l p ls)
with_before fs (read rs ls l p) rest = refl
with_before fs (refused n l) rest = refl

module _ {A : Type 0} (c : Reading A) where
  turn_at :
      (b : Bool) (fs : List Field) (r q : Run) (n line : ℕ) (rest : List (List Field) → ℕ → ℕ → List (List ℕ) → Reading A) →
      with_rows r (λ rs l p ls. rest (fs ∷ rs) l p ls) ≡ ended (λ rs. c) q →
      with_rows (cond b (before fs r) (refused n line)) rest ≡ ended (λ rs. c) (cond b (before fs q) (refused n line))
  turn_at true fs r q n line rest e = with_before fs r rest ∙ e ∙ sym (ended_before (λ rs. c) fs q)
  turn_at false fs r q n line rest e = refl

  drop_tail : (i : ℕ) (ls : List (List ℕ)) → drop i (tail ls) ≡ drop (suc i) ls
  drop_tail zero [] = refl
  drop_tail (suc i) [] = refl
  drop_tail i (l ∷ ls) = refl

  pub with_turn :
      (ks ms : List Kind) (rest : List (List Field) → ℕ → ℕ → List (List ℕ) → Reading A) (line at : ℕ) (ls : List (List ℕ)) →
      ((l p : ℕ) → rest (line_rows ks ls) l p (drop (length ks) ls) ≡ ended (λ rs. c) (in_turn ms l p (drop (length ks) ls))) →
      with_rows (in_turn ks line at ls) rest ≡ ended (λ rs. c) (in_turn (ks ++ ms) line at ls)
  unfolding in_turn line_rows
  with_turn [] ms rest line at ls h = h line at
  with_turn (k ∷ ks) ms rest line at ls h =
      let x : Option (List Field) = first_of k.letter ls in
      let n : ℕ = line_number k 0 (next_of at ls) x in
      turn_at (eqb n 0) (fields_of x) (in_turn ks (suc line) (next_of at ls) (tail ls)) (in_turn (ks ++ ms) (suc line) (next_of at ls) (tail ls)) n line rest
      (with_turn ks ms (λ rs l p ms. rest (fields_of x ∷ rs) l p ms) (suc line) (next_of at ls) (tail ls) (λ l p. rw (drop_tail (length ks) ls) (h l p)))
