-- Reading and writing a run of any kind are inverse: what was read is legal and is written as it stood, and legal rows that are written are read.
-- Assumes nothing.
use mathlib.Core.Path.{◌≡◌, refl, sym, ap, ◌∙◌}
use Prim.Native.Nat.{ℕ, suc, ◌+◌, ◌≤◌}
use native.Mathlib.Omega.{arith}
use native.Mathlib.Nat.{add-zero}
use mathlib.Core.List.{List, [], ◌∷◌, ◌++◌, append_assoc, tail}
use mathlib.Core.Bool.{true, false}
use mathlib.Core.Option.{Option, some}
use lib.ListN.{length, drop, length-append}
use Rattle.text.specs.declared.field.Field.{Field}
use Rattle.text.specs.Text.{parts, after}
use Rattle.text.specs.Lines.{first_of, next_of}
use Rattle.text.specs.Write.{fields_text, line_text}
use Rattle.text.proofs.RoundTrip.{first_back}
use Rattle.linekinds.specs.Lines.{Kind, read, before, most_bytes, line_number, rows_of}
use Rattle.sheet.proofs.InTurn.{readable, Counted, Fine}
use Rattle.sheet.proofs.RowsAgain.{fine_wide, not_turned, lines_of, next_of_lem, text_of}
use Rattle.plansheet.specs.PlanTexts.{lines_text}
use Rattle.plansheet.proofs.RunCases.{by_lines}
use Rattle.plansheet.proofs.Turns.{rows_line, rows_done}
use Rattle.plansheet.proofs.FineLines.{fine_at}
use Rattle.plantheorems.specs.RunKinds.{placed}

-- a kind that is told by its letter, with fields of 64 bits
pub record Plain (k : Kind) : Type 0 where
  pub letter : k.letter ≡ 10 → ⊥
  pub heads : readable k.heads ≡ true

pub placed_counted : (k : Kind) → Plain k → (seen : ℕ) → Counted (placed k seen)
placed_counted k c seen = record { letter = c.letter; heads = c.heads; stops = λ o x. refl; owes = λ o fs. refl; large = λ n fs. refl }

-- rows that make a whole run, before a line x: nothing turns one of them back where it stands, and the run ends after the last
pub data Legal (k : Kind) (x : Option (List Field)) : ℕ → ℕ → List (List Field) → Type 0 where
  stop : {owed seen : ℕ} → k.stops owed x ≡ true → Legal k x owed seen []
  more : {owed seen : ℕ} {fs : List Field} {rs : List (List Field)} → k.stops owed (some fs) ≡ false → Fine (placed k seen) fs → Legal k x (k.owes owed fs) (suc seen) rs → Legal k x owed seen (fs ∷ rs)

-- what it means that a run was read
pub record Ran (k : Kind) (owed seen line at : ℕ) (s : List ℕ) (rs : List (List Field)) (ls : List (List ℕ)) (l p : ℕ) : Type 0 where
  pub rest : List ℕ
  pub lines : ls ≡ parts 10 rest
  pub text : s ≡ lines_text k.letter rs ++ rest
  pub legal : Legal k (first_of k.letter ls) owed seen rs
  pub counted : l ≡ line + length rs
  pub place : p ≡ at + length (lines_text k.letter rs)
  pub within : at ≤ most_bytes → p ≤ most_bytes

not_turned_lem : (k : Kind) (seen next : ℕ) (fs : List Field) → Fine (placed k seen) fs → next ≤ most_bytes → line_number k seen next (some fs) ≡ 0
unfolding line_number
not_turned_lem k seen next fs f h = not_turned (placed k seen) next fs f h

module _ (k : Kind) (c : Plain k) where
  module _ (ls : List (List ℕ)) (l p : ℕ) where
    stop_ran : (owed seen : ℕ) (s : List ℕ) → k.stops owed (first_of k.letter ls) ≡ true → ls ≡ parts 10 s → Ran k owed seen l p s [] ls l p
    unfolding lines_text
    stop_ran owed seen s h e = record { rest = s; lines = e; text = refl; legal = stop h; counted = omega arith; place = omega arith; within = λ h. h }

    more_ran :
        (owed seen line at : ℕ) (l₀ : List ℕ) (ms : List (List ℕ)) (ss : List (List Field)) (fs : List Field) → k.stops owed (some fs) ≡ false →
        first_of k.letter (l₀ ∷ ms) ≡ some fs → line_number k seen (next_of at (l₀ ∷ ms)) (some fs) ≡ 0 → (s : List ℕ) → l₀ ∷ ms ≡ parts 10 s →
        ((post : List ℕ) → ms ≡ parts 10 post → Ran k (k.owes owed fs) (suc seen) (suc line) (next_of at (l₀ ∷ ms)) post ss ls l p) →
        Ran k owed seen line at s (fs ∷ ss) ls l p
    unfolding lines_text
    more_ran owed seen line at l₀ ms ss fs st first num s e ih =
        let f = fine_at k seen (next_of at (l₀ ∷ ms)) fs num in
        let fine : Fine (placed k seen) fs = record { fit = f.fit; formed = f.formed; few = f.few; small = f.small; defined = f.defined; suited = f.suited } in
        let d : Counted (placed k seen) = placed_counted k c seen in
        let one : List ℕ = line_text k.letter fs in
        let post : List ℕ = drop (after s 0) s in
        let text : s ≡ one ++ post = text_of (placed k seen) d fs fine s (ap (first_of k.letter) (sym e) ∙ first) in
        let lines : l₀ ∷ ms ≡ (k.letter ∷ fields_text fs) ∷ parts 10 post = e ∙ ap (parts 10) text ∙ lines_of (placed k seen) d fs fine post in
        let next : next_of at (l₀ ∷ ms) ≡ at + length one = ap (next_of at) lines ∙ next_of_lem (placed k seen) d fs fine at (parts 10 post) in
        let w = ih post (ap tail lines) in
        let long : length (one ++ lines_text k.letter ss) ≡ length one + length (lines_text k.letter ss) = length-append one (lines_text k.letter ss) in
        record {
          rest = w.rest;
          lines = w.lines;
          text = text ∙ ap (λ (ys : List ℕ). one ++ ys) w.text ∙ sym (append_assoc one (lines_text k.letter ss) w.rest);
          legal = more st fine w.legal;
          counted = omega (arith, w.counted);
          place = omega (arith, w.place, next, long);
          within = λ h. w.within f.within;
        }

  pub run_written :
      (owed seen line at : ℕ) (s : List ℕ) (rs : List (List Field)) (ls : List (List ℕ)) (l p : ℕ) →
      rows_of k owed seen line at (parts 10 s) ≡ read rs ls l p → Ran k owed seen line at s rs ls l p
  run_written owed seen line at s rs ls l p e =
      by_lines k (λ owed seen line at ms rs. (s : List ℕ) → ms ≡ parts 10 s → Ran k owed seen line at s rs ls l p) ls l p
      (λ owed seen h s e. stop_ran ls l p owed seen s h e)
      (λ owed seen line at l₀ ms ss fs st first num ih s e. more_ran ls l p owed seen line at l₀ ms ss fs st first num s e ih)
      owed seen line at (parts 10 s) rs e s refl

  -- ---- and back

  run_read_lem :
      (post : List ℕ) (owed seen : ℕ) (rs : List (List Field)) → Legal k (first_of k.letter (parts 10 post)) owed seen rs →
      (line at : ℕ) → at + length (lines_text k.letter rs) ≤ most_bytes →
      rows_of k owed seen line at (parts 10 (lines_text k.letter rs ++ post)) ≡ read rs (parts 10 post) (line + length rs) (at + length (lines_text k.letter rs))
  unfolding lines_text
  run_read_lem post owed seen rs (stop h) line at b = rw (add-zero line, add-zero at) (rows_done k owed seen line at (parts 10 post) (first_of k.letter (parts 10 post)) refl h)
  run_read_lem post owed seen (fs ∷ rs) (more st fine legal) line at b =
      let d : Counted (placed k seen) = placed_counted k c seen in
      let one : List ℕ = line_text k.letter fs in
      let rest : List ℕ = lines_text k.letter rs ++ post in
      let total : length (one ++ lines_text k.letter rs) ≡ length one + length (lines_text k.letter rs) = length-append one (lines_text k.letter rs) in
      let first : first_of k.letter (parts 10 (one ++ rest)) ≡ some fs = first_back k.letter fs c.letter (fine_wide (placed k seen) d fs fine) rest in
      let lines : parts 10 (one ++ rest) ≡ (k.letter ∷ fields_text fs) ∷ parts 10 rest = lines_of (placed k seen) d fs fine rest in
      let next : next_of at (parts 10 (one ++ rest)) ≡ at + length one = ap (next_of at) lines ∙ next_of_lem (placed k seen) d fs fine at (parts 10 rest) in
      let none : line_number k seen (at + length one) (some fs) ≡ 0 = not_turned_lem k seen (at + length one) fs fine (omega arith) in
      let e : suc line + length rs ≡ line + suc (length rs) = omega arith in
      let f : at + length one + length (lines_text k.letter rs) ≡ at + length (one ++ lines_text k.letter rs) = omega arith in
      ap (λ (ys : List ℕ). rows_of k owed seen line at (parts 10 ys)) (append_assoc one (lines_text k.letter rs) post)
      ∙ rows_line k owed seen line at (parts 10 (one ++ rest)) (some fs) first st
      ∙ rw (next, none, lines)
      (ap (before fs) (run_read_lem post (k.owes owed fs) (suc seen) rs legal (suc line) (at + length one) (omega arith))
      ∙ (λ j. read (fs ∷ rs) (parts 10 post) (e j) (f j)))

  pub run_read :
      (owed seen : ℕ) (rs : List (List Field)) (post : List ℕ) → Legal k (first_of k.letter (parts 10 post)) owed seen rs →
      (line at : ℕ) → at + length (lines_text k.letter rs) ≤ most_bytes →
      rows_of k owed seen line at (parts 10 (lines_text k.letter rs ++ post)) ≡ read rs (parts 10 post) (line + length rs) (at + length (lines_text k.letter rs))
  run_read owed seen rs post legal line at b = run_read_lem post owed seen rs legal line at b
