-- What is held of a sheet that was read is written as the sheet stood: line by line, its numbers are those of its fields.
-- Assumes nothing.
use Prim.Native.Nat.{ℕ, zero, suc, ◌+◌, ◌-◌, ◌%◌, ◌<◌}
use mathlib.Core.Path.{◌≡◌, refl, sym, ap, ◌∙◌}
use mathlib.Core.Bool.{Bool, true, false, cond}
use mathlib.Core.List.{List, [], ◌∷◌, ◌++◌, append-nil}
use native.Mathlib.Omega.{arith}
use borrow.Author.Tests.{eqb-true}
use lib.Dec.{eqb}
use lib.ListN.{length, get_or, length-map}
use Rattle.text.specs.declared.field.Field.{Field}
use Rattle.text.specs.Text.{value_of, parts}
use Rattle.text.specs.Write.{line_text}
use Rattle.keys.specs.Expressions.{expressions}
use Rattle.linekinds.specs.Lines.{read, at_end, whole_entries}
use Rattle.linekinds.specs.KeyLines.{values}
use Rattle.linekinds.specs.Reading.{kind_of, head_count, entry_width, packs, packed_by, Small}
use Rattle.linekinds.specs.ListLines.{line_letter, line_codes, line_kind}
use Rattle.linekinds.specs.declared.kind.Codes.{Codes}
use Rattle.linekinds.specs.declared.kind.Codes.TheVariants as C
use Rattle.linekinds.specs.declared.lists.SheetKind.{SheetKind}
use Rattle.linekinds.specs.declared.lists.SheetKind.TheVariants.{Key, Join}
use Rattle.sheet.specs.KeyAnswers.{numbers_line, expr_numbers}
use Rattle.sheet.specs.Sizes.{Each}
use Rattle.sheet.specs.Held.{held_at, field_numbers, held_text}
use Rattle.sheet.specs.SheetLines.{in_turn, line_kinds, HeldLine}
use Rattle.sheet.proofs.InTurn.{Counted, rows_text, Fine, FineRows, more}
use Rattle.sheet.proofs.Numbers.{filled, row_numbers_lem, exprs_again}
use Rattle.sheet.proofs.RowsAgain.{rows_written}
use Rattle.sheet.proofs.Accepted.{nothing_follows}
use Rattle.sheet.proofs.KeyAccepted.{list_counted, input_counted, key_counted, head_counted}
use Rattle.sheet.proofs.SheetTurns.{kind_letter}
use Rattle.sheet.proofs.HeldSheets.{packs_exprs}

-- ---- every line's kind is read by itself

letter_not : (t : Bool) (a b : ℕ) → eqb a 10 ≡ false → eqb b 10 ≡ false → eqb (cond t a b) 10 ≡ false
letter_not true a b e f = e
letter_not false a b e f = f

no_end : (k : SheetKind) (i : ℕ) → eqb (line_letter k i) 10 ≡ false
no_end Key i =
    letter_not (eqb i 0) 75 _ refl (letter_not (eqb i 1) 82 _ refl (letter_not (eqb i 2) 76 _ refl (letter_not (eqb i 3) 71 _ refl (letter_not (eqb i 4) 83 _ refl
    (letter_not (eqb i 5) 87 _ refl (letter_not (eqb i 6) 79 _ refl (letter_not (eqb i 7) 65 _ refl (letter_not (eqb i 8) 77 67 refl refl))))))))
no_end Join i =
    letter_not (eqb i 0) 73 _ refl (letter_not (eqb i 1) 76 _ refl (letter_not (eqb i 2) 71 _ refl (letter_not (eqb i 3) 83 _ refl (letter_not (eqb i 4) 72 _ refl
    (letter_not (eqb i 5) 78 _ refl (letter_not (eqb i 6) 87 86 refl refl))))))

kind_counted : (c : Codes) (letter : ℕ) → eqb letter 10 ≡ false → Counted (kind_of c letter)
kind_counted C.Key letter e = key_counted
kind_counted C.Join letter e = head_counted
kind_counted C.Exprs letter e = list_counted letter 3 _ e
kind_counted C.Rules letter e = list_counted letter 6 _ e
kind_counted C.Input letter e = input_counted letter e
kind_counted C.Directions letter e = list_counted letter 1 _ e
kind_counted C.Names letter e = list_counted letter 1 _ e

kinds_counted : (k : SheetKind) (n i : ℕ) → Each Counted (line_kinds k i n)
unfolding line_kinds
kinds_counted k zero i = tt
kinds_counted k (suc n) i = (kind_counted (line_codes k i) (line_letter k i) (no_end k i), kinds_counted k n (suc i))

-- ---- a line

exprs_fields : (ns : List ℕ) → Small ns → length ns % 3 ≡ 0 → expr_numbers (expressions (packs ns)) ≡ ns
exprs_fields ns s h = ap expr_numbers (packs_exprs ns s) ∙ exprs_again ns h

input_fields : (ns : List ℕ) → Small ns → (length ns - 1) % 3 ≡ 0 → field_numbers C.Input (packed_by C.Input ns) ≡ ns
unfolding packs
input_fields [] s h = refl
input_fields (m ∷ ns) s h = ap (λ (xs : List ℕ). m ∷ xs) (exprs_fields ns s.1 (ap (λ (k : ℕ). k % 3) (omega arith) ∙ h))

-- what was packed is taken apart again
fields_again : (c : Codes) (ns : List ℕ) → Small ns → whole_entries (entry_width c) (length ns - head_count c) ≡ true → field_numbers c (packed_by c ns) ≡ ns
fields_again C.Key ns s h = refl
fields_again C.Join ns s h = refl
fields_again C.Exprs ns s h = let e : (length ns - 0) % 3 ≡ 0 = eqb-true ((length ns - 0) % 3) 0 h in exprs_fields ns s (ap (λ (k : ℕ). k % 3) (omega arith) ∙ e)
fields_again C.Rules ns s h = let e : (length ns - 0) % 6 ≡ 0 = eqb-true ((length ns - 0) % 6) 0 h in exprs_fields ns s (omega arith)
fields_again C.Input ns s h = input_fields ns s (eqb-true ((length ns - 1) % 3) 0 h)
fields_again C.Directions ns s h = refl
fields_again C.Names ns s h = refl

heads_filled : (c : Codes) (letter : ℕ) → filled (kind_of c letter).heads ≡ true
unfolding filled
heads_filled C.Key letter = refl
heads_filled C.Join letter = refl
heads_filled C.Exprs letter = refl
heads_filled C.Rules letter = refl
heads_filled C.Input letter = refl
heads_filled C.Directions letter = refl
heads_filled C.Names letter = refl

module _ (k : SheetKind) (lists : List (List ℕ)) (counts : List ℕ) where
  line_text_lem :
      (i : ℕ) (fs : List Field) → HeldLine k lists counts i fs → Fine (line_kind k i) fs →
      numbers_line (line_letter k i) (field_numbers (line_codes k i) (held_at lists counts i)) ≡ line_text (line_kind k i).letter fs
  line_text_lem i fs h f =
      ap (λ (ns : List ℕ). numbers_line (line_letter k i) (field_numbers (line_codes k i) ns)) h.is
      ∙ ap (numbers_line (line_letter k i)) (fields_again (line_codes k i) (values fs) h.small (rw (length-map fs value_of) h.entries))
      ∙ (λ j. line_text (sym (kind_letter k i) j) (row_numbers_lem (line_kind k i) fs f (heads_filled (line_codes k i) (line_letter k i)) j))

  -- ---- lines

  lines_text_lem :
      (rs : List (List Field)) (i : ℕ) → ((j : ℕ) → j < length rs → HeldLine k lists counts (i + j) (get_or rs j [])) → FineRows (line_kinds k i (length rs)) rs →
      held_text k lists counts i (length rs) ≡ rows_text (line_kinds k i (length rs)) rs
  unfolding line_kinds
  lines_text_lem [] i h f = refl
  lines_text_lem (fs ∷ rs) i h (more g f) =
      let z : i + 0 ≡ i = omega arith in
      λ j. line_text_lem i fs (rw z at (h 0 (omega arith))) g j ++ lines_text_lem rs (suc i) (λ m e. let y : i + suc m ≡ suc i + m = omega arith in rw y at (h (suc m) (omega arith))) f j

  -- a sheet whose lines were all read
  pub text_again :
      (s : List ℕ) (n : ℕ) (rs : List (List Field)) (ls : List (List ℕ)) (l p : ℕ) → in_turn (line_kinds k 0 n) 1 0 (parts 10 s) ≡ read rs ls l p → length rs ≡ n → at_end ls ≡ true →
      ((j : ℕ) → j < length rs → HeldLine k lists counts (0 + j) (get_or rs j [])) → held_text k lists counts 0 n ≡ s
  text_again s n rs ls l p e many end h =
      let r = rows_written (line_kinds k 0 n) (kinds_counted k n 0) 1 0 s rs ls l p e in
      let z : r.rest ≡ [] = nothing_follows r.rest (rw r.lines at end) in
      let t : rows_text (line_kinds k 0 n) rs ≡ s = sym (append-nil (rows_text (line_kinds k 0 n) rs)) ∙ sym (rw z at r.text) in
      rw (← many) (lines_text_lem rs 0 h (rw (← many) at r.fine)) ∙ t
