-- A refusal's number is at most 6 and its line at most 18, so both go into one number of 64 bits.
-- Assumes nothing.
use Prim.Native.Nat.{ℕ, suc, ◌+◌, ◌*◌, ◌≤◌}
use mathlib.Core.Path.{◌≡◌, refl, sym, ap, ◌∙◌}
use mathlib.Core.Bool.{Bool, true, false, cond}
use mathlib.Core.Option.{Option, none, some}
use mathlib.Core.List.{List, [], ◌∷◌, tail}
use native.Mathlib.Omega.{arith}
use borrow.Author.Tests.{eqb-true, eqb-false}
use lib.Dec.{eqb}
use lib.ListN.{length, drop}
use Rattle.text.specs.declared.field.Field.{Field}
use Rattle.text.specs.Text.{parts}
use Rattle.text.specs.Lines.{first_of, next_of}
use Rattle.linekinds.specs.Lines.{Kind, Run, read, refused, before, line_number, fields_of, at_end}
use Rattle.linekinds.specs.KeyLines.{at, key_line}
use Rattle.linekinds.specs.declared.lists.SheetKind.TheVariants.{Key, Join}
use Rattle.linekinds.proofs.LineNumbers.{line_number_few}
use Rattle.sheet.specs.KeySheets.{Reading, sheet, turned, ended, key_lists_fit, key_sheet_of, key_whole, join_lists_fit, join_sheet_of, join_whole, head_of, stages_of_key, stages_of_input, read_key_sheet, read_join_sheet}
use Rattle.sheet.specs.SheetLines.{refused_on, in_turn, line_kinds, whole_lines}
use Rattle.refusals.specs.Refusals.{refused_word}
use Rattle.refusals.proofs.Judging.{number_again}
use Rattle.sheet.proofs.Chained.{whole_rows}
use Rattle.sheet.proofs.HeldRows.{kinds_long}
use Rattle.sheet.proofs.SheetWhole.{head_few}
use Rattle.sheet.proofs.SheetsRead.{key_whole_lem, join_whole_lem}

-- of a run of lines: where it is refused, and where it ends
pub record Bounded (most : ℕ) (r : Run) : Type 0 where
  pub number : (n l : ℕ) → r ≡ refused n l → n ≤ 6
  pub some : (n l : ℕ) → r ≡ refused n l → n ≡ 0 → ⊥
  pub line : (n l : ℕ) → r ≡ refused n l → l ≤ most
  pub after : (rs : List (List Field)) (ls : List (List ℕ)) (l p : ℕ) → r ≡ read rs ls l p → l ≤ suc most

refused_bounded : (most n line : ℕ) → n ≤ 6 → (n ≡ 0 → ⊥) → line ≤ most → Bounded most (refused n line)
refused_bounded most n line h s g = record {
  number = λ m l e. let z : n ≡ m = cc in omega arith;
  some = λ m l e f. let z : n ≡ m = cc in s (omega arith);
  line = λ m l e. let z : line ≡ l = cc in omega arith;
  after = λ rs ls l p e. absurd (cc);
}

before_bounded : (most : ℕ) (fs : List Field) (r : Run) → Bounded most r → Bounded most (before fs r)
before_bounded most fs (refused n line) b = refused_bounded most n line (b.number n line refl) (b.some n line refl) (b.line n line refl)
before_bounded most fs (read qs ms m q) b = record {
  number = λ n l e. absurd (cc);
  some = λ n l e f. cc;
  line = λ n l e. absurd (cc);
  after = λ rs ls l p e. let z : m ≡ l = cc in omega (arith, b.after qs ms m q refl);
}

turn_at : (t : Bool) (most : ℕ) (fs : List Field) (r : Run) (n line : ℕ) → eqb n 0 ≡ t → n ≤ 6 → line ≤ most → Bounded most r → Bounded most (cond t (before fs r) (refused n line))
turn_at true most fs r n line e h g b = before_bounded most fs r b
turn_at false most fs r n line e h g b = refused_bounded most n line h (eqb-false n 0 e) g

turn_bounded : (ks : List Kind) (line at : ℕ) (ls : List (List ℕ)) (most : ℕ) → line + length ks ≤ suc most → Bounded most (in_turn ks line at ls)
unfolding in_turn
turn_bounded [] line at ls most h = record {
  number = λ n l e. absurd (cc);
  some = λ n l e f. cc;
  line = λ n l e. absurd (cc);
  after = λ rs ms l p e. let z : line ≡ l = cc in omega arith;
}
turn_bounded (k ∷ ks) line at ls most h =
    let x : Option (List Field) = first_of k.letter ls in
    let n : ℕ = line_number k 0 (next_of at ls) x in
    turn_at (eqb n 0) most (fields_of x) (in_turn ks (suc line) (next_of at ls) (tail ls)) n line refl (line_number_few k 0 (next_of at ls) x) (omega arith)
    (turn_bounded ks (suc line) (next_of at ls) (tail ls) most (omega arith))

-- ---- a sheet's lines: at most 17

first_at_lem : (t : Bool) (x : Option (List Field)) (next : ℕ) → eqb (line_number key_line 0 next x) 0 ≡ true → at (fields_of x) 6 ≤ 8
unfolding line_number
first_at_lem t none next e = omega arith
first_at_lem t (some fs) next e = head_few next fs (eqb-true (line_number key_line 0 next (some fs)) 0 e)

key_at : (t : Bool) (x : Option (List Field)) (next : ℕ) (ls : List (List ℕ)) → eqb (line_number key_line 0 next x) 0 ≡ t →
    Bounded 17 (cond t (before (fields_of x) (in_turn (line_kinds Key 1 (8 + at (fields_of x) 6)) 2 next ls)) (refused (line_number key_line 0 next x) 1))
key_at true x next ls e =
    before_bounded 17 (fields_of x) _
    (turn_bounded (line_kinds Key 1 (8 + at (fields_of x) 6)) 2 next ls 17 (omega (arith, kinds_long Key (8 + at (fields_of x) 6) 1, first_at_lem true x next e)))
key_at false x next ls e = refused_bounded 17 _ 1 (line_number_few key_line 0 next x) (eqb-false _ 0 e) (omega arith)

key_bounded : (s : List ℕ) → Bounded 17 (whole_lines Key s)
unfolding whole_lines in_turn line_kinds
key_bounded s =
    let x : Option (List Field) = first_of 75 (parts 10 s) in
    let e : 9 + at (fields_of x) 6 ≡ suc (8 + at (fields_of x) 6) = omega arith in
    rw e (key_at (eqb (line_number key_line 0 (next_of 0 (parts 10 s)) x) 0) x (next_of 0 (parts 10 s)) (tail (parts 10 s)) refl)

join_bounded : (s : List ℕ) → Bounded 17 (whole_lines Join s)
unfolding whole_lines
join_bounded s = turn_bounded (line_kinds Join 0 8) 1 0 (parts 10 s) 17 (omega (arith, kinds_long Join 8 0))

-- ---- a refusal

abbrev pub Numbered : ℕ → ℕ → Type 0
Numbered n l = (n ≤ 6) × (l ≤ 18) × (n ≡ 0 → ⊥)

-- its word is made of its number and its line
pub word_again : (n l : ℕ) → Numbered n l → refused_word (refused_on n l) ≡ n * 4294967296 + l
word_again n l h = ap (λ (m : ℕ). m * 4294967296 + l) (number_again n h.2 (omega (arith, h.0)))

unfit_at : {A : Type 0} (t : Bool) (y : A) (n l : ℕ) → cond t (sheet y) (turned 5 0) ≡ turned n l → Numbered n l
unfit_at true y n l e = absurd (cc)
unfit_at false y n l e = let a : 5 ≡ n = cc in let b : 0 ≡ l = cc in (omega arith, omega arith, λ z. omega arith)

module _ {A : Type 0} (whole : List (List Field) → Reading A) (few : (rs : List (List Field)) (n l : ℕ) → whole rs ≡ turned n l → Numbered n l) where
  end_at : (t : Bool) (rs : List (List Field)) (m n l : ℕ) → m ≤ 18 → cond t (whole rs) (turned 1 m) ≡ turned n l → Numbered n l
  end_at true rs m n l h e = few rs n l e
  end_at false rs m n l h e = let a : 1 ≡ n = cc in let b : m ≡ l = cc in (omega arith, omega arith, λ z. omega arith)

  ended_few : (r : Run) → Bounded 17 r → (n l : ℕ) → ended whole r ≡ turned n l → Numbered n l
  ended_few (refused m q) b n l e = let a : m ≡ n = cc in let c : q ≡ l = cc in (omega (arith, b.number m q refl), omega (arith, b.line m q refl), λ z. b.some m q refl (omega arith))
  ended_few (read rs ls m p) b n l e = end_at (at_end ls) rs m n l (b.after rs ls m p refl) e

module _ (s : List ℕ) (n l : ℕ) where
  pub key_turned_few : read_key_sheet s ≡ turned n l → Numbered n l
  key_turned_few e =
      ended_few (whole_rows stages_of_key key_whole) (λ rs m k. unfit_at (key_lists_fit (key_sheet_of (head_of rs) (drop 1 rs))) (key_sheet_of (head_of rs) (drop 1 rs)) m k)
      (whole_lines Key s) (key_bounded s) n l (sym (key_whole_lem s) ∙ e)

  pub join_turned_few : read_join_sheet s ≡ turned n l → Numbered n l
  join_turned_few e =
      ended_few (whole_rows stages_of_input join_whole) (λ rs m k. unfit_at (join_lists_fit (join_sheet_of (head_of rs) (drop 1 rs)) (drop 1 rs)) (join_sheet_of (head_of rs) (drop 1 rs)) m k)
      (whole_lines Join s) (join_bounded s) n l (sym (join_whole_lem s) ∙ e)
