-- A sheet that is held, as text: the parts of a line with a mark, and the lines as pieces.
-- Assumes nothing.
use mathlib.Core.Path.{◌≡◌, refl, ap, ◌∙◌}
use mathlib.Core.List.{List, [], ◌∷◌, ◌++◌, map, append_assoc}
use Prim.Native.Nat.{ℕ, zero, suc, ◌+◌, ◌-◌, ◌≤◌}
use native.Mathlib.Omega.{arith}
use lib.ListN.{length, take, drop, length-drop}
use lib.Seq.{take_all}
use Rattle.text.specs.declared.field.Field.TheVariants.{Number as number}
use Rattle.text.specs.Write.{fields_text, line_text}
use Rattle.text.proofs.Lengths.{fields_append}
use Rattle.keys.specs.Expressions.{expressions}
use Rattle.std.proofs.lemmas.List.{map-append}
use Rattle.linekinds.specs.ListLines.{line_letter, line_codes}
use Rattle.linekinds.specs.declared.kind.Codes.TheVariants as C
use Rattle.linekinds.specs.declared.lists.SheetKind.{SheetKind}
use Rattle.sheet.specs.KeyAnswers.{numbers_line, expr_numbers}
use Rattle.sheet.specs.Held.{held_at, field_numbers, held_text}
use Rattle.lines.proofs.Pieces.{pieces, joined, Due, due_all}

-- the letter, the mark, the expressions, the LF
pub input_parts :
    (letter : ℕ) (ns : List ℕ) →
    numbers_line letter (field_numbers C.Input ns) ≡
    joined ((letter ∷ []) ∷ fields_text (map number (take 1 ns)) ∷ fields_text (map number (expr_numbers (expressions (drop 1 ns)))) ∷ (10 ∷ []) ∷ [])
unfolding line_text
input_parts letter ns =
    let a = take 1 ns in
    let b = expr_numbers (expressions (drop 1 ns)) in
    ap (λ (t : List ℕ). letter ∷ (t ++ (10 ∷ []))) (ap fields_text (map-append number a b) ∙ fields_append (map number a) (map number b))
    ∙ ap (λ (t : List ℕ). letter ∷ t) (append_assoc (fields_text (map number a)) (fields_text (map number b)) (10 ∷ []))

pub input_due :
    {out : List ℕ} {at : ℕ} (letter : ℕ) (ns : List ℕ) → at + length (numbers_line letter (field_numbers C.Input ns)) ≤ length out →
    Due out at (numbers_line letter (field_numbers C.Input ns)) out at
    ((letter ∷ []) ∷ fields_text (map number (take 1 ns)) ∷ fields_text (map number (expr_numbers (expressions (drop 1 ns)))) ∷ (10 ∷ []) ∷ [])
input_due letter ns h = due_all _ _ (input_parts letter ns) h

-- where there is no mark there is nothing
pub input_none : (ns : List ℕ) → length ns ≡ 0 → field_numbers C.Input ns ≡ ns
input_none [] e = refl
input_none (n ∷ ns) e = absurd (omega arith)

-- all that stands behind the first
pub behind_first : (ns : List ℕ) → take (length ns - 1) (drop 1 ns) ≡ drop 1 ns
behind_first ns = take_all (length ns - 1) (drop 1 ns) (omega (arith, length-drop 1 ns))

module _ (k : SheetKind) (lists : List (List ℕ)) (counts : List ℕ) where
  -- line i
  abbrev pub held_piece : ℕ → List ℕ
  held_piece i = numbers_line (line_letter k i) (field_numbers (line_codes k i) (held_at lists counts i))

  pub held_pieces : (n i : ℕ) → held_text k lists counts i n ≡ pieces held_piece i n
  unfolding pieces
  held_pieces zero i = refl
  held_pieces (suc n) i = ap (λ (t : List ℕ). held_piece i ++ t) (held_pieces n (suc i))
