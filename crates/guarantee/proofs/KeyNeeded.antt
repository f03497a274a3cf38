-- The condition on placeholders is needed: of marked sheet 3, which asks for one, what `decision` writes isn't guaranteed, since its first pair comes out twice.
use Prim.Native.Nat.{ℕ}
use mathlib.Core.Path.{◌≡◌, refl}
use mathlib.Core.Bool.{false}
use mathlib.Core.List.{List, [], ◌∷◌}
use native.Mathlib.Omega.{arith}
use Rattle.text.specs.Text.{onto, parts, run, field, fields, line_fields}
use Rattle.text.specs.Lines.{first_of}
use Rattle.text.specs.Bounds.{fits, allows_all}
use Rattle.text.specs.Write.{digits, decimal, field_text, fields_text, line_text}
use Rattle.text.proofs.Examples.{bytes}
use Rattle.keys.specs.Reorder.{try_reorder}
use Rattle.keys.specs.Expressions.{Expression, column, placeholder}
use Rattle.keys.specs.Adjust.{KeySheet, KeyAnswer, adjust_input_keys_ordering}
use Rattle.keys.proofs.Marked.{ordered}
use Rattle.linekinds.specs.Lines.{line_number, rows_of, chain}
use Rattle.linekinds.specs.KeyLines.{undefined_exprs, over}
use Rattle.sheet.specs.KeySheets.{sheet, exprs, rules_of, key_lists_fit, read_key_sheet}
use Rattle.sheet.specs.KeyAnswers.{wrote, key_answer_text, adjust_decision}
use Rattle.lochkave.specs.Decision.{decision}
use Rattle.guarantee.specs.Conditions.{SplitsGain}
use Rattle.guarantee.specs.Guarantee.{KeysKept, Guaranteed}
use Rattle.guarantee.proofs.SheetsOnce.{not_key_and_plan, keys_speak}

-- "(3) L a,b, R a,placeholder: P 0,0"
abbrev pub marked_sheet : List ℕ
marked_sheet = bytes "K,2,0,0,0,0,0,2\nR,0,1,0,2,0,0\nL,0,1,0,0,2,1\nG,0,5,0,0,6,1\nS,0,1\nW\nO\nA\nM\nC\nC\n"

abbrev pub marked_answer : List ℕ
marked_answer = bytes "k,1,2\nP,0,0\nR,0,1,0,2,0,0\nL,0,1,0,0,1,0\nG,0,5,0,0,5,0\nS,0,0\nJ\nC,0,1,0,0,1,0\nC,0,5,0,0,5,0\n"

pub marked_decided : decision marked_sheet ≡ wrote marked_answer
unfolding onto parts run field fields line_fields first_of fits allows_all digits decimal field_text fields_text line_text try_reorder adjust_input_keys_ordering line_number rows_of chain undefined_exprs over exprs rules_of key_lists_fit read_key_sheet key_answer_text adjust_decision decision
marked_decided = refl

-- ---- the sheet as it is read, and the answer whose text was written

abbrev a : Expression
a = column 1 0

abbrev x : Expression
x = column 5 0

abbrev asked : KeySheet
asked = record {
  op = 2;
  mode = 0;
  join = 0;
  columns = 0;
  plain = false;
  partial = false;
  required = a ∷ placeholder ∷ [];
  left = a ∷ column 2 1 ∷ [];
  right = x ∷ column 6 1 ∷ [];
  directions = 0 ∷ 1 ∷ [];
  rewriting = [];
  groups = [];
  aggregates = [];
  mapped = [];
  children = [] ∷ [] ∷ [];
}

abbrev given : KeyAnswer
given = ordered 2 (0 ∷ 0 ∷ []) (a ∷ placeholder ∷ []) (a ∷ a ∷ []) (x ∷ x ∷ []) (0 ∷ 0 ∷ [])

marked_read : read_key_sheet marked_sheet ≡ sheet asked
unfolding onto parts run field fields line_fields first_of fits allows_all line_number rows_of chain undefined_exprs over exprs rules_of key_lists_fit read_key_sheet
marked_read = refl

marked_text : marked_answer ≡ key_answer_text given
unfolding digits decimal field_text fields_text line_text key_answer_text
marked_text = refl

pub placeholder_needed : Guaranteed marked_sheet marked_answer → ⊥
placeholder_needed g = twice (keys_speak marked_sheet marked_answer asked given marked_read marked_text g)
  where
    twice : KeysKept asked given → ⊥
    twice k = omega (arith, ((k.pairs.tried refl).moved refl).arrangement.once 0 (omega arith))

-- the other condition holds of it, since it is no D sheet
pub marked_splits_gain : SplitsGain marked_sheet
marked_splits_gain y e = absurd (not_key_and_plan marked_sheet asked y marked_read e)
