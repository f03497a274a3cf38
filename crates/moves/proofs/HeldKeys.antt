-- The lines of a K sheet that is held are as long as the decision asks, and what is decided of them is decided of the sheet.
-- Assumes nothing.
use Prim.Native.Nat.{ℕ, ◌≤◌}
use mathlib.Core.Path.{◌≡◌, sym, ◌∙◌, subst}
use mathlib.Core.Bool.{true}
use mathlib.Core.List.{List, [], ◌∷◌}
use native.Mathlib.Omega.{arith}
use borrow.Author.Tests.{eqb-true}
use lib.Dec.{eqb}
use lib.ListN.{length, length-map}
use Rattle.keys.specs.Expressions.{Expression, same_expr, expression}
use Rattle.keys.specs.Adjust.{KeySheet, adjust_input_keys_ordering}
use Rattle.keys.specs.Arrange.{Below}
use Rattle.keys.specs.Answers.{key_sheet, adjusted_of}
use Rattle.keys.specs.declared.answer.Operator.{Operator}
use Rattle.keys.specs.declared.answer.Adjusted.{Adjusted}
use Rattle.std.specs.Prelude.{Option}
use Rattle.keys.proofs.Truths.{and_first}
use Rattle.sheet.specs.KeySheets.{key_lists_fit}
use Rattle.sheet.specs.Sizes.{Each}
use Rattle.sheet.specs.LegalSheets.{Small}
use Rattle.sheet.specs.Held.{held_at, pair_rows, operator_of, expr_lists, child_count, held_key_sheet, KeyHeld}

small_below : (ns : List ℕ) → Each Small ns → Below 65536 ns
small_below [] h = tt
small_below (n ∷ ns) h = (omega (arith, h.0), small_below ns h.1)

pairs_even : (x : KeySheet) → key_lists_fit x ≡ true → length x.left ≡ length x.right
unfolding key_lists_fit
pairs_even x f = eqb-true _ _ (and_first (eqb (length x.left) (length x.right)) _ f)

-- what a decision asks of the lists
abbrev pub KeySuited : List ℕ → List ℕ → List ℕ → List ℕ → List ℕ → Type 0
KeySuited r l g o a =
    (length r ≤ 32) × (length l ≤ 32) × (length g ≡ length l) × (length o ≤ 32) × (length a ≤ 32) × Below 65536 o

module _ (lists : List (List ℕ)) (counts : List ℕ) where
  abbrev At : ℕ → List ℕ
  At i = held_at lists counts i

  module _ (h : KeyHeld lists counts) where
    pub key_lines : KeySuited (At 1) (At 2) (At 3) (At 6) (At 7)
    unfolding held_key_sheet
    key_lines =
        let f = pairs_even (held_key_sheet lists counts) h.legal.fit in (
          rw length-map at h.legal.required.few,
          rw length-map at h.legal.left.few,
          sym (length-map (At 3) expression) ∙ sym f ∙ length-map (At 2) expression,
          h.legal.groups.few,
          h.legal.aggregates.few,
          small_below (At 6) h.legal.groups.each,
        )

    pub key_directions : length (At 4) ≤ 32
    unfolding held_key_sheet
    key_directions = h.legal.directions.few

    pub key_mapped : length (At 8) ≤ 32
    unfolding held_key_sheet
    key_mapped = rw length-map at h.legal.mapped.few

    pub key_suited :
        {r l g o a : List ℕ} → r ≡ At 1 → l ≡ At 2 → g ≡ At 3 → o ≡ At 6 → a ≡ At 7 → KeySuited r l g o a
    key_suited p q t v w = subst (λ (x : Type 0). x) (λ j. KeySuited (sym p j) (sym q j) (sym t j) (sym v j) (sym w j)) key_lines

  -- what is decided of the lists is decided of the sheet
  pub key_decided :
      {k : Operator} {r l g o a m : List ℕ} {w : List (List ℕ)} (x : Option Adjusted) → k ≡ operator_of (At 0) → r ≡ At 1 → l ≡ At 2 → g ≡ At 3 →
      w ≡ pair_rows (At 5) → o ≡ At 6 → a ≡ At 7 → m ≡ At 8 →
      ((s : List ℕ) (cs : List (List Expression)) → let t = key_sheet k r l g s w o a m cs in adjusted_of t x ≡ adjust_input_keys_ordering same_expr t) →
      adjusted_of (held_key_sheet lists counts) x ≡ adjust_input_keys_ordering same_expr (held_key_sheet lists counts)
  unfolding held_key_sheet
  key_decided x pk pr pl pg pw po pa pm f =
      let cs = expr_lists lists counts 9 (child_count lists counts) in
      subst (λ t. adjusted_of t x ≡ adjust_input_keys_ordering same_expr t)
      (λ j. key_sheet (pk j) (pr j) (pl j) (pg j) (At 4) (pw j) (po j) (pa j) (pm j) cs) (f (At 4) cs)
