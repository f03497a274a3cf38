-- The lines of an I sheet that is held are as long as the decision asks, and what is decided of them is decided of the sheet.
-- Assumes nothing.
use Prim.Native.Nat.{ℕ, ◌≤◌}
use mathlib.Core.Path.{◌≡◌, sym, ◌∙◌, subst}
use mathlib.Core.List.{List}
use lib.ListN.{length, get_or, length-map}
use Rattle.keys.specs.Expressions.{same_expr, expression}
use Rattle.keys.specs.Inputs.{reorder_join_keys_to_inputs}
use Rattle.keys.specs.InputValues.{join_sheet, attempt_of}
use Rattle.keys.specs.declared.inputs.Attempt.{Attempt}
use Rattle.sheet.specs.Held.{held_at, pair_rows, held_join_sheet, JoinHeld}

-- what a decision asks of the lists
abbrev pub JoinSuited : List ℕ → List ℕ → List ℕ → List ℕ → Type 0
JoinSuited l g h n = (length l ≤ 32) × (length g ≡ length l) × (length h ≤ 33) × (length n ≤ 33)

module _ (lists : List (List ℕ)) (counts : List ℕ) where
  abbrev At : ℕ → List ℕ
  At i = held_at lists counts i

  module _ (k : JoinHeld lists counts) where
    pub join_even : length (At 2) ≡ length (At 1)
    unfolding held_join_sheet
    join_even = sym (length-map (At 2) expression) ∙ sym k.legal.even ∙ length-map (At 1) expression

    pub join_few : length (At 1) ≤ 32
    unfolding held_join_sheet
    join_few = rw length-map at k.legal.left.few

    pub join_directions : length (At 3) ≤ 32
    unfolding held_join_sheet
    join_directions = k.legal.directions.few

    pub join_suited : {l g h n : List ℕ} → l ≡ At 1 → g ≡ At 2 → h ≡ At 4 → n ≡ At 5 → JoinSuited l g h n
    join_suited p q t u =
        subst (λ (x : Type 0). x) (λ j. JoinSuited (sym p j) (sym q j) (sym t j) (sym u j)) (join_few, join_even, k.inputs.0, k.inputs.1)

  -- what is decided of the lists is decided of the sheet
  pub join_decided :
      {op mode : ℕ} {l g h n : List ℕ} {w v : List (List ℕ)} (x : Attempt) → op ≡ get_or (At 0) 0 0 → mode ≡ get_or (At 0) 1 0 → l ≡ At 1 → g ≡ At 2 →
      h ≡ At 4 → n ≡ At 5 → w ≡ pair_rows (At 6) → v ≡ pair_rows (At 7) →
      ((s : List ℕ) → let t = join_sheet op mode l g s h n w v in attempt_of t x ≡ reorder_join_keys_to_inputs t same_expr) →
      attempt_of (held_join_sheet lists counts) x ≡ reorder_join_keys_to_inputs (held_join_sheet lists counts) same_expr
  unfolding held_join_sheet
  join_decided x po pm pl pg ph pn pw pv f =
      subst (λ t. attempt_of t x ≡ reorder_join_keys_to_inputs t same_expr)
      (λ j. join_sheet (po j) (pm j) (pl j) (pg j) (At 3) (ph j) (pn j) (pw j) (pv j)) (f (At 3))
