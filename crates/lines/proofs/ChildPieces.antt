-- The C lines of a K answer as pieces, one for each child.
-- Assumes nothing.
use mathlib.Core.Path.{◌≡◌, refl, ap, ◌∙◌}
use mathlib.Core.List.{List, [], ◌++◌, map}
use mathlib.Core.Bool.{Bool, true, false, cond}
use Prim.Native.Nat.{ℕ, zero, suc, ◌+◌, ◌≤◌}
use native.Mathlib.Omega.{arith}
use lib.Dec.{eqb}
use lib.ListN.{length, get_or, length-take}
use Rattle.std.specs.Prelude.{Option, Some, None, IfSome, unwrap_or}
use borrow.Author.Tests.{ne_eqb}
use Rattle.keys.specs.Expressions.{expressions}
use Rattle.keys.specs.Adjust.{hand_over}
use Rattle.sheet.specs.Held.{held_at, expr_lists}
use Rattle.sheet.specs.KeyAnswers.{exprs_line, child_lines}
use Rattle.lines.specs.Children.{chosen, children_text, child_list}
use Rattle.lines.proofs.Pieces.{pieces}

-- no more than the count says
pub held_few : (lists : List (List ℕ)) (counts : List ℕ) (i k : ℕ) → get_or counts i 0 ≤ k → length (held_at lists counts i) ≤ k
unfolding held_at
held_few lists counts i k h = omega (arith, length-take (get_or counts i 0) (get_or lists i []))

either_text : (t : Option (List ℕ)) (own : List ℕ) → exprs_line 67 (chosen t (expressions own)) ≡ exprs_line 67 (expressions (unwrap_or t own))
either_text None own = refl
either_text (Some handed) own = refl

-- each list that is handed, and each that is kept, is short
pub child_few :
    (first others : Option (List ℕ)) (own : List ℕ) (i k : ℕ) → IfSome first (λ l. length l ≤ k) → IfSome others (λ l. length l ≤ k) → length own ≤ k →
    length (child_list i first others own) ≤ k
unfolding child_list
child_few first others own i k f o h = go (eqb i 0)
  where
    short : (t : Option (List ℕ)) → IfSome t (λ l. length l ≤ k) → length (unwrap_or t own) ≤ k
    short None e = h
    short (Some handed) e = e

    go : (b : Bool) → length (unwrap_or (cond b first others) own) ≤ k
    go true = short first f
    go false = short others o

module _ (first others : Option (List ℕ)) where
  module _ (lists : List (List ℕ)) (counts : List ℕ) where
    -- the text, as the answer has it
    pub children_text_lem :
        (n : ℕ) → children_text first others lists counts n ≡ child_lines (hand_over (chosen first) (chosen others) (expr_lists lists counts 9 n))
    unfolding children_text
    children_text_lem n = refl

    -- the line of child i
    abbrev pub child_piece : ℕ → List ℕ
    child_piece i = exprs_line 67 (expressions (child_list i first others (held_at lists counts (9 + i))))

    first_piece : exprs_line 67 (chosen first (expressions (held_at lists counts 9))) ≡ child_piece 0
    unfolding child_list
    first_piece = either_text first (held_at lists counts 9)

    later_piece : (i : ℕ) → exprs_line 67 (chosen others (expressions (held_at lists counts (9 + suc i)))) ≡ child_piece (suc i)
    unfolding child_list
    later_piece i = rw (ne_eqb (suc i) 0 (λ e. omega arith)) (either_text others (held_at lists counts (9 + suc i)))

    later_pieces : (n i : ℕ) → child_lines (map (chosen others) (expr_lists lists counts (9 + suc i) n)) ≡ pieces child_piece (suc i) n
    unfolding pieces
    later_pieces zero i = refl
    later_pieces (suc n) i =
        let e : suc (9 + suc i) ≡ 9 + suc (suc i) = omega arith in
        ap (λ (t : List ℕ). t ++ child_lines (map (chosen others) (expr_lists lists counts (suc (9 + suc i)) n))) (later_piece i)
        ∙ ap (λ (t : List ℕ). child_piece (suc i) ++ t) (ap (λ (k : ℕ). child_lines (map (chosen others) (expr_lists lists counts k n))) e ∙ later_pieces n (suc i))

    pub children_pieces : (n : ℕ) → children_text first others lists counts n ≡ pieces child_piece 0 n
    unfolding children_text pieces
    children_pieces zero = refl
    children_pieces (suc n) =
        ap (λ (t : List ℕ). t ++ child_lines (map (chosen others) (expr_lists lists counts 10 n))) first_piece
        ∙ ap (λ (t : List ℕ). child_piece 0 ++ t) (later_pieces n 0)
