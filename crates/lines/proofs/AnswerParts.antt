-- The text of an answer in parts: its lists, and the children's.
-- Assumes nothing.
use mathlib.Core.Path.{◌≡◌, ap, ◌∙◌}
use mathlib.Core.List.{List, [], ◌∷◌, ◌++◌, append_assoc, append-nil}
use Rattle.std.specs.Prelude.{Option}
use Prim.Native.Nat.{ℕ, ◌+◌}
use lib.ListN.{length, length-append}
use Rattle.keys.specs.Expressions.{Expression, expressions}
use Rattle.keys.specs.Adjust.{KeyAnswer, hand_over}
use Rattle.keys.specs.Inputs.{JoinAnswer}
use Rattle.sheet.specs.KeyAnswers.{numbers_line, exprs_line, projected_numbers, child_lines, key_answer_text, join_answer_text}
use Rattle.sheet.specs.Held.{expr_lists}
use Rattle.lines.specs.Children.{chosen, children_text}
use Rattle.lines.specs.Texts.{key_lists_text, join_lists_text}
use Rattle.lines.proofs.Pieces.{joined}
use Rattle.lines.proofs.ChildPieces.{children_text_lem}

-- ---- K answers

-- the numbers and lists of a K answer, expressions packed
pub record KeyLists (a : KeyAnswer) (changes reports : ℕ) (p r l g s j : List ℕ) : Type 0 where
  pub changed : a.changed ≡ changes
  pub report : a.report ≡ reports
  pub positions : a.positions ≡ p
  pub required : a.required ≡ expressions r
  pub left : a.left ≡ expressions l
  pub right : a.right ≡ expressions g
  pub directions : a.directions ≡ s
  pub projection : projected_numbers a.projection ≡ j

pub key_answer_text_lem :
    (a : KeyAnswer) (changed report : ℕ) (p r l g s j : List ℕ) → KeyLists a changed report p r l g s j →
    key_answer_text a ≡ key_lists_text changed report p r l g s j ++ child_lines a.children
unfolding key_answer_text key_lists_text
key_answer_text_lem a changed report p r l g s j h =
    rw (h.changed, h.report, h.positions, h.required, h.left, h.right, h.directions, h.projection) (simp append_assoc)

-- where each child's list is kept or replaced, the lines of the children are those that are written from what is held
pub key_answer_held :
    (a : KeyAnswer) (changed report : ℕ) (p r l g s j : List ℕ) → KeyLists a changed report p r l g s j →
    (first others : Option (List ℕ)) (lists : List (List ℕ)) (counts : List ℕ) (n : ℕ) →
    a.children ≡ hand_over (chosen first) (chosen others) (expr_lists lists counts 9 n) →
    key_answer_text a ≡ key_lists_text changed report p r l g s j ++ children_text first others lists counts n
key_answer_held a changed report p r l g s j h first others lists counts n e =
    rw (children_text_lem first others lists counts n)
    (key_answer_text_lem a changed report p r l g s j h ∙ ap (λ (cs : List (List Expression)). key_lists_text changed report p r l g s j ++ child_lines cs) e)

module _ (changed report : ℕ) (p r l g s j : List ℕ) where
  pub key_parts :
      key_lists_text changed report p r l g s j ≡
      joined (numbers_line 107 (changed ∷ report ∷ []) ∷ numbers_line 80 p ∷ exprs_line 82 (expressions r) ∷ exprs_line 76 (expressions l)
      ∷ exprs_line 71 (expressions g) ∷ numbers_line 83 s ∷ numbers_line 74 j ∷ [])
  unfolding key_lists_text
  key_parts = rw (append-nil (numbers_line 74 j))

  pub key_long :
      length (key_lists_text changed report p r l g s j) ≡
      length (numbers_line 107 (changed ∷ report ∷ [])) + (length (numbers_line 80 p) + (length (exprs_line 82 (expressions r)) + (length (exprs_line 76 (expressions l))
      + (length (exprs_line 71 (expressions g)) + (length (numbers_line 83 s) + length (numbers_line 74 j))))))
  unfolding key_lists_text
  key_long = simp length-append

-- ---- I answers

-- the numbers and lists of an I answer, expressions packed
pub record JoinLists (a : JoinAnswer) (reports follows : ℕ) (p l g s : List ℕ) : Type 0 where
  pub report : a.report ≡ reports
  pub followed : a.followed ≡ follows
  pub positions : a.positions ≡ p
  pub left : a.left ≡ expressions l
  pub right : a.right ≡ expressions g
  pub directions : a.directions ≡ s

pub join_answer_text_lem :
    (a : JoinAnswer) (report followed : ℕ) (p l g s : List ℕ) → JoinLists a report followed p l g s → join_answer_text a ≡ join_lists_text report followed p l g s
unfolding join_answer_text join_lists_text
join_answer_text_lem a report followed p l g s h = rw (h.report, h.followed, h.positions, h.left, h.right, h.directions)

module _ (report followed : ℕ) (p l g s : List ℕ) where
  pub join_parts :
      join_lists_text report followed p l g s ≡
      joined (numbers_line 105 (report ∷ followed ∷ []) ∷ numbers_line 80 p ∷ exprs_line 76 (expressions l) ∷ exprs_line 71 (expressions g) ∷ numbers_line 83 s ∷ [])
  unfolding join_lists_text
  join_parts = rw (append-nil (numbers_line 83 s))

  pub join_long :
      length (join_lists_text report followed p l g s) ≡
      length (numbers_line 105 (report ∷ followed ∷ [])) + (length (numbers_line 80 p) + (length (exprs_line 76 (expressions l)) + (length (exprs_line 71 (expressions g)) + length (numbers_line 83 s))))
  unfolding join_lists_text
  join_long = simp length-append
