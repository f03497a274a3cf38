-- What is to be written of a text, part by part, before its first part.
-- Assumes nothing.
use mathlib.Core.List.{List, [], ◌∷◌}
use Prim.Native.Nat.{ℕ, ◌≤◌}
use native.Mathlib.Omega.{arith}
use lib.ListN.{length}
use Rattle.keys.specs.Expressions.{expressions}
use Rattle.sheet.specs.KeyAnswers.{numbers_line, exprs_line}
use Rattle.lines.specs.Texts.{key_text_of, join_text_of}
use Rattle.lines.specs.declared.key_text.KeyLists.{KeyLists}
use Rattle.lines.specs.declared.join_text.JoinLists.{JoinLists}
use Rattle.lines.proofs.AnswerParts.{key_parts, join_parts}
use Rattle.lines.proofs.Pieces.{Due, due_all}

-- the lines of a K answer
pub key_due :
    (x : KeyLists) (out : List ℕ) → length (key_text_of x) ≤ length out →
    Due out 0 (key_text_of x) out 0
    (numbers_line 107 (x.changed ∷ x.report ∷ []) ∷ numbers_line 80 x.positions.now ∷ exprs_line 82 (expressions x.required.now) ∷ exprs_line 76 (expressions x.left.now)
    ∷ exprs_line 71 (expressions x.right.now) ∷ numbers_line 83 x.directions.now ∷ numbers_line 74 x.projection.now ∷ [])
key_due x out h = due_all out 0 (key_parts x.changed x.report x.positions.now x.required.now x.left.now x.right.now x.directions.now x.projection.now) (omega arith)

-- and of an I answer
pub join_due :
    (x : JoinLists) (out : List ℕ) → length (join_text_of x) ≤ length out →
    Due out 0 (join_text_of x) out 0
    (numbers_line 105 (x.report ∷ x.followed ∷ []) ∷ numbers_line 80 x.positions.now ∷ exprs_line 76 (expressions x.left.now) ∷ exprs_line 71 (expressions x.right.now)
    ∷ numbers_line 83 x.directions.now ∷ [])
join_due x out h = due_all out 0 (join_parts x.report x.followed x.positions.now x.left.now x.right.now x.directions.now) (omega arith)
