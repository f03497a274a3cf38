-- The C lines of a K answer: each child's list is kept, or another stands in its place.
-- Renders document 01, "Answer: `k,changed,report`".
use Rattle.std.specs.Prelude.{ℕ, List, Option, Some, None, unwrap_or, cond, eqb}
use Rattle.keys.specs.Expressions.{Expression, expressions}
use Rattle.keys.specs.Adjust.{hand_over}
use Rattle.sheet.specs.Held.{expr_lists}
use Rattle.sheet.specs.KeyAnswers.{child_lines}

-- what becomes of a child's list: it is kept, or replaced by the one that is handed
abbrev pub chosen : Option (List ℕ) → List Expression → List Expression
chosen None c = c
chosen (Some handed) c = expressions handed

-- the lines of n children: the first's list by the first choice, every other's by the second
unfoldable pub children_text : Option (List ℕ) → Option (List ℕ) → List (List ℕ) → List ℕ → ℕ → List ℕ
children_text first others lists counts n = child_lines (hand_over (chosen first) (chosen others) (expr_lists lists counts 9 n))

-- the list of child i, whose own is given
unfoldable pub child_list : ℕ → Option (List ℕ) → Option (List ℕ) → List ℕ → List ℕ
child_list i first others own = unwrap_or (cond (eqb i 0) first others) own
