-- The lines of K answers before the children's, and those of I answers, from lists of numbers, expressions packed.
-- Renders document 01, "Answer: `k,changed,report`", and "Answer `i,report,followed`".
use Rattle.std.specs.Prelude.{ℕ, List, [], ◌∷◌, ◌++◌}
use Rattle.keys.specs.Expressions.{expressions}
use Rattle.sheet.specs.KeyAnswers.{numbers_line, exprs_line}
use Rattle.lines.specs.declared.key_text.KeyLists.{KeyLists}
use Rattle.lines.specs.declared.join_text.JoinLists.{JoinLists}

-- k, P, R, L, G, S, J
unfoldable pub key_lists_text : ℕ → ℕ → List ℕ → List ℕ → List ℕ → List ℕ → List ℕ → List ℕ → List ℕ
key_lists_text changed report p r l g s j =
    numbers_line 107 (changed ∷ report ∷ []) ++ (numbers_line 80 p ++ (exprs_line 82 (expressions r) ++ (exprs_line 76 (expressions l)
    ++ (exprs_line 71 (expressions g) ++ (numbers_line 83 s ++ numbers_line 74 j)))))

-- i, P, L, G, S
unfoldable pub join_lists_text : ℕ → ℕ → List ℕ → List ℕ → List ℕ → List ℕ → List ℕ
join_lists_text report followed p l g s =
    numbers_line 105 (report ∷ followed ∷ []) ++ (numbers_line 80 p ++ (exprs_line 76 (expressions l) ++ (exprs_line 71 (expressions g) ++ numbers_line 83 s)))

-- of the lists that an answer is written from
abbrev pub key_text_of : KeyLists → List ℕ
key_text_of x = key_lists_text x.changed x.report x.positions.now x.required.now x.left.now x.right.now x.directions.now x.projection.now

abbrev pub join_text_of : JoinLists → List ℕ
join_text_of x = join_lists_text x.report x.followed x.positions.now x.left.now x.right.now x.directions.now
