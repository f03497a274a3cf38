-- A run of nodes with one of them changed as an operator is. A change of an operator is a definition of `exchange`.
-- Renders document 01, "T lines in preorder": a line is a node.
use Rattle.std.specs.Prelude.{ℕ, true, cond, List, [], ◌∷◌, ltb, length, get_or, set}
use Rattle.exchange.specs.declared.row.Node.{Node}
use Rattle.exchange.specs.Trees.{Operator}
use Rattle.exchange.specs.Facts.{Row}
use Rattle.exchange.specs.FactRows.{fact_row}
use Rattle.exchange.specs.Operators.{mark}
use Rattle.exchange.specs.Rows.{node_of, operator_of}

-- ---- one node

-- what a read past the end has
abbrev pub zero : Node
zero =
    record { id = 0; kind = 0; count = 0; keeps = 0; limited = 0; limit = 0; order = 0; mask = 0; tracked = 0; need = 0 }

-- the node of a node's operator, changed
abbrev pub changed : (Operator → Operator) → Node → Node
changed f n = node_of (f (operator_of n))

abbrev pub settled : Node → Node
settled n = changed (λ o. o) n

-- new merges and exchanges are tracked
abbrev pub new_mark : ℕ
new_mark = mark true

-- an X row of which only the count and the order count
abbrev pub split_row : ℕ → ℕ → Row
split_row count order = fact_row (0 ∷ 0 ∷ count ∷ 0 ∷ 0 ∷ 0 ∷ 0 ∷ 0 ∷ 0 ∷ 0 ∷ 0 ∷ 0 ∷ order ∷ [])

-- ---- a run of nodes

-- the node at i, or the one of zeros
abbrev pub node_in : List Node → ℕ → Node
node_in ns i = get_or ns i zero

-- with the node at i another, where there is one
abbrev pub put_in : List Node → ℕ → Node → List Node
put_in ns i n = cond (ltb i (length ns)) (set ns i n) ns

-- with the operator of the node at i changed
abbrev pub changed_in : (Operator → Operator) → List Node → ℕ → List Node
changed_in f ns i = put_in ns i (changed f (node_in ns i))
