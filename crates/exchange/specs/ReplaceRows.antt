-- The rows that come in the place of an operator, above those of its children: what `replace_operator` makes, as rows.
-- Renders `replace_order_preserving_variants` of 000.
use Rattle.std.specs.Prelude.{ℕ, Bool, cond, ◌&&◌, ◌||◌, List, [], ◌∷◌, eqb}
use Rattle.exchange.specs.Trees.{Operator}
use Rattle.exchange.specs.Operators.{is_sort_preserving_merge, is_repartition, has_limit, limited_sort}
use Rattle.exchange.specs.Replace.{coalesced, relaxed}
use Rattle.exchange.specs.Rows.{row_of}

-- a repartition, by its kind
abbrev pub exchanges : ℕ → Bool
exchanges kind = (eqb kind 3 || eqb kind 4) || (eqb kind 12 || eqb kind 13)

-- the sort that takes a merge's limit
abbrev pub merge_sort : Operator → Operator
merge_sort o = limited_sort o.limit o.order (coalesced o)

-- an exchange that keeps an order gives it up; any other operator stays
abbrev pub relaxed_or : Operator → Operator
relaxed_or o = cond (is_repartition o && eqb o.keeps 1) (relaxed o) o

-- of a merge over k trees
abbrev pub merge_rows : Operator → ℕ → List (List ℕ)
merge_rows o k = cond (has_limit o) (row_of (merge_sort o) 1 ∷ row_of (coalesced o) k ∷ []) (row_of (coalesced o) k ∷ [])

-- of any operator over k trees
abbrev pub heads : Operator → ℕ → List (List ℕ)
heads o k = cond (is_sort_preserving_merge o) (merge_rows o k) (row_of (relaxed_or o) k ∷ [])
