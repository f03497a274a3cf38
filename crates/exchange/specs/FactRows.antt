-- The B, F and X lines as rows of numbers, and a child by its numbers.
-- Renders document 01, "Exchange sheet", the paragraph that begins "`B,friendly,window,aggexact,aggsubset`".
use Rattle.std.specs.Prelude.{ℕ, suc, List, [], ◌∷◌, get_or}
use Rattle.std.proofs.Math.Option.{Option, some, none as nothing}
use Rattle.exchange.specs.declared.status.Asked.{Asked}
use Rattle.exchange.specs.Trees.{node, none, Operator}
use Rattle.exchange.specs.Facts.{NodeFacts, ChildFacts, Row}
use Rattle.exchange.specs.States.{Child}

abbrev pub node_facts : List ℕ → NodeFacts
node_facts x = record { friendly = get_or x 0 0; window = get_or x 1 0; aggexact = get_or x 2 0; aggsubset = get_or x 3 0 }

abbrev pub child_facts : List ℕ → ChildFacts
child_facts x =
    record {
      gains = get_or x 0 0;
      maintains = get_or x 1 0;
      rowkind = get_or x 2 0;
      rows = get_or x 3 0;
      grouping = get_or x 4 0;
      splits = get_or x 5 0;
      entries = get_or x 6 0;
    }

abbrev pub fact_row : List ℕ → Row
fact_row x =
    record {
      child = get_or x 0 0;
      form = get_or x 1 0;
      count = get_or x 2 0;
      layout = get_or x 3 0;
      athash = get_or x 4 0;
      exact = get_or x 5 0;
      subset = get_or x 6 0;
      met = get_or x 7 0;
      aftermet = get_or x 8 0;
      const = get_or x 9 0;
      ford = get_or x 10 0;
      fplain = get_or x 11 0;
      order = get_or x 12 0;
    }

-- the row at a place
abbrev pub row_at : List (List ℕ) → Option ℕ → Option Row
row_at xs nothing = nothing
row_at xs (some p) = some (fact_row (get_or xs p []))

-- an operator of which only the kind, the count and the need count
abbrev pub operator_by : ℕ → ℕ → ℕ → Operator
operator_by kind count need =
    record { id = 0; kind = kind; count = count; keeps = 0; limit = nothing; order = 0; mask = 0; tracked = 0; need = need }

-- the child at a place, counted from 1, of those numbers, a leaf
abbrev pub child_at : ℕ → Asked → Child
child_at n a = record { number = n; facts = child_facts a.facts; plan = node (operator_by 0 a.count a.need) none }

-- where nothing goes by the place
abbrev pub child_for : Asked → Child
child_for a = child_at 0 a

-- the children from a place on
unfoldable pub children_for : ℕ → List Asked → List Child
children_for n [] = []
children_for n (a ∷ asks) = child_at n a ∷ children_for (suc n) asks

-- the children, as many as have a need, a count and an F row
unfoldable pub asked_by : List ℕ → List ℕ → List (List ℕ) → List Asked
asked_by (need ∷ needs) (count ∷ counts) (f ∷ fs) = record { need = need; count = count; facts = f } ∷ asked_by needs counts fs
asked_by [] counts fs = []
asked_by (need ∷ needs) [] fs = []
asked_by (need ∷ needs) (count ∷ counts) [] = []
