-- X rows by child and form; where a pair is repeated, which no accepted sheet has, the first counts.
-- Renders document 01, "rows `X,child,form,..`".
use Rattle.std.specs.Prelude.{ℕ, suc, ◌+◌, ◌*◌, ◌-◌, cond, ◌&&◌, List, [], ◌∷◌, eqb, leb, get_or, set, replicate}
use Rattle.std.proofs.Math.Option.{Option, none, some}
use Rattle.exchange.specs.declared.fact.Fact.{Fact}
use Rattle.exchange.specs.declared.fact.Fact.TheVariants.{Row, Missing}

abbrev pub child_of : List ℕ → ℕ
child_of x = get_or x 0 0

abbrev pub form_number : List ℕ → ℕ
form_number x = get_or x 1 0

-- one place further
abbrev pub later : Option ℕ → Option ℕ
later none = none
later (some p) = some (suc p)

-- the place of the first row of that child and form
unfoldable pub row_for : List (List ℕ) → ℕ → ℕ → Option ℕ
row_for [] child form = none
row_for (x ∷ xs) child form =
    cond (eqb (child_of x) child && eqb (form_number x) form) (some 0) (later (row_for xs child form))

abbrev pub found_of : Fact → Option ℕ
found_of (Row p) = some p
found_of Missing = none

-- ---- the index: for children 1 to 8 and forms 0 to 15 the place of the row and one more, or 0

unfoldable pub slot : ℕ → ℕ → ℕ
slot child form = cond (leb 1 child && (leb child 8 && leb form 15)) ((child - 1) * 16 + form) 128

-- of rows that begin at place i
unfoldable pub index_from : ℕ → List (List ℕ) → List ℕ
index_from i [] = replicate 129 0
index_from i (x ∷ xs) = set (index_from (suc i) xs) (slot (child_of x) (form_number x)) (suc i)

abbrev pub index_of : List (List ℕ) → List ℕ
index_of xs = index_from 0 xs
