-- Whether X rows and Y masks fit the tree, on rows of numbers: what `Fit` of crate `exchange` says of values.
-- Renders number 8 of document 01's table.
use Rattle.std.specs.Prelude.{ℕ, ◌-◌, ◌<◌, List, [], ◌∷◌, map, Bool, true, false, cond, ◌&&◌, ◌||◌, eqb, leb, length, get_or}
use Rattle.exchange.specs.declared.fact.Fact.{Fact}
use Rattle.exchange.specs.declared.fact.Fact.TheVariants.{Row, Missing}
use Rattle.exchange.specs.Forms.{form_of}
use Rattle.exchange.specs.Rows.{node_at}
use Rattle.exchange.specs.FactRows.{child_facts, fact_row}
use Rattle.exchange.specs.Settings.{is_set}
use Rattle.exchange.specs.Fit.{within_bits, none_repeated}

-- the count by what is topmost: an exchange or round robin, a merge, the split source, the child itself
abbrev pub count_fits_by : ℕ → ℕ → ℕ → ℕ → ℕ → ℕ → Bool
count_fits_by target form count order child_count child_order =
    cond (is_set (form_of form).relationship || leb 2 (form_of form).top) (eqb count target)
    (cond (eqb (form_of form).top 1) (eqb count 1)
    (cond (is_set (form_of form).split) true
    (eqb count child_count && eqb order child_order)))

-- a row of a child by the child's place in the tree and its F row
abbrev pub child_fits_by : ℕ → List (List ℕ) → List ℕ → ℕ → List ℕ → Bool
child_fits_by target rows x place f =
    count_fits_by target (get_or x 1 0) (get_or x 2 0) (get_or x 12 0) (node_at rows place).count (node_at rows place).order
    && within_bits (child_facts f).entries (get_or x 9 0)

-- a known form of a known child; the first child has the number 1
abbrev pub row_fits_by : ℕ → List (List ℕ) → List ℕ → List (List ℕ) → List ℕ → Bool
row_fits_by target rows places facts x =
    leb (get_or x 1 0) 15 && (leb 1 (get_or x 0 0) && (leb (get_or x 0 0) (length places)
    && child_fits_by target rows x (get_or places (get_or x 0 0 - 1) 0) (get_or facts (get_or x 0 0 - 1) [])))

-- every row
unfoldable pub rows_fit_by : ℕ → List (List ℕ) → List ℕ → List (List ℕ) → List (List ℕ) → Bool
rows_fit_by target rows places facts [] = true
rows_fit_by target rows places facts (x ∷ xs) = row_fits_by target rows places facts x && rows_fit_by target rows places facts xs

-- no child and form twice, and every row fits
abbrev pub fact_rows_fit : ℕ → List (List ℕ) → List ℕ → List (List ℕ) → List (List ℕ) → Bool
fact_rows_fit target rows places facts xs = none_repeated (map fact_row xs) && rows_fit_by target rows places facts xs

-- every place is one of the rows
abbrev pub Placed : List (List ℕ) → List ℕ → Type 0
Placed rows places = (i : ℕ) → i < length places → get_or places i 0 < length rows

-- whether a row was found at a place
abbrev pub found_at : Fact → ℕ → Bool
found_at (Row p) i = eqb p i
found_at Missing i = false
