-- The lines of D sheets.
-- Renders document 01, "Exchange sheet": `D,target,..`, `T,kind,..`, `B,friendly,..`, `F,gains,..`, `X,child,..` and `Y`.
use Rattle.std.specs.Prelude.{ℕ, zero, suc, ◌*◌, List, [], ◌∷◌, true, false, replicate}
use Rattle.text.specs.Bounds.{Bound}
use Rattle.linekinds.specs.Lines.{Kind, plain}
use Rattle.plansheet.specs.Shapes.{Shape, fixed_line, coming_line, tree_line}

-- "row counts and limits are 0..4294967295"; "only limits may be empty"
abbrev pub most_long : ℕ
most_long = 4294967295

abbrev pub row_count : Bound
row_count = record { optional = false; largest = most_long }

abbrev pub limit : Bound
limit = record { optional = true; largest = most_long }

-- a field of which no code and no size is asked
abbrev pub any : ℕ
any = most_long

-- target, roundrobin, split, batch, estimates, subset, files, sort, union
abbrev pub settings_shape : Shape
settings_shape = record {
  letter = 68;
  heads = replicate 9 plain;
  sizes = [];
  codes = any ∷ 1 ∷ 1 ∷ any ∷ 1 ∷ any ∷ any ∷ 1 ∷ 1 ∷ [];
}

-- kind, count, keeps, limit, order, tracked, need, children; the kinds are asked by their rules
abbrev pub tree_shape : Shape
tree_shape = record {
  letter = 84;
  heads = plain ∷ plain ∷ plain ∷ limit ∷ plain ∷ plain ∷ plain ∷ plain ∷ [];
  sizes = [];
  codes = any ∷ any ∷ 1 ∷ any ∷ any ∷ 1 ∷ 2 ∷ [];
}

abbrev pub any_number : List ℕ
any_number = 0 ∷ 8 ∷ []

abbrev pub exactly : ℕ → List ℕ
exactly n = n ∷ n ∷ []

-- "Kinds 5 and 6 have two children, 0 and 9 any number, the rest one"
abbrev pub child_rules : List (List ℕ)
child_rules =
    any_number ∷ exactly 1 ∷ exactly 1 ∷ exactly 1 ∷ exactly 1 ∷ exactly 2 ∷ exactly 2 ∷ exactly 1 ∷ exactly 1 ∷ any_number ∷ exactly 1 ∷ exactly 1 ∷ []

-- "256 T lines"
abbrev pub most_lines : ℕ
most_lines = 256

-- friendly, window, aggexact, aggsubset
abbrev pub node_shape : Shape
node_shape = record { letter = 66; heads = replicate 4 plain; sizes = []; codes = 1 ∷ 1 ∷ 1 ∷ 1 ∷ [] }

-- gains, maintains, rowkind, rows, grouping, splits, entries
abbrev pub child_shape : Shape
child_shape = record {
  letter = 70;
  heads = plain ∷ plain ∷ plain ∷ row_count ∷ plain ∷ plain ∷ plain ∷ [];
  sizes = any ∷ any ∷ any ∷ any ∷ any ∷ any ∷ 8 ∷ [];
  codes = 1 ∷ 1 ∷ 2 ∷ any ∷ 1 ∷ 1 ∷ [];
}

-- child, form, count, layout, athash, exact, subset, met, aftermet, const, ford, fplain, order
abbrev pub fact_shape : Shape
fact_shape = record {
  letter = 88;
  heads = replicate 13 plain;
  sizes = [];
  codes = any ∷ any ∷ any ∷ any ∷ 1 ∷ 1 ∷ 1 ∷ 1 ∷ 1 ∷ any ∷ 1 ∷ 1 ∷ [];
}

-- how many sets n children have
unfoldable pub two_to : ℕ → ℕ
two_to zero = 1
two_to (suc n) = 2 * two_to n

-- "the 2^n sets of n children"
abbrev pub mask_shape : ℕ → Shape
mask_shape n = record { letter = 89; heads = replicate (two_to n) plain; sizes = []; codes = [] }

abbrev pub settings_line : Kind
settings_line = fixed_line settings_shape

abbrev pub plan_line : Kind
plan_line = tree_line tree_shape child_rules most_lines

abbrev pub node_line : Kind
node_line = fixed_line node_shape

abbrev pub child_line : Kind
child_line = fixed_line child_shape

abbrev pub fact_line : Kind
fact_line = coming_line fact_shape

abbrev pub mask_line : ℕ → Kind
mask_line n = fixed_line (mask_shape n)
