-- The printed K sheet and marked sheets 1 to 4 of document 01, as rows of one table, by computation.
use Prim.Native.Nat.{ℕ}
use mathlib.Core.Path.{◌≡◌, refl}
use mathlib.Core.Bool.{true, false}
use mathlib.Core.List.{List, [], ◌∷◌}
use Rattle.keys.specs.Reorder.{try_reorder}
use Rattle.keys.specs.Expressions.{Expression, same_expr, column, placeholder}
use Rattle.keys.specs.Adjust.{KeySheet, KeyAnswer, answered, adjust_input_keys_ordering}

pub record Row : Type 0 where
  pub sheet : KeySheet
  pub answer : KeyAnswer

-- a sort-merge join: R, L, G, S
abbrev pub sort_merge : List Expression → List Expression → List Expression → List ℕ → KeySheet
sort_merge required left right directions = record {
  op = 2;
  mode = 0;
  join = 0;
  columns = 0;
  plain = true;
  partial = false;
  required = required;
  left = left;
  right = right;
  directions = directions;
  rewriting = [];
  groups = [];
  aggregates = [];
  mapped = [];
  children = [] ∷ [] ∷ [];
}

-- its answer: the report, P, R, L, G, S
abbrev pub ordered : ℕ → List ℕ → List Expression → List Expression → List Expression → List ℕ → KeyAnswer
ordered report positions required left right directions = record {
  changed = 1;
  report = report;
  positions = positions;
  required = required;
  left = left;
  right = right;
  directions = directions;
  projection = [];
  children = left ∷ right ∷ [];
}

abbrev a : Expression
a = column 1 0

abbrev b : Expression
b = column 2 1

abbrev x : Expression
x = column 5 0

abbrev y : Expression
y = column 6 1

abbrev z : Expression
z = column 7 2

-- a placeholder is required: the first pair comes out twice, and the second not at all
abbrev pub doubled : Row
doubled = record {
  sheet = sort_merge (a ∷ placeholder ∷ []) (a ∷ b ∷ []) (x ∷ y ∷ []) (0 ∷ 3 ∷ []);
  answer = ordered 2 (0 ∷ 0 ∷ []) (a ∷ placeholder ∷ []) (a ∷ a ∷ []) (x ∷ x ∷ []) (0 ∷ 0 ∷ []);
}

abbrev pub rows : List Row
rows =
    record {
      sheet = sort_merge (b ∷ a ∷ []) (a ∷ b ∷ []) (x ∷ y ∷ []) (0 ∷ 3 ∷ []);
      answer = ordered 2 (1 ∷ 0 ∷ []) (b ∷ a ∷ []) (b ∷ a ∷ []) (y ∷ x ∷ []) (3 ∷ 0 ∷ []);
    }
    ∷ record { sheet = sort_merge [] [] [] []; answer = ordered 1 [] [] [] [] [] }
    ∷ record {
      sheet = sort_merge (a ∷ a ∷ b ∷ []) (a ∷ b ∷ a ∷ []) (x ∷ y ∷ z ∷ []) (0 ∷ 1 ∷ 2 ∷ []);
      answer = ordered 2 (0 ∷ 2 ∷ 1 ∷ []) (a ∷ a ∷ b ∷ []) (a ∷ a ∷ b ∷ []) (x ∷ z ∷ y ∷ []) (0 ∷ 2 ∷ 1 ∷ []);
    }
    ∷ doubled
    ∷ record {
      sheet = sort_merge (a ∷ b ∷ b ∷ []) (a ∷ b ∷ []) (x ∷ y ∷ []) (0 ∷ 3 ∷ []);
      answer = ordered 3 [] (a ∷ b ∷ b ∷ []) (a ∷ b ∷ []) (x ∷ y ∷ []) (0 ∷ 3 ∷ []);
    }
    ∷ []

abbrev pub Right : List Row → Type 0
Right [] = Unit {0}
Right (r ∷ rs) = (adjust_input_keys_ordering same_expr r.sheet ≡ answered r.answer) × Right rs

pub marked : Right rows
unfolding adjust_input_keys_ordering try_reorder
marked = (refl, (refl, (refl, (refl, (refl, tt)))))
