-- A key sheet and its answer on plain lists, the equality of expressions a parameter.
-- Renders `adjust_input_keys_ordering` of 000 and what it calls; document 01, "Key sheet".
use Rattle.std.specs.Prelude.{ℕ, suc, ◌-◌, Bool, cond, not, ◌&&◌, ◌||◌, List, [], ◌∷◌, ◌++◌, map, eqb, leb, length, take}
use Rattle.std.proofs.Math.Option.{Option, none, some}
use Rattle.keys.specs.Lists.{same_list, place_of, and_then, expected_expr_positions, permute}
use Rattle.keys.specs.Reorder.{Rule, Tried, try_reorder}
use Rattle.keys.specs.Expressions.{Expression, column, placeholder}

-- `columns` is the K line's `left`: how many columns the left child has
pub record KeySheet : Type 0 where
  pub op : ℕ
  pub mode : ℕ
  pub join : ℕ
  pub columns : ℕ
  pub plain : Bool
  pub partial : Bool
  pub required : List Expression
  pub left : List Expression
  pub right : List Expression
  pub directions : List ℕ
  pub rewriting : List (Rule Expression)
  pub groups : List ℕ
  pub aggregates : List ℕ
  pub mapped : List Expression
  pub children : List (List Expression)

-- an entry of J: a name, and its place among the fields of the reordered aggregate
pub record Projected : Type 0 where
  pub name : ℕ
  pub place : ℕ

pub record KeyAnswer : Type 0 where
  pub changed : ℕ
  pub report : ℕ
  pub positions : List ℕ
  pub required : List Expression
  pub left : List Expression
  pub right : List Expression
  pub directions : List ℕ
  pub projection : List Projected
  pub children : List (List Expression)

-- an answer, or refusal 10
pub data Adjustment : Type 0 where
  answered : KeyAnswer → Adjustment
  name_not_found : Adjustment

-- what each child is handed: the first one's list by f, every other's by g
abbrev pub hand_over : (List Expression → List Expression) → (List Expression → List Expression) → List (List Expression) → List (List Expression)
hand_over f g [] = []
hand_over f g (c ∷ cs) = f c ∷ map g cs

abbrev pub kept : List Expression → List Expression
kept c = c

abbrev pub given : List Expression → List Expression → List Expression
given xs c = xs

-- an answer that passes the sheet's pairs on: no join key and no direction moves, and no order is tried
abbrev pub passed_on : KeySheet → ℕ → List Expression → List (List Expression) → KeyAnswer
passed_on s changed required children = record {
  changed = changed;
  report = 0;
  positions = [];
  required = required;
  left = s.left;
  right = s.right;
  directions = s.directions;
  projection = [];
  children = children;
}

module _ (s : KeySheet) where
  -- the mark, R, and what the children are handed
  abbrev pub passed : ℕ → List Expression → (List Expression → List Expression) → (List Expression → List Expression) → Adjustment
  passed changed required f g = answered (passed_on s changed required (hand_over f g s.children))

  abbrev pub unchanged : Adjustment
  unchanged = passed 0 s.required kept kept

  -- "clears R"
  abbrev pub cleared : Adjustment
  cleared = passed 1 [] kept kept

-- the directions of the pairs at the positions: as many as there were
abbrev pub moved_directions : List ℕ → List ℕ → List ℕ
moved_directions s ps = permute 0 s (take (length s) ps)

-- they move with the pairs, where these do
abbrev pub directions_of : List ℕ → Tried Expression → List ℕ
directions_of s t = cond (eqb t.report 2) (moved_directions s t.positions) s

-- an entry in front of others, where there are such
abbrev pub onto : Expression → Option (List Expression) → Option (List Expression)
onto e none = none
onto e (some es) = some (e ∷ es)

-- the index less `columns` in every entry; none where one is no column or its index too small
abbrev pub shifted : ℕ → List Expression → Option (List Expression)
shifted columns [] = some []
shifted columns (e ∷ es) =
    cond (eqb e.kind 0 && leb columns e.index) (onto (column e.name (e.index - columns)) (shifted columns es)) none

abbrev pub or_empty : Option (List Expression) → List Expression
or_empty none = []
or_empty (some es) = es

abbrev pub shift_right_required : ℕ → List Expression → List Expression
shift_right_required columns es = or_empty (shifted columns es)

-- the group name at place i stands for the column 0,name,i
abbrev pub columns_from : ℕ → List ℕ → List Expression
columns_from i [] = []
columns_from i (n ∷ ns) = column n i ∷ columns_from (suc i) ns

-- the first place of each name among the fields; none where one is not found
abbrev pub name_places : List ℕ → List ℕ → Option (List ℕ)
name_places fields [] = some []
name_places fields (n ∷ ns) = and_then (place_of eqb n fields) (λ p. name_places fields ns)

-- names, each with its place
abbrev pub placed_names : List ℕ → List ℕ → List Projected
placed_names [] ps = []
placed_names (n ∷ ns) [] = []
placed_names (n ∷ ns) (p ∷ ps) = record { name = n; place = p } ∷ placed_names ns ps

-- names at the places from i on
abbrev pub names_from : ℕ → List ℕ → List Projected
names_from i [] = []
names_from i (n ∷ ns) = record { name = n; place = i } ∷ names_from (suc i) ns

-- the answer of a join whose order was tried: the children get the resulting keys in every case
abbrev pub joined_by : KeySheet → Tried Expression → KeyAnswer
joined_by s t = record {
  changed = 1;
  report = t.report;
  positions = t.positions;
  required = s.required;
  left = t.left;
  right = t.right;
  directions = directions_of s.directions t;
  projection = [];
  children = hand_over (given t.left) (given t.right) s.children;
}

module _ (same : Expression → Expression → Bool) (s : KeySheet) where
  -- ops 0 (Partitioned) and 2
  abbrev pub reorder_partitioned_join_keys : Adjustment
  reorder_partitioned_join_keys = answered (joined_by s (try_reorder same placeholder s.rewriting s.required s.left s.right))

  -- CollectLeft: what the second child gets, by the join's type
  abbrev pub pushed_right : List Expression
  pushed_right =
      cond (eqb s.join 0 || eqb s.join 2) (shift_right_required s.columns s.required)
      (cond (eqb s.join 5 || (eqb s.join 7 || eqb s.join 9)) s.required [])

  abbrev pub collect_left : Adjustment
  collect_left = passed s 1 s.required kept (given pushed_right)

  -- Partitioned, CollectLeft, Auto
  abbrev pub hash_join : Adjustment
  hash_join = cond (eqb s.mode 0) reorder_partitioned_join_keys (cond (eqb s.mode 1) collect_left (cleared s))

  abbrev pub cross_join : Adjustment
  cross_join = passed s 1 s.required kept (given (shift_right_required s.columns s.required))

  -- R and the child's list stay
  abbrev pub not_regrouped : Adjustment
  not_regrouped = passed s 1 s.required kept kept

  -- the names' places among the moved group names and the aggregate names
  abbrev pub regrouped : List ℕ → Option (List ℕ) → Adjustment
  regrouped ps none = name_not_found
  regrouped ps (some qs) = answered (record {
    changed = 1;
    report = 2;
    positions = ps;
    required = [];
    left = s.left;
    right = s.right;
    directions = s.directions;
    projection = placed_names s.groups qs ++ names_from (length s.groups) s.aggregates;
    children = hand_over (given []) kept s.children;
  })

  abbrev pub regrouped_by : Option (List ℕ) → Adjustment
  regrouped_by none = not_regrouped
  regrouped_by (some ps) = cond s.partial (regrouped ps (name_places (permute 0 s.groups ps ++ s.aggregates) s.groups)) not_regrouped

  -- it acts where the lengths agree, no null expression is there, R differs, positions exist and the input is partial
  abbrev pub reorder_aggregate_keys : Adjustment
  reorder_aggregate_keys =
      let columns = columns_from 0 s.groups in
      cond (eqb (length s.required) (length columns) && (s.plain && not (same_list same columns s.required)))
      (regrouped_by (expected_expr_positions same placeholder columns s.required))
      not_regrouped

  abbrev pub aggregate : Adjustment
  aggregate = cond (eqb (length s.required) 0) (unchanged s) (cond (eqb s.mode 0) reorder_aggregate_keys (cleared s))

  -- M as long as R goes to the child; else R is cleared
  abbrev pub projection : Adjustment
  projection = cond (eqb (length s.mapped) (length s.required)) (passed s 1 s.required (given s.mapped) kept) (cleared s)

  abbrev pub other : Adjustment
  other = cond (eqb (length s.required) 0) (unchanged s) (passed s 1 s.required (given s.required) (given s.required))

  -- by the K line's op
  unfoldable pub adjust_input_keys_ordering : Adjustment
  adjust_input_keys_ordering =
      cond (eqb s.op 0) hash_join
      (cond (eqb s.op 1) cross_join
      (cond (eqb s.op 2) reorder_partitioned_join_keys
      (cond (eqb s.op 3) aggregate
      (cond (eqb s.op 4) projection
      (cond (eqb s.op 5) (cleared s)
      other)))))
