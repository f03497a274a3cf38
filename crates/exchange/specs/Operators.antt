-- Operators by kind, and the new ones: each made by one constructor, from the operator that it stands on.
-- Renders document 01, "Kind 0 other, 1 sort-preserving merge, ..", "new kinds 12 keyed exchange, 13 round robin, 14 interleave"
-- and "A new exchange keeps order if what it stands on has an order and more than one partition".
use Rattle.std.specs.Prelude.{ℕ, Bool, true, false, cond, not, ◌&&◌, ◌||◌, eqb, ltb}
use Rattle.std.proofs.Math.Option.{Option, some, none as nothing}
use Rattle.exchange.specs.Trees.{node, none, ◌∷ᶠ◌, Operator, Plan}
use Rattle.exchange.specs.Facts.{Row}

-- ---- kinds, as document 01 numbers them

abbrev pub is_sort_preserving_merge : Operator → Bool
is_sort_preserving_merge o = eqb o.kind 1

abbrev pub is_coalesce_partitions : Operator → Bool
is_coalesce_partitions o = eqb o.kind 2

-- on the sheet (3, and 4 of unknown partitioning) or new (keyed exchange, round robin)
abbrev pub is_repartition : Operator → Bool
is_repartition o = (eqb o.kind 3 || eqb o.kind 4) || (eqb o.kind 12 || eqb o.kind 13)

abbrev pub is_unknown_repartition : Operator → Bool
is_unknown_repartition o = eqb o.kind 4

-- hash join in partitioned mode, sort-merge join
abbrev pub is_partitioned_join : Operator → Bool
is_partitioned_join o = eqb o.kind 5 || eqb o.kind 6

abbrev pub is_window : Operator → Bool
is_window o = eqb o.kind 7

abbrev pub is_partial_aggregate : Operator → Bool
is_partial_aggregate o = eqb o.kind 8

abbrev pub is_union : Operator → Bool
is_union o = eqb o.kind 9

abbrev pub is_output_requirement : Operator → Bool
is_output_requirement o = eqb o.kind 10

-- ---- needs: what the parent requires of the operator

abbrev pub is_single : ℕ → Bool
is_single need = eqb need 1

abbrev pub is_keyed : ℕ → Bool
is_keyed need = eqb need 2

-- ---- labels

-- a mark is 0 or 1
abbrev pub mark : Bool → ℕ
mark true = 1
mark false = 0

-- the mark that 000 calls the context's data
abbrev pub is_tracked : Operator → Bool
is_tracked o = eqb o.tracked 1

-- 0 numbers no ordering
abbrev pub has_order : Operator → Bool
has_order o = not (eqb o.order 0)

abbrev pub is_present : Option ℕ → Bool
is_present nothing = false
is_present (some l) = true

abbrev pub has_limit : Operator → Bool
has_limit o = is_present o.limit

-- the operator with another mark
abbrev pub track : ℕ → Operator → Operator
track m o = record {
  id = o.id;
  kind = o.kind;
  count = o.count;
  keeps = o.keeps;
  limit = o.limit;
  order = o.order;
  mask = o.mask;
  tracked = m;
  need = o.need;
}

-- the tree with another mark at its root
abbrev pub track_root : ℕ → Plan → Plan
track_root m (node o ts) = node (track m o) ts

-- a tree alone below an operator
abbrev pub above : Operator → Plan → Plan
above o t = node o (t ∷ᶠ none)

-- ---- new operators

-- what is said of a new operator; the rest comes from its constructor
pub record New : Type 0 where
  pub kind : ℕ
  pub count : ℕ
  pub keeps : ℕ
  pub limit : Option ℕ
  pub order : ℕ
  pub mask : ℕ
  pub tracked : ℕ

-- every new operator: id 0, and the need of the operator that it stands on, whose place it takes
abbrev pub new_operator : New → Operator → Operator
new_operator n under = record {
  id = 0;
  kind = n.kind;
  count = n.count;
  keeps = n.keeps;
  limit = n.limit;
  order = n.order;
  mask = n.mask;
  tracked = n.tracked;
  need = under.need;
}

-- a merge, of the row of its own form: sort-preserving where what it stands on has an order, else a coalesce
abbrev pub new_merge : Row → Operator → Operator
new_merge x under =
    new_operator (record {
      kind = cond (has_order under) 1 2;
      count = x.count;
      keeps = 0;
      limit = nothing;
      order = x.order;
      mask = 0;
      tracked = 1;
    }) under

-- a keyed exchange (12) or a round robin (13), of the row of its own form
abbrev pub new_exchange : ℕ → Row → Operator → Operator
new_exchange kind x under =
    new_operator (record {
      kind = kind;
      count = x.count;
      keeps = mark (has_order under && ltb 1 under.count);
      limit = nothing;
      order = x.order;
      mask = 0;
      tracked = 1;
    }) under

-- the sort that has a limited merge's limit, given the coalesce under it and the merge's limit and order
abbrev pub limited_sort : Option ℕ → ℕ → Operator → Operator
limited_sort limit order under =
    new_operator (record { kind = 11; count = under.count; keeps = 0; limit = limit; order = order; mask = 0; tracked = 0 }) under

-- the sort for a required order, by its kept entries: as many partitions as there are under it, at least 1
abbrev pub required_sort : Option ℕ → ℕ → Operator → Operator
required_sort limit entries under =
    new_operator (record {
      kind = 11;
      count = cond (ltb 1 under.count) under.count 1;
      keeps = 0;
      limit = limit;
      order = 0;
      mask = entries;
      tracked = 0;
    }) under
