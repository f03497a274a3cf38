-- The step of one child: split at its source, then what its need asks: a merge, a keyed exchange or a round robin on top.
-- Renders the loop over the children in `ensure_distribution` of 000, with `add_merge_on_top`, `add_roundrobin_on_top` and
-- `partial_aggregate_output_satisfies_final_partitioning`; document 01, "split .., merge or exchange".
use Rattle.std.specs.Prelude.{ℕ, Bool, cond, not, ◌&&◌, ◌||◌, List, leb, ltb}
use Rattle.std.proofs.Math.Option.{Option, some}
use Rattle.exchange.specs.Trees.{node, root, Operator, Plan}
use Rattle.exchange.specs.declared.settings.Settings.{Settings}
use Rattle.exchange.specs.Settings.{is_set}
use Rattle.exchange.specs.Forms.{split_form, with_top}
use Rattle.exchange.specs.Facts.{NodeFacts, Row}
use Rattle.exchange.specs.Operators.{is_partitioned_join, is_partial_aggregate, is_single, is_keyed, above, new_merge, new_exchange}
use Rattle.exchange.specs.States.{Child, ChildState, need_of, count_of, pass, started, and_then, each_of}
use Rattle.exchange.specs.Status.{RepartitionRequirementStatus}

-- ---- what a new operator on top, or a split, makes of a tree

-- a merge
abbrev pub merge_on : Row → Plan → Plan
merge_on x t = above (new_merge x (root t)) t

-- a keyed exchange
abbrev pub keyed_on : Row → Plan → Plan
keyed_on x t = above (new_exchange 12 x (root t)) t

-- a round robin
abbrev pub roundrobin_on : Row → Plan → Plan
roundrobin_on x t = above (new_exchange 13 x (root t)) t

-- a split child has the count and the order of its row
abbrev pub split_operator : Row → Operator → Operator
split_operator x o = record {
  id = o.id;
  kind = o.kind;
  count = x.count;
  keeps = o.keeps;
  limit = o.limit;
  order = x.order;
  mask = o.mask;
  tracked = o.tracked;
  need = o.need;
}

-- the split goes to the child's own label; what is below it stays
--   leaf of 2       to      leaf of 8
abbrev pub split_plan : Row → Plan → Plan
split_plan x (node o ts) = node (split_operator x o) ts

-- a child's count as it now stands
abbrev pub partitions : ChildState → ℕ
partitions c = (root c.plan).count

-- a merge where there is more than one partition
--   leaf of 2       to      coalesce of 1
--                             leaf of 2
abbrev pub add_merge_on_top : List Row → ChildState → Option ChildState
add_merge_on_top rows c = cond (ltb 1 (partitions c)) (pass rows (with_top 1 c.form) merge_on c) (some c)

-- a keyed exchange
--   leaf of 2       to      keyed exchange of 8
--                             leaf of 2
abbrev pub add_hash_on_top : List Row → ChildState → Option ChildState
add_hash_on_top rows c = pass rows (with_top 2 c.form) keyed_on c

-- a round robin where there are fewer partitions than the target
--   leaf of 2       to      round robin of 8
--                             leaf of 2
abbrev pub add_roundrobin_on_top : List Row → ℕ → ChildState → Option ChildState
add_roundrobin_on_top rows target c = cond (ltb (partitions c) target) (pass rows (with_top 3 c.form) roundrobin_on c) (some c)

-- ---- what is asked of the count before the split

-- enough partitions to keep those of the files
abbrev pub preserve_file_partition_threshold_met : Settings → Child → Bool
preserve_file_partition_threshold_met s c = ltb 0 s.files && leb s.files (count_of c)

-- `grouping` counts for keyed needs
abbrev pub requires_grouping_id : Child → Bool
requires_grouping_id c = is_keyed (need_of c) && is_set c.facts.grouping

-- a hash partitioning by some of the keys will do
abbrev pub allow_subset_satisfy_partitioning : Settings → Operator → Child → Bool
allow_subset_satisfy_partitioning s worked c =
    (leb s.subset (count_of c) || (preserve_file_partition_threshold_met s c && ltb (count_of c) s.target))
    && (not (is_partitioned_join worked) && not (requires_grouping_id c))

-- asked of a partial aggregate without or with subsets; false of any other operator
abbrev pub partial_aggregate_output_satisfies_final_partitioning : Operator → NodeFacts → Bool → Bool
partial_aggregate_output_satisfies_final_partitioning worked b subsets = is_partial_aggregate worked && is_set (cond subsets b.aggsubset b.aggexact)

-- a round robin below a partial aggregate would undo what the final one can use
abbrev pub preserve_partial_aggregate_partitioning : Settings → Operator → NodeFacts → Child → Bool
preserve_partial_aggregate_partitioning s worked b c =
    preserve_file_partition_threshold_met s c
    && partial_aggregate_output_satisfies_final_partitioning worked b (allow_subset_satisfy_partitioning s worked c)

-- a round robin is wanted, unless the split makes it needless
abbrev pub add_roundrobin : Settings → Operator → NodeFacts → RepartitionRequirementStatus → Bool
add_roundrobin s worked b t =
    is_set s.roundrobin
    && (t.roundrobin_beneficial
    && (t.roundrobin_beneficial_stats
    && (ltb (count_of t.child) s.target && not (preserve_partial_aggregate_partitioning s worked b t.child))))

-- ---- the step

-- split where the settings allow it, its rows gain and its source can be
abbrev pub split_at_source : Settings → List Row → RepartitionRequirementStatus → ChildState → Option ChildState
split_at_source s rows t c =
    cond (is_set s.split && (t.roundrobin_beneficial_stats && is_set c.facts.splits)) (pass rows split_form split_plan c) (some c)

-- the row's answer to the keyed need, with subsets where they are allowed
abbrev pub partitioning_satisfied : Settings → Operator → RepartitionRequirementStatus → ChildState → Bool
partitioning_satisfied s worked t c = is_set (cond (allow_subset_satisfy_partitioning s worked t.child) c.row.subset c.row.exact)

-- what satisfies already stays as it is, since only the count would grow
abbrev pub preserve_satisfying_file_partitioning : Settings → Operator → RepartitionRequirementStatus → ChildState → Bool
preserve_satisfying_file_partitioning s worked t c =
    preserve_file_partition_threshold_met s t.child
    && (not (requires_grouping_id t.child) && (partitioning_satisfied s worked t c && ltb (partitions c) s.target))

-- unsatisfied; or, where subsets are not allowed, more partitions are to be had
abbrev pub needs_hash_repartition : Settings → Operator → RepartitionRequirementStatus → ChildState → Bool
needs_hash_repartition s worked t c =
    not (partitioning_satisfied s worked t c)
    || (not (allow_subset_satisfy_partitioning s worked t.child)
    && (ltb (partitions c) s.target && not (preserve_satisfying_file_partitioning s worked t c)))

module _ (s : Settings) (worked : Operator) (b : NodeFacts) (rows : List Row) where
  -- by the need: single, keyed, unspecified
  abbrev pub satisfy_distribution : RepartitionRequirementStatus → ChildState → Option ChildState
  satisfy_distribution t c =
      cond (is_single c.need) (add_merge_on_top rows c)
      (cond (is_keyed c.need) (cond (t.hash_necessary && needs_hash_repartition s worked t c) (add_hash_on_top rows c) (some c))
      (cond (add_roundrobin s worked b t) (add_roundrobin_on_top rows s.target c) (some c)))

  -- none where a row is missing
  unfoldable pub ensure_child : RepartitionRequirementStatus → Option ChildState
  ensure_child t = and_then (and_then (started rows t.child) (split_at_source s rows t)) (satisfy_distribution t)

  -- the same of every child, in order
  abbrev pub ensure_children : List RepartitionRequirementStatus → Option (List ChildState)
  ensure_children ts = each_of ensure_child ts
