-- The first two steps: the marks of the root's children, and the worked node.
-- Renders `update_children` and `remove_dist_changing_operators` of 000; document 01, "Steps as in 000".
use Rattle.std.specs.Prelude.{Bool, true, false, cond, not, ◌&&◌, ◌||◌, eqb, leb}
use Rattle.exchange.specs.Trees.{node, none, ◌∷ᶠ◌, root, Operator, Plan, Plans}
use Rattle.exchange.specs.Operators.{is_sort_preserving_merge, is_coalesce_partitions, is_repartition, is_unknown_repartition, has_limit, is_tracked, mark, track}

-- ---- update_children

-- no child
abbrev pub is_leaf : Plans → Bool
is_leaf none = true
is_leaf (t ∷ᶠ ts) = false

-- the first of the trees is tracked
abbrev pub first_tracked : Plans → Bool
first_tracked none = false
first_tracked (t ∷ᶠ ts) = is_tracked (root t)

-- one of the trees is tracked, and nothing is required of it
unfoldable pub any_unspecified : Plans → Bool
any_unspecified none = false
any_unspecified (t ∷ᶠ ts) = (is_tracked (root t) && eqb (root t).need 0) || any_unspecified ts

-- an operator changes the distribution, is a leaf, or has such below it by the marks of its own children
abbrev pub changes_distribution : Operator → Plans → Bool
changes_distribution o ts =
    cond (is_repartition o) (not (is_unknown_repartition o))
    ((is_sort_preserving_merge o || is_coalesce_partitions o) || (is_leaf ts || (first_tracked ts || any_unspecified ts)))

-- the mark of one child
abbrev pub update_child : Plan → Plan
update_child (node o ts) = node (track (mark (changes_distribution o ts)) o) ts

-- every child marked anew
unfoldable pub update_each : Plans → Plans
update_each none = none
update_each (t ∷ᶠ ts) = update_child t ∷ᶠ update_each ts

-- the root's mark is cleared, its children's are set; nothing below them changes
--   other, tracked            other
--     merge             to      merge, tracked
--       leaf                      leaf
abbrev pub update_children : Plan → Plan
update_children (node o ts) = node (track 0 o) (update_each ts)

-- ---- remove_dist_changing_operators

-- kinds 1 to 4 without a limit
abbrev pub is_removed : Operator → Bool
is_removed o = not (has_limit o) && (leb 1 o.kind && leb o.kind 4)

-- the worked node with all below it: what is left once these are taken off the top
--   repartition               other
--     other            to       leaf
--       leaf
unfoldable mutual
  pub remove_dist_changing_operators : Plan → Plan
  remove_dist_changing_operators (node o ts) = cond (is_removed o) (remove_above (node o ts) ts) (node o ts)

  -- the same of a tree by its children, of which those operators have one
  pub remove_above : Plan → Plans → Plan
  remove_above t none = t
  remove_above t (u ∷ᶠ us) = remove_dist_changing_operators u
