-- When a child of the worked node has the partitioning that it needs, and demand 3's condition on splits.
-- Renders document 01, "Measured beneath new sorts, a single need is had by at most one partition; a keyed one by that, by a new exchange on its
-- keys, or by the row of its last form: its `exact`, or `subset` where the step allows subsets".
use Rattle.std.specs.Prelude.{ℕ, ◌≡◌, Bool, true, cond, not, ◌&&◌, ◌||◌, List, [], ◌∷◌, eqb, leb, length}
use Rattle.std.proofs.Math.Option.{some}
use Rattle.exchange.specs.Trees.{node, none, ◌∷ᶠ◌, root, Operator, Plan, Plans}
use Rattle.exchange.specs.declared.settings.Settings.{Settings}
use Rattle.exchange.specs.Settings.{is_set}
use Rattle.exchange.specs.Facts.{Row, Facts, row_of}
use Rattle.exchange.specs.Operators.{is_single, is_keyed}
use Rattle.exchange.specs.States.{Child, ChildState, children_from, need_of}
use Rattle.exchange.specs.Children.{update_children, remove_dist_changing_operators}
use Rattle.exchange.specs.Status.{rows_gain}
use Rattle.exchange.specs.Step.{allow_subset_satisfy_partitioning}
use Rattle.exchange.specs.Relationships.{enforced}
use Rattle.exchange.specs.Order.{handle_order}
use Rattle.exchange.specs.Ensure.{Answer, child_states, handled}
use Rattle.exchange.specs.Skeleton.{below, is_added_sort}

-- a keyed exchange that was put in
abbrev pub is_new_keyed : Operator → Bool
is_new_keyed o = eqb o.kind 12 && eqb o.id 0

-- the operator beneath the sorts that were put in
unfoldable mutual
  pub beneath_sorts : Plan → Operator
  beneath_sorts (node o ts) = cond (is_added_sort o) (beneath_first o ts) o

  pub beneath_first : Operator → Plans → Operator
  beneath_first o none = o
  beneath_first o (t ∷ᶠ ts) = beneath_sorts t

-- a child has what it needs: by the row of its last form, and the operator that the answer has beneath new sorts
abbrev pub is_had : Settings → Operator → Child → Row → Operator → Bool
is_had s worked c x o =
    cond (is_single (need_of c)) (leb o.count 1)
    (cond (is_keyed (need_of c))
    (leb o.count 1 || (is_new_keyed o || is_set (cond (allow_subset_satisfy_partitioning s worked c) x.subset x.exact)))
    true)

-- a child is split at its source
abbrev pub is_split : Settings → Child → Bool
is_split s c = is_set s.split && (rows_gain s c.facts && is_set c.facts.splits)

-- "no child whose mark `gains` is 0 is split at its source"
unfoldable pub splits_gain : Settings → List Child → Bool
splits_gain s [] = true
splits_gain s (c ∷ cs) = (not (is_split s c) || is_set c.facts.gains) && splits_gain s cs

-- no child stands on the sheet as a sort that was put in: the ids of a sheet are places, from 1
unfoldable pub none_added : List Child → Bool
none_added [] = true
none_added (c ∷ cs) = not (is_added_sort (root c.plan)) && none_added cs

-- ---- of an answer

-- the worked node of a sheet's tree with all below it, marks set anew
abbrev pub worked_of : Plan → Plan
worked_of t = remove_dist_changing_operators (update_children t)

abbrev pub children_of : Facts → Plan → List Child
children_of f t = children_from 1 (below (worked_of t)) f.children

module _ (s : Settings) (f : Facts) (worked : Operator) (n : ℕ) where
  -- a child and the state that it came to: the row is that of its last form, and the tree that the worked node gets has what is needed
  pub record HasPartitioning (c : Child) (d : ChildState) : Type 0 where
    pub row : row_of f.rows c.number d.form ≡ some d.row
    pub had : is_had s worked c d.row (beneath_sorts (handle_order s f.node worked n d)) ≡ true

  -- each child, in order
  abbrev pub EachHas : List Child → List ChildState → Type 0
  EachHas [] [] = Unit {0}
  EachHas [] (d ∷ ds) = ⊥
  EachHas (c ∷ cs) [] = ⊥
  EachHas (c ∷ cs) (d ∷ ds) = HasPartitioning c d × EachHas cs ds

-- the answer's trees are those of the states that the children came to, and each child has the partitioning that it needs
pub record Partitioned (s : Settings) (f : Facts) (t : Plan) (a : Answer) : Type 0 where
  pub states : List ChildState
  pub reached : child_states s f (worked_of t) ≡ enforced states
  pub made : below a.plan ≡ handled s f (root (worked_of t)) (length states) states
  pub each : EachHas s f (root (worked_of t)) (length states) (children_of f t) states
