-- The operator beneath new sorts has, after the order handling, the count that it had, and is a new exchange where it was.
use Prim.Native.Nat.{ℕ}
use mathlib.Core.Path.{◌≡◌, refl, ap, ◌∙◌}
use mathlib.Core.Bool.{Bool, true, false, cond}
use mathlib.Core.Option.{Option}
use lib.Dec.{eqb, leb}
use borrow.Author.Tests.{eqb-true}
use Rattle.exchange.specs.Trees.{node, none, ◌∷ᶠ◌, root, Operator, Plan, Plans}
use Rattle.exchange.specs.declared.settings.Settings.{Settings}
use Rattle.exchange.specs.Facts.{NodeFacts}
use Rattle.exchange.specs.Operators.{is_sort_preserving_merge, has_limit, track, track_root, above, limited_sort, required_sort}
use Rattle.exchange.specs.States.{ChildState}
use Rattle.exchange.specs.Replace.{coalesced, replace_merge, replace_operator, replace_order_preserving_variants, replace_tracked}
use Rattle.exchange.specs.Order.{handle_order}
use Rattle.exchange.specs.Skeleton.{is_added_sort}
use Rattle.exchange.specs.Partitioning.{is_new_keyed, beneath_sorts}
use Rattle.exchange.proofs.Handling.{measure_either, measure_operator, measure_handled}

-- what counts of it
pub record Top : Type 0 where
  pub few : Bool
  pub keyed : Bool

abbrev pub top_of : Operator → Top
top_of o = record { few = leb o.count 1; keyed = is_new_keyed o }

abbrev pub beneath : Plan → Top
beneath t = top_of (beneath_sorts t)

-- under an operator that is no added sort, that operator itself
pub beneath_root : (t : Plan) → is_added_sort (root t) ≡ false → beneath_sorts t ≡ root t
unfolding beneath_sorts
beneath_root (node o ts) e = rw e

beneath_tracked : (m : ℕ) (t : Plan) → beneath (track_root m t) ≡ beneath t
unfolding beneath_sorts
beneath_tracked m (node o none) = go (is_added_sort o)
  where
    go : (b : Bool) → top_of (cond b (track m o) (track m o)) ≡ top_of (cond b o o)
    go true = refl
    go false = refl
beneath_tracked m (node o (t ∷ᶠ ts)) = go (is_added_sort o)
  where
    go : (b : Bool) → top_of (cond b (beneath_sorts t) (track m o)) ≡ top_of (cond b (beneath_sorts t) o)
    go true = refl
    go false = refl

beneath_sort : (entries : ℕ) (limit : Option ℕ) (t : Plan) → eqb entries 0 ≡ false → beneath (above (required_sort limit entries (root t)) t) ≡ beneath t
unfolding beneath_sorts
beneath_sort entries limit t e = refl

beneath_operator : (o : Operator) (ts : Plans) → is_added_sort o ≡ false → beneath (replace_operator o ts) ≡ top_of o
unfolding beneath_sorts
beneath_operator o ts e = measure_operator beneath o ts (top_of o) merged (rw e) (rw e)
  where
    merged : is_sort_preserving_merge o ≡ true → beneath (replace_merge o ts) ≡ top_of o
    merged m =
        measure_either beneath (has_limit o) (above (limited_sort o.limit o.order (coalesced o)) (node (coalesced o) ts)) (node (coalesced o) ts) (top_of o)
        (rw (eqb-true o.kind 1 m)) (rw (eqb-true o.kind 1 m))

beneath_replaced : (t : Plan) → is_added_sort (root t) ≡ false → beneath (replace_order_preserving_variants t) ≡ beneath t
unfolding replace_order_preserving_variants beneath_sorts
beneath_replaced (node o ts) e = beneath_operator o (replace_tracked ts) e ∙ rw e

pub beneath_handled : (s : Settings) (b : NodeFacts) (w : Operator) (n : ℕ) (c : ChildState) → is_added_sort (root c.plan) ≡ false
    → beneath (handle_order s b w n c) ≡ top_of (root c.plan)
beneath_handled s b w n c e =
    measure_handled beneath c (beneath_replaced c.plan e) beneath_sort beneath_tracked s b w n ∙ ap top_of (beneath_root c.plan e)
