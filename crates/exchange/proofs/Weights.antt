-- The lines after the replacement: an operator with a limit weighs two lines, any other one.
use Prim.Native.Nat.{ℕ, suc, ◌+◌, ◌*◌, ◌≤◌}
use mathlib.Core.Path.{◌≡◌, refl}
use mathlib.Core.Bool.{Bool, true, false, cond, ◌&&◌}
use mathlib.Core.Option.{Option}
use lib.Dec.{eqb}
use native.Mathlib.Omega.{arith}
use Rattle.exchange.specs.Trees.{node, none, ◌∷ᶠ◌, root, Operator, Plan, Plans}
use Rattle.exchange.specs.declared.settings.Settings.{Settings}
use Rattle.exchange.specs.Settings.{is_set}
use Rattle.exchange.specs.Facts.{NodeFacts, Row}
use Rattle.exchange.specs.Operators.{is_sort_preserving_merge, is_repartition, has_limit, is_tracked, mark, track_root, above, limited_sort, required_sort}
use Rattle.exchange.specs.States.{ChildState}
use Rattle.exchange.specs.Step.{split_plan}
use Rattle.exchange.specs.Replace.{coalesced, relaxed, replace_operator, replace_order_preserving_variants, replace_tracked}
use Rattle.exchange.specs.Order.{kept_entries, add_sort_above, output_fetch, is_given_up, order_required, is_replaced, order_not_required, handle_order}
use Rattle.exchange.specs.Sizes.{lines, liness}

unfoldable mutual
  pub weight : Plan → ℕ
  weight (node o ts) = suc (mark (has_limit o)) + weights ts

  pub weights : Plans → ℕ
  weights none = 0
  weights (t ∷ᶠ ts) = weight t + weights ts

pub mark_one : (b : Bool) → mark b ≤ 1
mark_one true = omega arith
mark_one false = omega arith

mutual
  unfolding weight lines

  pub lines_weight : (t : Plan) → lines t ≤ weight t
  lines_weight (node o ts) = let h : liness ts ≤ weights ts = liness_weights ts in omega arith

  pub liness_weights : (ts : Plans) → liness ts ≤ weights ts
  liness_weights none = omega arith
  liness_weights (t ∷ᶠ ts) =
      let h : lines t ≤ weight t = lines_weight t in
      let k : liness ts ≤ weights ts = liness_weights ts in
      omega arith

mutual
  unfolding weight lines

  pub weight_twice : (t : Plan) → weight t ≤ 2 * lines t
  weight_twice (node o ts) =
      let h : weights ts ≤ 2 * liness ts = weights_twice ts in
      let m : mark (has_limit o) ≤ 1 = mark_one (has_limit o) in
      omega arith

  pub weights_twice : (ts : Plans) → weights ts ≤ 2 * liness ts
  weights_twice none = omega arith
  weights_twice (t ∷ᶠ ts) =
      let h : weight t ≤ 2 * lines t = weight_twice t in
      let k : weights ts ≤ 2 * liness ts = weights_twice ts in
      omega arith

pub weight_split : (x : Row) (t : Plan) → weight (split_plan x t) ≡ weight t
unfolding weight
weight_split x (node o ts) = refl

-- ---- the replacement

lines_replaced : (o : Operator) (ts us : Plans) → liness us ≤ weights ts → lines (replace_operator o us) ≤ suc (mark (has_limit o)) + weights ts
unfolding lines
lines_replaced o ts us h = go (is_sort_preserving_merge o) (is_repartition o && eqb o.keeps 1) (has_limit o)
  where
    go : (b r l : Bool)
        → lines (cond b (cond l (above (limited_sort o.limit o.order (coalesced o)) (node (coalesced o) us)) (node (coalesced o) us))
        (cond r (node (relaxed o) us) (node o us)))
        ≤ suc (mark l) + weights ts
    go true r true = omega arith
    go true r false = omega arith
    go false true l = omega arith
    go false false l = omega arith

lines_cond : (b : Bool) (t u : Plan) (k : ℕ) → lines t ≤ k → lines u ≤ k → lines (cond b t u) ≤ k
lines_cond true t u k p q = p
lines_cond false t u k p q = q

mutual
  unfolding weight lines replace_order_preserving_variants

  pub lines_replace : (t : Plan) → lines (replace_order_preserving_variants t) ≤ weight t
  lines_replace (node o ts) = lines_replaced o ts (replace_tracked ts) (liness_replace ts)

  pub liness_replace : (ts : Plans) → liness (replace_tracked ts) ≤ weights ts
  liness_replace none = omega arith
  liness_replace (t ∷ᶠ ts) =
      let h : lines (cond (is_tracked (root t)) (replace_order_preserving_variants t) t) ≤ weight t =
      lines_cond (is_tracked (root t)) (replace_order_preserving_variants t) t (weight t) (lines_replace t) (lines_weight t) in
      let k : liness (replace_tracked ts) ≤ weights ts = liness_replace ts in
      omega arith

-- ---- order handling: one sort more

lines_track : (m : ℕ) (t : Plan) (k : ℕ) → lines t ≤ k → lines (track_root m t) ≤ k
unfolding lines
lines_track m (node o ts) k h = h

lines_above : (o : Operator) (t : Plan) (k : ℕ) → lines t ≤ k → lines (above o t) ≤ k + 1
unfolding lines
lines_above o t k h = omega arith

lines_sorted : (entries : ℕ) (limit : Option ℕ) (t : Plan) (k : ℕ) → lines t ≤ k → lines (add_sort_above entries limit t) ≤ k + 1
lines_sorted entries limit t k h =
    lines_cond (eqb entries 0) t (above (required_sort limit entries (root t)) t) (k + 1) (omega arith)
    (lines_above (required_sort limit entries (root t)) t k h)

pub lines_handled : (s : Settings) (b : NodeFacts) (w : Operator) (n : ℕ) (c : ChildState) → lines (handle_order s b w n c) ≤ weight c.plan + 1
unfolding handle_order
lines_handled s b w n c =
    let k : ℕ = weight c.plan + 1 in
    let same : lines c.plan ≤ weight c.plan = lines_weight c.plan in
    let replaced : lines (replace_order_preserving_variants c.plan) ≤ weight c.plan = lines_replace c.plan in
    lines_cond (eqb c.facts.entries 0) (order_not_required w n c) (order_required s b w n c) k
    (lines_cond (is_replaced w n c) (replace_order_preserving_variants c.plan) c.plan k (omega arith) (omega arith))
    (lines_track 0 _ k
    (lines_cond (is_given_up s b n c) _ c.plan k
    (lines_cond (is_set c.row.met) _ (replace_order_preserving_variants c.plan) k
    (lines_cond (is_set c.row.aftermet) (replace_order_preserving_variants c.plan) _ k (omega arith)
    (lines_sorted (kept_entries c.facts.entries c.row.const) (output_fetch w) (replace_order_preserving_variants c.plan) (weight c.plan) replaced))
    (omega arith))
    (omega arith)))
