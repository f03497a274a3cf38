-- What the replacement, an added sort and a cleared mark leave, the order handling of a child leaves (`measure_handled`); what each way
-- of the replacement of an operator gives, the replacement gives (`measure_operator`).
use Prim.Native.Nat.{ℕ}
use mathlib.Core.Path.{◌≡◌, refl, ◌∙◌}
use mathlib.Core.Bool.{Bool, true, false, cond, ◌&&◌}
use mathlib.Core.Option.{Option}
use lib.Dec.{eqb}
use Rattle.exchange.specs.Trees.{node, root, Operator, Plan, Plans}
use Rattle.exchange.specs.declared.settings.Settings.{Settings}
use Rattle.exchange.specs.Settings.{is_set}
use Rattle.exchange.specs.Facts.{NodeFacts}
use Rattle.exchange.specs.Operators.{is_sort_preserving_merge, is_repartition, track_root, above, required_sort}
use Rattle.exchange.specs.States.{ChildState}
use Rattle.exchange.specs.Replace.{relaxed, replace_merge, replace_operator, replace_order_preserving_variants}
use Rattle.exchange.specs.Order.{kept_entries, add_sort_above, add_sort_above_with_check, output_fetch, is_given_up, order_required, is_replaced, order_not_required, handle_order}

module _ {X : Type 0} (M : Plan → X) where
  -- one of two trees
  pub measure_either : (b : Bool) (t u : Plan) (x : X) → M t ≡ x → M u ≡ x → M (cond b t u) ≡ x
  measure_either true t u x p q = p
  measure_either false t u x p q = q

  -- an operator that is replaced: a merge, an exchange that kept an order, any other
  pub measure_operator : (o : Operator) (ts : Plans) (x : X) → (is_sort_preserving_merge o ≡ true → M (replace_merge o ts) ≡ x)
      → M (node (relaxed o) ts) ≡ x → M (node o ts) ≡ x → M (replace_operator o ts) ≡ x
  measure_operator o ts x merged loosened same = go (is_sort_preserving_merge o) refl
    where
      go : (b : Bool) → is_sort_preserving_merge o ≡ b
          → M (cond b (replace_merge o ts) (cond (is_repartition o && eqb o.keeps 1) (node (relaxed o) ts) (node o ts))) ≡ x
      go true e = merged e
      go false e = measure_either (is_repartition o && eqb o.keeps 1) (node (relaxed o) ts) (node o ts) x loosened same

  module _ (c : ChildState) (replaced : M (replace_order_preserving_variants c.plan) ≡ M c.plan)
      (sorted : (entries : ℕ) (limit : Option ℕ) (t : Plan) → eqb entries 0 ≡ false → M (above (required_sort limit entries (root t)) t) ≡ M t)
      (tracked : (m : ℕ) (t : Plan) → M (track_root m t) ≡ M t) where
    -- a sort by the kept entries, if there is one
    sort_above : (entries : ℕ) (limit : Option ℕ) (t : Plan) → M (add_sort_above entries limit t) ≡ M t
    sort_above entries limit t = go (eqb entries 0) refl
      where
        go : (b : Bool) → eqb entries 0 ≡ b → M (cond b t (above (required_sort limit entries (root t)) t)) ≡ M t
        go true e = refl
        go false e = sorted entries limit t e

    restored : (limit : Option ℕ) → M (add_sort_above_with_check c limit (replace_order_preserving_variants c.plan)) ≡ M c.plan
    restored limit =
        measure_either (is_set c.row.aftermet) _ _ (M c.plan) replaced
        (sort_above (kept_entries c.facts.entries c.row.const) limit (replace_order_preserving_variants c.plan) ∙ replaced)

    pub measure_handled : (s : Settings) (b : NodeFacts) (w : Operator) (n : ℕ) → M (handle_order s b w n c) ≡ M c.plan
    unfolding handle_order
    measure_handled s b w n =
        measure_either (eqb c.facts.entries 0) (order_not_required w n c) (order_required s b w n c) (M c.plan)
        (measure_either (is_replaced w n c) (replace_order_preserving_variants c.plan) c.plan (M c.plan) replaced refl)
        (tracked 0 _
        ∙ measure_either (is_given_up s b n c) _ c.plan (M c.plan)
        (measure_either (is_set c.row.met) _ (replace_order_preserving_variants c.plan) (M c.plan) (restored (output_fetch w)) replaced)
        refl)
