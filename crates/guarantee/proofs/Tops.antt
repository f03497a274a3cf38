-- What is new on top of a child: the order handling leaves it, and a keyed exchange that is topmost is the operator beneath new sorts.
use Prim.Native.Nat.{ℕ}
use mathlib.Core.Path.{◌≡◌, refl, ap, ◌∙◌}
use mathlib.Core.Bool.{Bool, true, false, cond, ◌&&◌}
use mathlib.Core.Option.{Option}
use mathlib.Core.List.{List, [], ◌∷◌, ◌++◌}
use native.Mathlib.Omega.{arith}
use lib.Dec.{eqb}
use borrow.Author.Tests.{eqb-true}
use Rattle.exchange.specs.Trees.{node, none, ◌∷ᶠ◌, root, Operator, Plan, Plans}
use Rattle.exchange.specs.declared.settings.Settings.{Settings}
use Rattle.exchange.specs.Facts.{NodeFacts}
use Rattle.exchange.specs.Operators.{is_sort_preserving_merge, has_limit, is_tracked, track_root, above, limited_sort, required_sort}
use Rattle.exchange.specs.States.{ChildState}
use Rattle.exchange.specs.Replace.{coalesced, replace_merge, replace_operator, replace_order_preserving_variants, replace_tracked}
use Rattle.exchange.specs.Order.{handle_order}
use Rattle.exchange.specs.Partitioning.{is_new_keyed, beneath_sorts, beneath_first}
use Rattle.exchange.proofs.Handling.{measure_either, measure_operator, measure_handled}
use Rattle.guarantee.specs.Partitioning.{top_code, new_on_top, new_on_first, topmost}

-- ---- the order handling

tops_tracked : (m : ℕ) (t : Plan) → new_on_top (track_root m t) ≡ new_on_top t
unfolding new_on_top
tops_tracked m (node o ts) = refl

tops_sort : (entries : ℕ) (limit : Option ℕ) (t : Plan) → eqb entries 0 ≡ false → new_on_top (above (required_sort limit entries (root t)) t) ≡ new_on_top t
unfolding new_on_top
tops_sort entries limit t e = refl

tops_operator : (o : Operator) (ts : Plans) → new_on_top (replace_operator o ts) ≡ cond (eqb o.id 0) (top_code o.kind ++ new_on_first ts) []
unfolding new_on_top
tops_operator o ts = measure_operator new_on_top o ts _ merged refl refl
  where
    merged : is_sort_preserving_merge o ≡ true → new_on_top (replace_merge o ts) ≡ cond (eqb o.id 0) (top_code o.kind ++ new_on_first ts) []
    merged m =
        measure_either new_on_top (has_limit o) (above (limited_sort o.limit o.order (coalesced o)) (node (coalesced o) ts)) (node (coalesced o) ts) _
        (rw (eqb-true o.kind 1 m)) (rw (eqb-true o.kind 1 m))

mutual
  unfolding new_on_top replace_order_preserving_variants

  tops_replaced : (t : Plan) → new_on_top (replace_order_preserving_variants t) ≡ new_on_top t
  tops_replaced (node o ts) = tops_operator o (replace_tracked ts) ∙ ap (λ (ks : List ℕ). cond (eqb o.id 0) (top_code o.kind ++ ks) []) (tops_first ts)

  tops_first : (ts : Plans) → new_on_first (replace_tracked ts) ≡ new_on_first ts
  tops_first none = refl
  tops_first (t ∷ᶠ ts) = measure_either new_on_top (is_tracked (root t)) (replace_order_preserving_variants t) t (new_on_top t) (tops_replaced t) refl

pub tops_handled : (s : Settings) (b : NodeFacts) (w : Operator) (n : ℕ) (d : ChildState) → new_on_top (handle_order s b w n d) ≡ new_on_top d.plan
tops_handled s b w n d = measure_handled new_on_top d (tops_replaced d.plan) tops_sort tops_tracked s b w n

-- ---- topmost and beneath new sorts

mutual
  unfolding new_on_top beneath_sorts

  pub keyed_topmost : (t : Plan) → topmost (new_on_top t) ≡ 2 → is_new_keyed (beneath_sorts t) ≡ true
  keyed_topmost (node o ts) = go (eqb o.id 0) refl (eqb o.kind 11) refl (eqb o.kind 12) refl (eqb o.kind 13) (λ e. keyed_first o ts e)
    where
      go : (i : Bool) → eqb o.id 0 ≡ i → (a : Bool) → eqb o.kind 11 ≡ a → (b : Bool) → eqb o.kind 12 ≡ b → (c : Bool)
          → (topmost (new_on_first ts) ≡ 2 → is_new_keyed (beneath_first o ts) ≡ true)
          → topmost (cond i (cond a [] (cond b 2 (cond c 3 1) ∷ []) ++ new_on_first ts) []) ≡ 2
          → is_new_keyed (cond (a && i) (beneath_first o ts) o) ≡ true
      go false e a f b g c h k = absurd (omega arith)
      go true e true f b g c h k = h k
      go true e false f true g c h k = rw (g, e)
      go true e false f false g true h k = absurd (omega arith)
      go true e false f false g false h k = absurd (omega arith)

  keyed_first : (o : Operator) (ts : Plans) → topmost (new_on_first ts) ≡ 2 → is_new_keyed (beneath_first o ts) ≡ true
  keyed_first o none e = absurd (omega arith)
  keyed_first o (t ∷ᶠ ts) e = keyed_topmost t e
