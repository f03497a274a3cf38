-- Whatever a step makes of a tree, its numbers stay within m and its limits within l.
-- Assumes nothing.
use mathlib.Core.Bool.{Bool, true, false, cond, ◌&&◌}
use mathlib.Core.Option.{Option, none as absent}
use Prim.Native.Nat.{ℕ, ◌≤◌}
use native.Mathlib.Omega.{arith}
use lib.Dec.{eqb, ltb}
use Rattle.exchange.specs.Trees.{node, none, ◌∷ᶠ◌, root, Operator, Plan, Plans}
use Rattle.exchange.specs.declared.settings.Settings.{Settings}
use Rattle.exchange.specs.Settings.{is_set}
use Rattle.exchange.specs.Facts.{NodeFacts, Row}
use Rattle.exchange.specs.Operators.{is_sort_preserving_merge, is_repartition, is_output_requirement, is_tracked, has_order, has_limit, mark, track, track_root, above, new_merge, new_exchange, limited_sort, required_sort}
use Rattle.exchange.specs.Children.{changes_distribution, update_child, update_each, update_children, is_removed, remove_dist_changing_operators, remove_above}
use Rattle.exchange.specs.States.{ChildState}
use Rattle.exchange.specs.Step.{merge_on, split_plan}
use Rattle.exchange.specs.Replace.{coalesced, relaxed, replace_merge, replace_operator, replace_order_preserving_variants, replace_tracked}
use Rattle.exchange.specs.Order.{kept_entries, add_sort_above, output_fetch, is_given_up, order_required, is_replaced, order_not_required, handle_order}
use Rattle.exchange.specs.Ensure.{interleaved}
use Rattle.exchange.proofs.Handled.{kept_small}
use Rattle.plananswer.specs.Sizes.{Everywhere, Everywheres, LimitWithin, OperatorWithin, RowWithin, EntriesWithin}

cond_within : (b : Bool) (x y n : ℕ) → x ≤ n → y ≤ n → cond b x y ≤ n
cond_within true x y n p q = p
cond_within false x y n p q = q

limit_within : (l : ℕ) (b : Bool) (x y : Option ℕ) → LimitWithin l x → LimitWithin l y → LimitWithin l (cond b x y)
limit_within l true x y p q = p
limit_within l false x y p q = q

module _ (m l : ℕ) (kinds : 255 ≤ m) where
  pub mark_within : (b : Bool) → mark b ≤ m
  mark_within true = omega arith
  mark_within false = omega arith

  abbrev pub Fine : Plan → Type 0
  Fine t = Everywhere (OperatorWithin m l) t

  abbrev pub Fines : Plans → Type 0
  Fines ts = Everywheres (OperatorWithin m l) ts

  pub root_fine : (t : Plan) → Fine t → OperatorWithin m l (root t)
  root_fine (node o ts) h = h.0

  pub fine_cond : (b : Bool) (t u : Plan) → Fine t → Fine u → Fine (cond b t u)
  fine_cond true t u p q = p
  fine_cond false t u p q = q

  fine_above : (o : Operator) (t : Plan) → OperatorWithin m l o → Fine t → Fine (above o t)
  fine_above o t p q = (p, (q, tt))

  -- ---- marks, and the worked node

  track_within : (n : ℕ) (o : Operator) → n ≤ m → OperatorWithin m l o → OperatorWithin m l (track n o)
  track_within n o p h = record {
    id = h.id;
    kind = h.kind;
    count = h.count;
    keeps = h.keeps;
    limit = h.limit;
    order = h.order;
    mask = h.mask;
    tracked = p;
  }

  fine_track : (n : ℕ) (t : Plan) → n ≤ m → Fine t → Fine (track_root n t)
  fine_track n (node o ts) p h = (track_within n o p h.0, h.1)

  fine_updated : (t : Plan) → Fine t → Fine (update_child t)
  fine_updated (node o ts) h = (track_within (mark (changes_distribution o ts)) o (mark_within (changes_distribution o ts)) h.0, h.1)

  fines_updated : (ts : Plans) → Fines ts → Fines (update_each ts)
  unfolding update_each
  fines_updated none h = tt
  fines_updated (t ∷ᶠ ts) h = (fine_updated t h.0, fines_updated ts h.1)

  pub fine_updates : (t : Plan) → Fine t → Fine (update_children t)
  fine_updates (node o ts) h = (track_within 0 o (omega arith) h.0, fines_updated ts h.1)

  mutual
    unfolding remove_dist_changing_operators

    pub fine_removed : (t : Plan) → Fine t → Fine (remove_dist_changing_operators t)
    fine_removed (node o ts) h = fine_cond (is_removed o) (remove_above (node o ts) ts) (node o ts) (fine_beneath (node o ts) ts h h.1) h

    fine_beneath : (t : Plan) (ts : Plans) → Fine t → Fines ts → Fine (remove_above t ts)
    fine_beneath t none h k = h
    fine_beneath t (u ∷ᶠ us) h k = fine_removed u k.0

  -- ---- splits, and new operators of a row

  module _ (x : Row) (r : RowWithin m x) where
    pub fine_split : (t : Plan) → Fine t → Fine (split_plan x t)
    fine_split (node o ts) h = (
      record {
        id = h.0.id;
        kind = h.0.kind;
        count = r.count;
        keeps = h.0.keeps;
        limit = h.0.limit;
        order = r.order;
        mask = h.0.mask;
        tracked = h.0.tracked;
      },
      h.1,
    )

    pub fine_merge : (t : Plan) → Fine t → Fine (merge_on x t)
    fine_merge t h = fine_above (new_merge x (root t)) t (record {
      id = omega arith;
      kind = cond_within (has_order (root t)) 1 2 m (omega arith) (omega arith);
      count = r.count;
      keeps = omega arith;
      limit = tt;
      order = r.order;
      mask = omega arith;
      tracked = omega arith;
    }) h

    -- a keyed exchange or a round robin
    pub fine_exchange : (kind : ℕ) (t : Plan) → kind ≤ m → Fine t → Fine (above (new_exchange kind x (root t)) t)
    fine_exchange kind t k h = fine_above (new_exchange kind x (root t)) t (record {
      id = omega arith;
      kind = k;
      count = r.count;
      keeps = mark_within (has_order (root t) && ltb 1 (root t).count);
      limit = tt;
      order = r.order;
      mask = omega arith;
      tracked = omega arith;
    }) h

  -- ---- the replacement

  coalesced_within : (o : Operator) → OperatorWithin m l o → OperatorWithin m l (coalesced o)
  coalesced_within o h = record {
    id = h.id;
    kind = omega arith;
    count = h.count;
    keeps = h.keeps;
    limit = tt;
    order = omega arith;
    mask = h.mask;
    tracked = h.tracked;
  }

  relaxed_within : (o : Operator) → OperatorWithin m l o → OperatorWithin m l (relaxed o)
  relaxed_within o h = record {
    id = h.id;
    kind = h.kind;
    count = h.count;
    keeps = omega arith;
    limit = h.limit;
    order = omega arith;
    mask = h.mask;
    tracked = h.tracked;
  }

  limited_within : (o : Operator) → OperatorWithin m l o → OperatorWithin m l (limited_sort o.limit o.order (coalesced o))
  limited_within o h = record {
    id = omega arith;
    kind = omega arith;
    count = h.count;
    keeps = omega arith;
    limit = h.limit;
    order = h.order;
    mask = omega arith;
    tracked = omega arith;
  }

  fine_operator : (o : Operator) (ts : Plans) → OperatorWithin m l o → Fines ts → Fine (replace_operator o ts)
  fine_operator o ts h k =
      let c = coalesced o in
      let p : Fine (node c ts) = (coalesced_within o h, k) in
      fine_cond (is_sort_preserving_merge o) (replace_merge o ts) _
      (fine_cond (has_limit o) (above (limited_sort o.limit o.order c) (node c ts)) (node c ts)
      (fine_above (limited_sort o.limit o.order c) (node c ts) (limited_within o h) p)
      p)
      (fine_cond (is_repartition o && eqb o.keeps 1) (node (relaxed o) ts) (node o ts) (relaxed_within o h, k) (h, k))

  mutual
    unfolding replace_order_preserving_variants

    pub fine_replaced : (t : Plan) → Fine t → Fine (replace_order_preserving_variants t)
    fine_replaced (node o ts) h = fine_operator o (replace_tracked ts) h.0 (fines_replaced ts h.1)

    fines_replaced : (ts : Plans) → Fines ts → Fines (replace_tracked ts)
    fines_replaced none h = tt
    fines_replaced (t ∷ᶠ ts) h =
        (fine_cond (is_tracked (root t)) (replace_order_preserving_variants t) t (fine_replaced t h.0) h.0, fines_replaced ts h.1)

  -- ---- order handling

  fine_sorted : (entries : ℕ) (limit : Option ℕ) (t : Plan) → entries ≤ m → LimitWithin l limit → Fine t → Fine (add_sort_above entries limit t)
  fine_sorted entries limit t e p h =
      fine_cond (eqb entries 0) t (above (required_sort limit entries (root t)) t) h
      (fine_above (required_sort limit entries (root t)) t (record {
        id = omega arith;
        kind = omega arith;
        count = cond_within (ltb 1 (root t).count) (root t).count 1 m (root_fine t h).count (omega arith);
        keeps = omega arith;
        limit = p;
        order = omega arith;
        mask = e;
        tracked = omega arith;
      }) h)

  pub fine_handled : (s : Settings) (b : NodeFacts) (w : Operator) (n : ℕ) (c : ChildState)
      → OperatorWithin m l w → EntriesWithin c.facts → Fine c.plan → Fine (handle_order s b w n c)
  unfolding handle_order
  fine_handled s b w n c h e k =
      let r : Plan = replace_order_preserving_variants c.plan in
      let entries : ℕ = kept_entries c.facts.entries c.row.const in
      let checked : Plan = cond (is_set c.row.aftermet) r (add_sort_above entries (output_fetch w) r) in
      let restored : Plan = cond (is_set c.row.met) checked r in
      let replaced : Fine r = fine_replaced c.plan k in
      let limit : LimitWithin l (output_fetch w) = limit_within l (is_output_requirement w) w.limit absent h.limit tt in
      fine_cond (eqb c.facts.entries 0) (order_not_required w n c) (order_required s b w n c)
      (fine_cond (is_replaced w n c) r c.plan replaced k)
      (fine_track 0 (cond (is_given_up s b n c) restored c.plan) (omega arith)
      (fine_cond (is_given_up s b n c) restored c.plan
      (fine_cond (is_set c.row.met) checked r
      (fine_cond (is_set c.row.aftermet) r (add_sort_above entries (output_fetch w) r) replaced
      (fine_sorted entries (output_fetch w) r (omega (arith, kept_small c.facts.entries c.row.const e)) limit replaced))
      replaced)
      k))

  -- ---- the union

  pub interleaved_within : (b : Bool) (o : Operator) → OperatorWithin m l o → OperatorWithin m l (cond b (interleaved o) o)
  interleaved_within false o h = h
  interleaved_within true o h = record {
    id = h.id;
    kind = omega arith;
    count = h.count;
    keeps = h.keeps;
    limit = h.limit;
    order = omega arith;
    mask = h.mask;
    tracked = h.tracked;
  }
