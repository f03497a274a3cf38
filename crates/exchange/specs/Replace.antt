-- Order-preserving operators give way to plain ones: merges to coalesces, with a sort above where there was a limit; exchanges keep no order.
-- Renders `replace_order_preserving_variants` of 000; document 01, "losing order makes it 0. A limited merge's sort repeats the merge".
use Rattle.std.specs.Prelude.{cond, ◌&&◌, eqb}
use Rattle.std.proofs.Math.Option.{none as nothing}
use Rattle.exchange.specs.Trees.{node, none, ◌∷ᶠ◌, root, Operator, Plan, Plans}
use Rattle.exchange.specs.Operators.{is_sort_preserving_merge, is_repartition, has_limit, is_tracked, above, limited_sort}

-- a merge that no longer keeps the order, nor the limit
abbrev pub coalesced : Operator → Operator
coalesced o = record {
  id = o.id;
  kind = 2;
  count = o.count;
  keeps = o.keeps;
  limit = nothing;
  order = 0;
  mask = o.mask;
  tracked = o.tracked;
  need = o.need;
}

-- an exchange that no longer keeps the order
abbrev pub relaxed : Operator → Operator
relaxed o = record {
  id = o.id;
  kind = o.kind;
  count = o.count;
  keeps = 0;
  limit = o.limit;
  order = 0;
  mask = o.mask;
  tracked = o.tracked;
  need = o.need;
}

-- a merge: a coalesce, and the limit on a sort directly above
--   merge, limit 5             sort, limit 5
--     leaf             to        coalesce
--                                  leaf
abbrev pub replace_merge : Operator → Plans → Plan
replace_merge o ts =
    let c = coalesced o in
    cond (has_limit o) (above (limited_sort o.limit o.order c) (node c ts)) (node c ts)

-- what comes in an operator's place, above its children; of an exchange that keeps an order
--   repartition, order 5       to      repartition
--     leaf, order 5                      leaf, order 5
abbrev pub replace_operator : Operator → Plans → Plan
replace_operator o ts =
    cond (is_sort_preserving_merge o) (replace_merge o ts) (cond (is_repartition o && eqb o.keeps 1) (node (relaxed o) ts) (node o ts))

unfoldable mutual
  -- the children first, then the operator itself
  pub replace_order_preserving_variants : Plan → Plan
  replace_order_preserving_variants (node o ts) = replace_operator o (replace_tracked ts)

  -- a child that is not tracked stays as it is, with all below it
  pub replace_tracked : Plans → Plans
  replace_tracked none = none
  replace_tracked (t ∷ᶠ ts) = cond (is_tracked (root t)) (replace_order_preserving_variants t) t ∷ᶠ replace_tracked ts
