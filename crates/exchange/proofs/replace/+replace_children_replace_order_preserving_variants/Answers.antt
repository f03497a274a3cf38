-- The cycle of calls of `replace_order_preserving_variants` and `replace_children`. What each gives is put together by `node_wrote` and `many_wrote`.
use mathlib.Core.Path.{sym, ◌∙◌}
use native.Mathlib.Omega.{arith}
use Rattle.exchange.specs.Runs.{Maps}
use Rattle.exchange.specs.Replace.{replace_order_preserving_variants, replace_tracked}
use Rattle.exchange.specs.ReplaceRows.{heads}
use Rattle.exchange.proofs.Headed
use Rattle.exchange.proofs.Replaced.{rows_replace}
use Rattle.exchange.proofs.FirstAndOthers.{first_row, first_ready, first_falls, others_ready, many_wrote}
use Rattle.exchange.proofs.Replacing.{read_in_place, first_replaced, none_wrote}
use Rattle.exchange.proofs.replace.+replace_children_replace_order_preserving_variants.Goals as goal
use Rattle.exchange.proofs.replace.+replace_children_replace_order_preserving_variants.Goals.{replace_children-then-is_set, replace_children-else-is_set}

-- ---- the list function
pub replace_children-returns-then-left-eq0 : goal.replace_children-returns-then-left-eq0
replace_children-returns-then-left-eq0 t c = none_wrote _ _ _ _ _ c.if-left-eq0.true

pub replace_children-offset_bounds-src-at : goal.replace_children-offset_bounds-src-at
replace_children-offset_bounds-src-at t c = omega (arith, first_row replace_tracked _ _ _ _ _ c.if-left-eq0.false c.requires)

pub replace_children-bounds-src-at : goal.replace_children-bounds-src-at
replace_children-bounds-src-at t c = omega (arith, first_row replace_tracked _ _ _ _ _ c.if-left-eq0.false c.requires)

pub replace_children-replace_order_preserving_variants-s-requires : goal.replace_children-replace_order_preserving_variants-s-requires
replace_children-replace_order_preserving_variants-s-requires t c =
    (omega (arith, c.decreases), rw (sym c.is_set.ensures ∙ c.if-is_set.true) at (first_ready (read_in_place c.args.src.now c.args.at) replace_tracked replace_tracked _ _ _ c.if-left-eq0.false (first_replaced c.args.src.now c.args.at) _ _ c.requires))

pub replace_children-copy_tree-s-requires : goal.replace_children-copy_tree-s-requires
replace_children-copy_tree-s-requires t c = rw (sym c.is_set.ensures ∙ c.if-is_set.false) at (first_ready (read_in_place c.args.src.now c.args.at) replace_tracked replace_tracked _ _ _ c.if-left-eq0.false (first_replaced c.args.src.now c.args.at) _ _ c.requires)

pub replace_children-replace_children-requires : goal.replace_children-replace_children-requires
replace_children-replace_children-requires t c =
    let m : Maps (read_in_place c.args.src.now c.args.at) c.args.src.now c.args.at c.args.dst.now c.args.to c.if-is_set.dst c.if-is_set.s =
    elim c.if-is_set.branch [
      | replace_children-then-is_set w ↦ rw (sym c.is_set.ensures ∙ w.if-is_set.true, w.dst-is, w.s-is) w.replace_order_preserving_variants-s.ensures
      | replace_children-else-is_set w ↦ rw (sym c.is_set.ensures ∙ w.if-is_set.false, w.dst-is, w.s-is) w.copy_tree-s.ensures
    ] in (
      omega (arith, c.decreases, first_falls (read_in_place c.args.src.now c.args.at) replace_tracked replace_tracked _ _ _ c.if-left-eq0.false (first_replaced c.args.src.now c.args.at) _ _ _ _ m _ c.requires),
      rw c.if-is_set.auto.dst (others_ready (read_in_place c.args.src.now c.args.at) replace_tracked replace_tracked _ _ _ c.if-left-eq0.false (first_replaced c.args.src.now c.args.at) _ _ _ _ m _ c.requires),
    )

pub replace_children-returns : goal.replace_children-returns
replace_children-returns t c =
    let m : Maps (read_in_place c.args.src.now c.args.at) c.args.src.now c.args.at c.args.dst.now c.args.to c.if-is_set.dst c.if-is_set.s =
    elim c.if-is_set.branch [
      | replace_children-then-is_set w ↦ rw (sym c.is_set.ensures ∙ w.if-is_set.true, w.dst-is, w.s-is) w.replace_order_preserving_variants-s.ensures
      | replace_children-else-is_set w ↦ rw (sym c.is_set.ensures ∙ w.if-is_set.false, w.dst-is, w.s-is) w.copy_tree-s.ensures
    ] in
    many_wrote (read_in_place c.args.src.now c.args.at) replace_tracked replace_tracked _ _ _ c.if-left-eq0.false (first_replaced c.args.src.now c.args.at) _ _ _ _ m _ _ c.replace_children.ensures

-- ---- the node function
pub replace_order_preserving_variants-node_at-requires : goal.replace_order_preserving_variants-node_at-requires
replace_order_preserving_variants-node_at-requires t c = Headed.ready_row replace_order_preserving_variants heads replace_tracked rows_replace _ _ _ _ c.requires

pub replace_order_preserving_variants-children_at-children-requires : goal.replace_order_preserving_variants-children_at-children-requires
replace_order_preserving_variants-children_at-children-requires t c = Headed.ready_row replace_order_preserving_variants heads replace_tracked rows_replace _ _ _ _ c.requires

pub replace_order_preserving_variants-invariant_of-n : goal.replace_order_preserving_variants-invariant_of-n
replace_order_preserving_variants-invariant_of-n t c = record { legal = rw c.node_at.ensures (Headed.ready_legal replace_order_preserving_variants heads replace_tracked rows_replace _ _ _ _ c.requires) }

pub replace_order_preserving_variants-put_in_place-next-requires : goal.replace_order_preserving_variants-put_in_place-next-requires
replace_order_preserving_variants-put_in_place-next-requires t c = rw (c.node_at.ensures, c.children_at-children.ensures) (Headed.ready_heads replace_order_preserving_variants heads replace_tracked rows_replace _ _ _ _ c.requires)

pub replace_order_preserving_variants-overflow_add-at : goal.replace_order_preserving_variants-overflow_add-at
replace_order_preserving_variants-overflow_add-at t c = omega (arith, Headed.ready_row replace_order_preserving_variants heads replace_tracked rows_replace _ _ _ _ c.requires)

pub replace_order_preserving_variants-replace_children-requires : goal.replace_order_preserving_variants-replace_children-requires
replace_order_preserving_variants-replace_children-requires t c = let k = c.children_at-children.ensures in let e = rw (c.node_at.ensures, k) at c.put_in_place-next.ensures in
    (omega (arith, c.decreases, Headed.ready_row replace_order_preserving_variants heads replace_tracked rows_replace _ _ _ _ c.requires), rw (c.put_in_place-next.auto.dst, k) (Headed.ready_below replace_order_preserving_variants heads replace_tracked rows_replace _ _ _ _ c.requires _ e.0))

pub replace_order_preserving_variants-returns : goal.replace_order_preserving_variants-returns
replace_order_preserving_variants-returns t c = let k = c.children_at-children.ensures in let e = rw (c.node_at.ensures, k) at c.put_in_place-next.ensures in
    Headed.node_wrote replace_order_preserving_variants heads replace_tracked rows_replace _ _ _ _ _ _ _ _ e.0 e.1 (rw k at c.replace_children.ensures)
