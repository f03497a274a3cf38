-- The order handling of a child: whether its order-preserving operators stay, and the sort that takes their place.
-- Renders the second loop over the children in `ensure_distribution` of 000, with `preserving_order_enables_streaming`, and
-- `add_sort_above_with_check` of 001; document 01, "order handling", "Sort entries in the mask `const` are dropped; none left, no sort".
use Rattle.std.specs.Prelude.{ℕ, zero, suc, ◌+◌, ◌*◌, ◌/◌, ◌%◌, Bool, cond, not, ◌&&◌, ◌||◌, eqb}
use Rattle.std.proofs.Math.Option.{Option, none as nothing}
use Rattle.exchange.specs.Trees.{root, Operator, Plan}
use Rattle.exchange.specs.declared.settings.Settings.{Settings}
use Rattle.exchange.specs.Settings.{is_set}
use Rattle.exchange.specs.Facts.{NodeFacts}
use Rattle.exchange.specs.Operators.{is_output_requirement, is_single, is_keyed, is_tracked, track_root, above, required_sort}
use Rattle.exchange.specs.States.{ChildState}
use Rattle.exchange.specs.Replace.{replace_order_preserving_variants}

-- the worked node, which has one child and keeps its order, would no longer stream over an unordered child
abbrev pub enables_streaming : ℕ → ℕ → ℕ → ℕ → Bool
enables_streaming children maintains ford fplain = eqb children 1 && (is_set maintains && (not (is_set ford) && is_set fplain))

-- by the child's F row and the row of its form
abbrev pub preserving_order_enables_streaming : ℕ → ChildState → Bool
preserving_order_enables_streaming children c = enables_streaming children c.facts.maintains c.row.ford c.row.fplain

-- the entries of a required order that are not constant, as a mask: bit n for entry n+1
unfoldable pub kept_entries : ℕ → ℕ → ℕ
kept_entries zero constants = 0
kept_entries (suc n) constants = cond (eqb (constants % 2) 1) 0 1 + 2 * kept_entries n (constants / 2)

-- a sort by the kept entries, if there is one
abbrev pub add_sort_above : ℕ → Option ℕ → Plan → Plan
add_sort_above entries limit t = cond (eqb entries 0) t (above (required_sort limit entries (root t)) t)

-- none where the order still holds after the replacement
abbrev pub add_sort_above_with_check : ChildState → Option ℕ → Plan → Plan
add_sort_above_with_check c limit t =
    cond (is_set c.row.aftermet) t (add_sort_above (kept_entries c.facts.entries c.row.const) limit t)

-- an output requirement hands its limit to the sort
abbrev pub output_fetch : Operator → Option ℕ
output_fetch worked = cond (is_output_requirement worked) worked.limit nothing

-- the plan is unbounded and pipeline friendly, or existing sorts are preferred
abbrev pub order_preserving_variants_desirable : Settings → NodeFacts → Bool
order_preserving_variants_desirable s b = is_set b.friendly || is_set s.sort

-- of a tracked child only
abbrev pub streaming_benefit : ℕ → ChildState → Bool
streaming_benefit children c = is_tracked (root c.plan) && preserving_order_enables_streaming children c

-- ---- an order is required

-- it isn't held, or isn't worth its cost
abbrev pub required_replaced : Bool → Bool → Bool → Bool → Bool
required_replaced met desirable streaming tracked = (not met || not desirable) && (not streaming && tracked)

abbrev pub is_given_up : Settings → NodeFacts → ℕ → ChildState → Bool
is_given_up s b children c =
    required_replaced (is_set c.row.met) (order_preserving_variants_desirable s b) (streaming_benefit children c) (is_tracked (root c.plan))

-- where it is given up, a sort restores it if it was held; the child is no longer tracked
--   merge                sort
--     leaf       to        coalesce
--                            leaf
abbrev pub order_required : Settings → NodeFacts → Operator → ℕ → ChildState → Plan
order_required s b worked children c =
    let replaced = replace_order_preserving_variants c.plan in
    track_root 0
    (cond (is_given_up s b children c) (cond (is_set c.row.met) (add_sort_above_with_check c (output_fetch worked) replaced) replaced) c.plan)

-- ---- none is required

-- the worked node keeps no order and, of a single or keyed need, no streaming is lost; an unspecified need under an output requirement always is
abbrev pub free_replaced : ℕ → Bool → Bool → Bool → Bool
free_replaced need maintains streaming output =
    cond (is_single need || is_keyed need) (not maintains && not streaming) (not maintains || output)

abbrev pub is_replaced : Operator → ℕ → ChildState → Bool
is_replaced worked children c = free_replaced c.need (is_set c.facts.maintains) (streaming_benefit children c) (is_output_requirement worked)

-- replaced or left, its mark with it
--   merge             to      coalesce
--     leaf                      leaf
abbrev pub order_not_required : Operator → ℕ → ChildState → Plan
order_not_required worked children c = cond (is_replaced worked children c) (replace_order_preserving_variants c.plan) c.plan

-- ---- the child's tree as the worked node, of so many children, gets it
unfoldable pub handle_order : Settings → NodeFacts → Operator → ℕ → ChildState → Plan
handle_order s b worked children c =
    cond (eqb c.facts.entries 0) (order_not_required worked children c) (order_required s b worked children c)
