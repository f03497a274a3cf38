-- The order handling of a child as numbers: whether its order-preserving operators give way, the entries of a sort above,
-- and whether its mark is cleared.
-- Renders the second loop over the children in `ensure_distribution` of 000, with `add_sort_above_with_check` of 001.
use Rattle.std.specs.Prelude.{ℕ, Bool, true, false, cond, not, ◌&&◌, ◌||◌, eqb}
use Rattle.std.proofs.Math.Option.{Option}
use Rattle.exchange.specs.Trees.{Plan}
use Rattle.exchange.specs.declared.order.Handling.{Handling}
use Rattle.exchange.specs.declared.order.Known.{Known}
use Rattle.exchange.specs.Settings.{is_set}
use Rattle.exchange.specs.Operators.{track_root}
use Rattle.exchange.specs.Replace.{replace_order_preserving_variants}
use Rattle.exchange.specs.Order.{enables_streaming, kept_entries, add_sort_above, required_replaced, free_replaced}

-- an order is required: the entries of the sort
abbrev pub sorted_entries : Bool → Bool → Bool → ℕ → ℕ → ℕ
sorted_entries replaced met aftermet entries constants = cond (replaced && (met && not aftermet)) (kept_entries entries constants) 0

module _ (k : Known) where
  abbrev pub streams : Bool
  streams = eqb k.tracked 1 && enables_streaming k.children k.maintains k.ford k.fplain

  abbrev pub required_handling : Handling
  required_handling =
      let replaced = required_replaced (is_set k.met) (is_set k.friendly || is_set k.sort) streams (eqb k.tracked 1) in
      record { replaced = replaced; entries = sorted_entries replaced (is_set k.met) (is_set k.aftermet) k.entries k.constants; cleared = true }

  abbrev pub free_handling : Handling
  free_handling = record { replaced = free_replaced k.need (is_set k.maintains) streams (eqb k.kind 10); entries = 0; cleared = false }

  unfoldable pub handling_of : Handling
  handling_of = cond (eqb k.entries 0) free_handling required_handling

-- ---- what a handling makes of a tree

unfoldable pub given_up : Bool → Plan → Plan
given_up replaced t = cond replaced (replace_order_preserving_variants t) t

unfoldable pub sorted_by : ℕ → Option ℕ → Bool → Plan → Plan
sorted_by entries limit replaced t = add_sort_above entries limit (given_up replaced t)

unfoldable pub handled_by : Handling → Option ℕ → Plan → Plan
handled_by h limit t = cond h.cleared (track_root 0 (sorted_by h.entries limit h.replaced t)) (sorted_by h.entries limit h.replaced t)
