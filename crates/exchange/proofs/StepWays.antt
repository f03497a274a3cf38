-- The ways of a child's step: whatever holds of a child that stays as it is, and of one with a merge, a keyed exchange or a round robin on top,
-- holds after what its need asks (`holds_satisfied`); what holds after that, from what holds before, holds after the step (`holds_stepped`).
use mathlib.Core.Bool.{◌&&◌}
use mathlib.Core.Option.{some}
use mathlib.Core.List.{List}
use lib.Dec.{ltb}
use Rattle.exchange.specs.Trees.{Operator}
use Rattle.exchange.specs.declared.settings.Settings.{Settings}
use Rattle.exchange.specs.Forms.{with_top}
use Rattle.exchange.specs.Facts.{NodeFacts, Row}
use Rattle.exchange.specs.Operators.{is_single, is_keyed}
use Rattle.exchange.specs.States.{ChildState, pass, started, and_then}
use Rattle.exchange.specs.Status.{RepartitionRequirementStatus}
use Rattle.exchange.specs.Step.{merge_on, keyed_on, roundrobin_on, partitions, add_merge_on_top, add_hash_on_top, add_roundrobin_on_top, add_roundrobin, needs_hash_repartition, split_at_source, satisfy_distribution, ensure_child}
use Rattle.exchange.proofs.Passing.{Holds, holds_then, holds_cond}

pub holds_satisfied : (s : Settings) (w : Operator) (b : NodeFacts) (rows : List Row) (P : ChildState → Type 0) (t : RepartitionRequirementStatus) (d : ChildState)
    → P d → Holds P (pass rows (with_top 1 d.form) merge_on d) → Holds P (pass rows (with_top 2 d.form) keyed_on d)
    → Holds P (pass rows (with_top 3 d.form) roundrobin_on d) → Holds P (satisfy_distribution s w b rows t d)
holds_satisfied s w b rows P t d stays merged keyed dealt =
    holds_cond P (is_single d.need) (add_merge_on_top rows d) _
    (λ e. holds_cond P (ltb 1 (partitions d)) _ (some d) (λ e. merged) (λ e. stays))
    (λ e. holds_cond P (is_keyed d.need) _ _
    (λ e. holds_cond P (t.hash_necessary && needs_hash_repartition s w t d) (add_hash_on_top rows d) (some d) (λ e. keyed) (λ e. stays))
    (λ e. holds_cond P (add_roundrobin s w b t) (add_roundrobin_on_top rows s.target d) (some d)
    (λ e. holds_cond P (ltb (partitions d) s.target) _ (some d) (λ e. dealt) (λ e. stays))
    (λ e. stays)))

-- B as the step begins, S after the split, P after what the need asks
pub holds_stepped : (s : Settings) (w : Operator) (b : NodeFacts) (rows : List Row) (B S P : ChildState → Type 0) (t : RepartitionRequirementStatus)
    → Holds B (started rows t.child) → ((d : ChildState) → B d → Holds S (split_at_source s rows t d))
    → ((d : ChildState) → S d → Holds P (satisfy_distribution s w b rows t d)) → Holds P (ensure_child s w b rows t)
unfolding ensure_child
holds_stepped s w b rows B S P t begins splits satisfies =
    holds_then S P (and_then (started rows t.child) (split_at_source s rows t)) (satisfy_distribution s w b rows t)
    (holds_then B S (started rows t.child) (split_at_source s rows t) begins splits)
    satisfies
