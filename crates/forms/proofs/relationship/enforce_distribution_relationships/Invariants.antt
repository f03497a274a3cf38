-- `forms::relationship::enforce_distribution_relationships` meets its contract: the rounds that are left, on the forms as they stand, end as all of them do (`rounds_turn`).
use mathlib.Core.Path.{◌≡◌}
use mathlib.Core.List.{map}
use Prim.Native.Nat.{ℕ, ◌-◌, ◌≤◌, ◌<◌}
use lib.ListN.{length, get_or}
use Rattle.exchange.specs.FactRows.{fact_row}
use Rattle.exchange.specs.Standings.{asked_needs}
use Rattle.exchange.specs.Turns.{rounds_by}
use Rattle.forms.proofs.relationship.enforce_distribution_relationships.Given as goal

abbrev pub invariant-loop : goal.invariant-loop
invariant-loop l =
    let ends = rounds_by (map fact_row l.xs.rows.now) l.masks (asked_needs l.asks.list.now) in
    (length l.forms ≡ length l.initial.forms) × ((k : ℕ) → k < length l.forms → get_or l.forms k 0 ≤ 15)
    × (ends (length (asked_needs l.asks.list.now)) l.initial.forms ≡ ends (length l.asks.list.now - l.counter) l.forms)
