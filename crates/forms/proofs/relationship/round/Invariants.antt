-- `forms::relationship::round` meets its contract: the forms before i are those after their turns, and stand before the turns from i on (`each_turn`).
use mathlib.Core.Path.{◌≡◌}
use mathlib.Core.List.{map}
use Prim.Native.Nat.{ℕ, ◌+◌, ◌≤◌, ◌<◌}
use lib.ListN.{length, take, drop, get_or}
use Rattle.exchange.specs.FactRows.{fact_row}
use Rattle.exchange.specs.Standings.{asked_needs, each_form}
use Rattle.exchange.specs.Turns.{turn_form, turns_by}
use Rattle.forms.proofs.Each.{prepend}
use Rattle.forms.proofs.relationship.round.Given as goal

abbrev pub invariant-loop-i : goal.invariant-loop-i
invariant-loop-i l = (length l.forms ≡ length l.initial.forms) × ((k : ℕ) → k < length l.forms → get_or l.forms k 0 ≤ 15)
    × (each_form (turn_form (map fact_row l.xs.rows.now)) (turns_by 1 l.mask (asked_needs l.asks.list.now) l.initial.forms)
    ≡ prepend (take l.i l.forms) (each_form (turn_form (map fact_row l.xs.rows.now)) (turns_by (l.i + 1) l.m (asked_needs (drop l.i l.asks.list.now)) (drop l.i l.forms))))
