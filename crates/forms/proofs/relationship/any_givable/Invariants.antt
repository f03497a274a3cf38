-- `forms::relationship::any_givable` meets its contract: the children from i on can be given one as all of them can, since none before i can.
use mathlib.Core.Path.{◌≡◌}
use mathlib.Core.List.{map}
use Prim.Native.Nat.{◌+◌}
use lib.ListN.{drop}
use Rattle.exchange.specs.FactRows.{fact_row}
use Rattle.exchange.specs.Standings.{asked_needs}
use Rattle.exchange.specs.Turns.{any_turn, turns_by}
use Rattle.forms.proofs.relationship.any_givable.Given as goal

abbrev pub invariant-loop-i : goal.invariant-loop-i
invariant-loop-i l =
    any_turn (map fact_row l.xs.rows.now) (turns_by 1 l.mask (asked_needs l.asks.list.now) l.forms.list.now)
    ≡ any_turn (map fact_row l.xs.rows.now) (turns_by (l.i + 1) l.m (asked_needs (drop l.i l.asks.list.now)) (drop l.i l.forms.list.now))
