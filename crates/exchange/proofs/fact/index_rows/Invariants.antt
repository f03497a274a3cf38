-- `exchange::fact::index_rows` meets its contract: at each turn the index is that of the rows that were taken from the end.
use mathlib.Core.Path.{◌≡◌}
use mathlib.Core.List.{◌++◌}
use lib.ListN.{length, drop}
use Rattle.exchange.specs.Found.{index_from}
use Rattle.exchange.proofs.fact.index_rows.Given as goal

abbrev pub invariant-loop-i : goal.invariant-loop-i
invariant-loop-i l =
    let left = l.i-iterator.iter.iter.rest.now in
    (l.i-iterator.iter.count ≡ 0) × (left ++ drop (length left) l.rows ≡ l.rows) × (l.index ≡ index_from (length left) (drop (length left) l.rows))
