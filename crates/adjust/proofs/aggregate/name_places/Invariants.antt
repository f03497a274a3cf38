-- The places found so far, before those of the names left, are all.
use mathlib.Core.Path.{◌≡◌}
use mathlib.Core.List.{◌++◌}
use lib.ListN.{length, take, drop}
use Rattle.keys.specs.Adjust.{name_places}
use Rattle.keys.proofs.Lists.{behind}
use Rattle.adjust.proofs.aggregate.name_places.Given as goal

abbrev pub invariant-loop-i : goal.invariant-loop-i
invariant-loop-i l = record {
  room : length l.items ≡ 32;
  rest : name_places (l.moved ++ l.aggregates) l.names ≡ behind (take l.i l.items) (name_places (l.moved ++ l.aggregates) (drop l.i l.names));
}
