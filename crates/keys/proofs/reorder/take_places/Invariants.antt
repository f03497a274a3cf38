-- The positions taken so far, before what the search goes on to find, are all.
use mathlib.Core.Path.{◌≡◌}
use lib.Dec.{eqb}
use lib.ListN.{length, take, drop}
use Rattle.keys.specs.Lists.{take_places}
use Rattle.keys.specs.Expressions.{gone_number}
use Rattle.keys.specs.Values.{packed_keys}
use Rattle.keys.proofs.Lists.{behind}
use Rattle.keys.proofs.reorder.take_places.Given as goal

abbrev pub invariant-loop-i : goal.invariant-loop-i
invariant-loop-i l = record {
  room : length l.items ≡ 32;
  rest :
      take_places eqb gone_number l.current l.expected
      ≡ behind (take l.i l.items) (take_places eqb gone_number (packed_keys l.left) (drop l.i l.expected));
}
