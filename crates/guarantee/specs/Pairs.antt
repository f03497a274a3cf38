-- Demand 3, "Its join pairs come out each exactly once, directions with them: in the order of the reported positions if moved, else as they stood".
use Rattle.std.specs.Prelude.{◌≡◌, true, false}
use Rattle.keys.specs.Adjust.{KeySheet, KeyAnswer}
use Rattle.keys.specs.Inputs.{JoinSheet, JoinAnswer}
use Rattle.keys.specs.Codes.{order_tried}
use Rattle.keys.specs.Kept.{PairsKept, sheet_pairs, answer_pairs, join_pairs, ordered_pairs}

-- the pairs of a K sheet: moved or not where an order is tried, else as they stood
pub record KeyPairs (x : KeySheet) (r : KeyAnswer) : Type 0 where
  pub tried : order_tried x.op x.mode ≡ true → PairsKept (sheet_pairs x) (answer_pairs r) r.report r.positions
  pub untried : order_tried x.op x.mode ≡ false → answer_pairs r ≡ sheet_pairs x

-- those of an I sheet
abbrev pub JoinPairs : JoinSheet → JoinAnswer → Type 0
JoinPairs x r = PairsKept (join_pairs x) (ordered_pairs r) r.report r.positions
