-- Demand 3, "Where a join's order is tried, they are called impossible exactly when no arrangement of them fits either side,
-- raw or rewritten; else one side fits as it comes out".
use Rattle.std.specs.Prelude.{◌≡◌, true, false, ◌↔◌}
use Rattle.keys.specs.Expressions.{same_expr}
use Rattle.keys.specs.Adjust.{KeySheet, KeyAnswer}
use Rattle.keys.specs.Inputs.{JoinSheet, JoinAnswer}
use Rattle.keys.specs.Codes.{order_tried}
use Rattle.keys.specs.Kept.{sheet_pairs, answer_pairs, input_tried, NothingFits, ComesOutFitting, NothingFitsInputs, FollowedFits}

-- report 3 of a K sheet means impossible, for R
pub record KeyExact (x : KeySheet) (r : KeyAnswer) : Type 0 where
  pub impossible : order_tried x.op x.mode ≡ true → (r.report ≡ 3) ↔ NothingFits same_expr x.rewriting x.required (sheet_pairs x)
  pub fits : order_tried x.op x.mode ≡ true → (r.report ≡ 3 → ⊥)
      → ComesOutFitting same_expr x.rewriting x.required (sheet_pairs x) (answer_pairs r) r.report r.positions

-- of an I sheet, for every list with mark 1; what fits is the list that was followed
pub record JoinExact (x : JoinSheet) (r : JoinAnswer) : Type 0 where
  pub untried : input_tried x ≡ false → r.report ≡ 0
  pub impossible : input_tried x ≡ true → (r.report ≡ 3) ↔ NothingFitsInputs same_expr x
  pub fits : input_tried x ≡ true → (r.report ≡ 3 → ⊥) → FollowedFits same_expr x r
