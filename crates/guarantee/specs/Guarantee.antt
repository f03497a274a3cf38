-- Demand 3, whole. `Guaranteed` says it of any sheet and any answer, both as bytes; `AnswersGuaranteed`, that every answer of
-- `decision` is guaranteed. It is proved in proofs/Guarantee. Each sentence has a file of its name beside this one.
use Rattle.std.specs.Prelude.{ℕ, ◌≡◌, List}
use Rattle.keys.specs.Adjust.{KeySheet, KeyAnswer}
use Rattle.keys.specs.Inputs.{JoinSheet, JoinAnswer}
use Rattle.sheet.specs.KeySheets.{sheet, read_key_sheet, read_join_sheet}
use Rattle.sheet.specs.KeyAnswers.{wrote, key_answer_text, join_answer_text}
use Rattle.exchange.specs.Ensure.{Answer}
use Rattle.plansheet.specs.PlanSheets.{PlanSheet, read_plan}
use Rattle.plananswer.specs.PlanTexts.{plan_answer_text}
use Rattle.plananswer.specs.Sizes.{Everywhere}
use Rattle.lochkave.specs.Decision.{decision}
use Rattle.guarantee.specs.Conditions.{NoPlaceholder, SplitsGain}
use Rattle.guarantee.specs.Pairs.{KeyPairs, JoinPairs}
use Rattle.guarantee.specs.Exactness.{KeyExact, JoinExact}
use Rattle.guarantee.specs.Operators.{worked, OperatorsKept}
use Rattle.guarantee.specs.Limits.{LimitsKept}
use Rattle.guarantee.specs.Partitioning.{PartitioningHad}
use Rattle.guarantee.specs.Together.{Together}

-- a K sheet and its answer
pub record KeysKept (x : KeySheet) (r : KeyAnswer) : Type 0 where
  pub pairs : KeyPairs x r
  pub exact : KeyExact x r

-- an I sheet and its answer
pub record InputsKept (x : JoinSheet) (r : JoinAnswer) : Type 0 where
  pub pairs : JoinPairs x r
  pub exact : JoinExact x r

-- a D sheet and its answer
pub record PlanKept (x : PlanSheet) (r : Answer) : Type 0 where
  pub operators : OperatorsKept (worked x) r.plan
  pub limits : LimitsKept x.plan r.plan
  pub partitioning : PartitioningHad x r.plan
  pub together : Together x r.plan

-- t lines have no need; in their tree it is 0
abbrev pub NoNeeds : Answer → Type 0
NoNeeds r = Everywhere (λ o. o.need ≡ 0) r.plan

-- the sheet's bytes s are read as x, the answer's bytes a are the text of r (of one r only: `AnswersOnce`), and r keeps what demand 3 says of x
pub data Guaranteed (s a : List ℕ) : Type 0 where
  keys : (x : KeySheet) (r : KeyAnswer) → read_key_sheet s ≡ sheet x → a ≡ key_answer_text r → KeysKept x r → Guaranteed s a
  inputs : (x : JoinSheet) (r : JoinAnswer) → read_join_sheet s ≡ sheet x → a ≡ join_answer_text r → InputsKept x r → Guaranteed s a
  plan : (x : PlanSheet) (r : Answer) → read_plan s ≡ sheet x → a ≡ plan_answer_text r → NoNeeds r → PlanKept x r → Guaranteed s a

-- whatever is decided of any sheet that holds no placeholder, and where no child whose mark `gains` is 0 is split at its source
abbrev pub AnswersGuaranteed : Type 0
AnswersGuaranteed = (s a : List ℕ) → decision s ≡ wrote a → NoPlaceholder s → SplitsGain s → Guaranteed s a
