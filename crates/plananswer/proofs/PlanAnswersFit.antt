-- An output of 65,536 bytes suffices for the answer of every D sheet whose numbers are within their bounds, and 536 rows for its tree.
-- Assumes nothing.
use mathlib.Core.Path.{◌≡◌, refl}
use Prim.Native.Nat.{ℕ, suc, ◌+◌, ◌*◌, ◌^◌, ◌≤◌, ◌<◌}
use native.Mathlib.Nat.{mul-le-mul_right}
use native.Mathlib.Omega.{arith}
use lib.ListN.{length}
use borrow.Author.Tests.{le-ltb}
use Rattle.linekinds.specs.Lines.{most_bytes}
use Rattle.sheet.specs.KeyAnswers.{Outcome, refused, wrote}
use Rattle.sheet.specs.Outcomes.{within}
use Rattle.sheet.proofs.AnswersFit.{Fits}
use Rattle.exchange.specs.Trees.{trees, Plan}
use Rattle.exchange.specs.Rows.{flatten}
use Rattle.exchange.specs.declared.settings.Settings.{Settings}
use Rattle.exchange.specs.Facts.{Facts}
use Rattle.exchange.specs.Ensure.{Answer, Ensured, missing_row, unenforceable, answered, ensured}
use Rattle.exchange.specs.Sizes.{lines}
use Rattle.exchange.specs.Skeleton.{below}
use Rattle.exchange.specs.Partitioning.{worked_of}
use Rattle.exchange.proofs.AnswerLines.{lines_rows, answer_536}
use Rattle.plananswer.specs.PlanTexts.{plan_answer_text, distributed}
use Rattle.plananswer.specs.Sizes.{SizedFacts, SizedAnswer, operator_most, plan_answer_most}
use Rattle.plananswer.proofs.AnswerLong.{plan_answer_long}
use Rattle.plananswer.proofs.SizedAnswers.{plan_answer_sized}

-- where what is written has at most 65,536 bytes, a room of as many is never too small
pub room_suffices : (room : ℕ) (o : Outcome) → most_bytes ≤ room → Fits o → within room o ≡ o
room_suffices room (refused n l) h k = refl
room_suffices room (wrote bs) h k = rw (le-ltb room (length bs) (omega arith))

module _ (s : Settings) (f : Facts) (t : Plan) (few : lines t ≤ 256) (children : trees (below (worked_of t)) ≤ 8) where
  pub plan_answer_rows : (a : Answer) → ensured s f t ≡ answered a → length (flatten a.plan) ≤ 536
  plan_answer_rows a e = omega (arith, lines_rows a.plan, answer_536 s f t a few children e)

  -- numbers up to m have at most d + 1 digits, limits up to l at most e + 1
  pub plan_answer_most_lem : (m d l e : ℕ) → m < 10 ^ suc d → l < 10 ^ suc e → 536 ≤ m
      → SizedFacts m l f t → (a : Answer) → ensured s f t ≡ answered a → length (plan_answer_text a) ≤ plan_answer_most (suc d + 1) (suc e + 1) 536
  plan_answer_most_lem m d l e digits places k h a q =
      let n : lines a.plan ≤ 536 = answer_536 s f t a few children q in
      let sized : SizedAnswer m l a = plan_answer_sized m l (omega arith) s f t a h q in
      let p : lines a.plan * operator_most (suc d + 1) (suc e + 1) ≤ 536 * operator_most (suc d + 1) (suc e + 1) =
      mul-le-mul_right (operator_most (suc d + 1) (suc e + 1)) n in
      omega (arith, plan_answer_long m d l e digits places a sized (omega arith))

  module _ (h : SizedFacts 65535 4294967295 f t) where
    pub plan_answer_fits : (a : Answer) → ensured s f t ≡ answered a → length (plan_answer_text a) ≤ most_bytes
    plan_answer_fits a e = omega (arith, plan_answer_most_lem 65535 4 4294967295 9 (omega arith) (omega arith) (omega arith) h a e)

    outcome_fits : (o : Ensured) → ensured s f t ≡ o → Fits (distributed o)
    outcome_fits missing_row e = tt
    outcome_fits unenforceable e = tt
    outcome_fits (answered a) e = plan_answer_fits a e

    -- what is written, if anything, has at most 65,536 bytes
    pub ensured_fits : Fits (distributed (ensured s f t))
    ensured_fits = outcome_fits (ensured s f t) refl

    pub ensured_room : (room : ℕ) → most_bytes ≤ room → within room (distributed (ensured s f t)) ≡ distributed (ensured s f t)
    ensured_room room h = room_suffices room (distributed (ensured s f t)) h ensured_fits
