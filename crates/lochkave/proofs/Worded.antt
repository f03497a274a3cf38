-- A refusal that an entry point answers has a number from 1 to 12 and a line of at most 65,537, so its word is made of both.
-- Assumes nothing.
use Prim.Native.Nat.{ℕ, ◌+◌, ◌*◌, ◌≤◌, ◌<◌}
use mathlib.Core.Path.{◌≡◌, refl, ap, ◌∙◌}
use mathlib.Core.Bool.{Bool, true, false, cond}
use mathlib.Core.List.{List}
use native.Mathlib.Omega.{arith}
use borrow.Author.Tests.{ne_eqb}
use lib.Dec.{eqb, ltb}
use lib.ListN.{length, get_or}
use Rattle.std.specs.Prelude.{Result, IfErr}
use Rattle.keys.specs.Inputs.{JoinSheet}
use Rattle.keys.specs.Adjust.{KeySheet, Adjustment, answered, name_not_found, adjust_input_keys_ordering}
use Rattle.keys.specs.Expressions.{same_expr}
use Rattle.keys.proofs.Truths.{by_test}
use Rattle.refusals.specs.declared.Refused.{Refused}
use Rattle.refusals.specs.Refusals.{written_word}
use Rattle.refusals.proofs.Judging.{number_again}
use Rattle.sheet.specs.KeySheets.{Reading, sheet, turned, read_key_sheet, read_join_sheet}
use Rattle.sheet.specs.KeyAnswers.{Outcome, refused, wrote, adjusted, key_outcome, join_outcome, adjust_decision, inputs_decision}
use Rattle.sheet.specs.Outcomes.{answer, within, written_by}
use Rattle.sheet.proofs.Bounded.{Numbered, key_turned_few, join_turned_few}
use Rattle.exchange.specs.Ensure.{Ensured, missing_row, unenforceable, ensured, answered as given}
use Rattle.plansheet.specs.PlanSheets.{PlanSheet, read_plan}
use Rattle.plananswer.specs.PlanTexts.{distributed}
use Rattle.plananswer.specs.PlanDecision.{plan_outcome, plan_decision}
use Rattle.lochkave.specs.Decision.{decision}
use Rattle.lochkave.specs.Entry.{key_again, join_again, plan_again, rewriting}
use Rattle.lochkave.proofs.PlanBounded.{Few, plan_few}

abbrev pub Worded : Outcome → Type 0
Worded (refused n l) = (n ≤ 12) × (l ≤ 65537) × (n ≡ 0 → ⊥)
Worded (wrote bs) = Unit {0}

-- the word of what a writer answers
pub worded : (o : Outcome) (r : Result ℕ Refused) → Worded o → r ≡ written_by o → written_word r ≡ answer o
worded (refused n l) r h e = rw e (ap (λ (m : ℕ). m * 4294967296 + l) (number_again n h.2 h.0))
worded (wrote bs) r h e = rw e refl

pub lined : (o : Outcome) (r : Result ℕ Refused) → Worded o → r ≡ written_by o → IfErr r (λ f. f.line < 4294967296)
lined (refused n l) r h e = rw e (omega (arith, h.1))
lined (wrote bs) r h e = rw e tt

within_at : (t : Bool) (bs : List ℕ) → Worded (cond t (refused 12 0) (wrote bs))
within_at true bs = (omega arith, omega arith, λ z. omega arith)
within_at false bs = tt

pub within_worded : (room : ℕ) (o : Outcome) → Worded o → Worded (within room o)
within_worded room (refused n l) h = h
within_worded room (wrote bs) h = within_at (ltb room (length bs)) bs

-- ---- by what was read

few_of : {A : Type 0} (r : Reading A) → ((n l : ℕ) → r ≡ turned n l → Numbered n l) → Few r
few_of (sheet x) h = tt
few_of (turned n l) h = let k = h n l refl in (omega (arith, k.0), omega (arith, k.1), k.2)

key_few : (s : List ℕ) → Few (read_key_sheet s)
key_few s = few_of (read_key_sheet s) (key_turned_few s)

join_few : (s : List ℕ) → Few (read_join_sheet s)
join_few s = few_of (read_join_sheet s) (join_turned_few s)

key_worded : (r : Reading KeySheet) → Few r → Worded (key_outcome r)
key_worded (turned n l) h = (omega (arith, h.0), h.1, h.2)
key_worded (sheet x) h = go (adjust_input_keys_ordering same_expr x)
  where
    go : (a : Adjustment) → Worded (adjusted a)
    go (answered a) = tt
    go name_not_found = (omega arith, omega arith, λ z. omega arith)

join_worded : (r : Reading JoinSheet) → Few r → Worded (join_outcome r)
join_worded (turned n l) h = (omega (arith, h.0), h.1, h.2)
join_worded (sheet x) h = tt

plan_worded : (r : Reading PlanSheet) → Few r → Worded (plan_outcome r)
plan_worded (turned n l) h = (omega (arith, h.0), h.1, h.2)
plan_worded (sheet x) h = go (ensured x.settings x.facts x.plan)
  where
    go : (e : Ensured) → Worded (distributed e)
    go missing_row = (omega arith, omega arith, λ z. omega arith)
    go unenforceable = (omega arith, omega arith, λ z. omega arith)
    go (given a) = tt

module _ (s : List ℕ) where
  pub adjust_worded : Worded (adjust_decision s)
  unfolding adjust_decision
  adjust_worded = key_worded (read_key_sheet s) (key_few s)

  pub inputs_worded : Worded (inputs_decision s)
  unfolding inputs_decision
  inputs_worded = join_worded (read_join_sheet s) (join_few s)

  pub distribution_worded : Worded (plan_decision s)
  unfolding plan_decision
  distribution_worded = plan_worded (read_plan s) (plan_few s)

  pub decision_worded : Worded (decision s)
  unfolding decision
  decision_worded =
      by_test Worded (eqb (get_or s 0 0) 75) (λ t. adjust_worded)
      (λ t. by_test Worded (eqb (get_or s 0 0) 73) (λ u. inputs_worded) (λ u. distribution_worded))

key_again_worded : (r : Reading KeySheet) → Few r → Worded (key_again r)
key_again_worded (turned n l) h = (omega (arith, h.0), h.1, h.2)
key_again_worded (sheet x) h = tt

join_again_worded : (r : Reading JoinSheet) → Few r → Worded (join_again r)
join_again_worded (turned n l) h = (omega (arith, h.0), h.1, h.2)
join_again_worded (sheet x) h = tt

plan_again_worded : (r : Reading PlanSheet) → Few r → Worded (plan_again r)
plan_again_worded (turned n l) h = (omega (arith, h.0), h.1, h.2)
plan_again_worded (sheet x) h = tt

pub rewriting_worded : (s : List ℕ) → Worded (rewriting s)
unfolding rewriting
rewriting_worded s =
    by_test Worded (eqb (get_or s 0 0) 75) (λ t. key_again_worded (read_key_sheet s) (key_few s))
    (λ t. by_test Worded (eqb (get_or s 0 0) 73) (λ u. join_again_worded (read_join_sheet s) (join_few s)) (λ u. plan_again_worded (read_plan s) (plan_few s)))

-- a sheet that is of no other kind is decided on as a D sheet
pub decision_other : (s : List ℕ) (b : ℕ) → b ≡ get_or s 0 0 → (b ≡ 75 → ⊥) → (b ≡ 73 → ⊥) → decision s ≡ plan_decision s
unfolding decision
decision_other s b e k i = rw (ne_eqb (get_or s 0 0) 75 (λ z. k (e ∙ z)), ne_eqb (get_or s 0 0) 73 (λ z. i (e ∙ z)))
