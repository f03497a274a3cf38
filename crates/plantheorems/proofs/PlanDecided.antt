-- The decision on a D sheet is refused exactly where a line or the sheet is wrong, a row is missing, or relationships can't be enforced; else its answer is
-- written, and that has at most 65,536 bytes.
-- Assumes nothing.
use mathlib.Core.Path.{◌≡◌, refl, sym, ap, ◌∙◌}
use mathlib.Core.Logic.{inl, inr, ◌↔◌}
use Prim.Native.Nat.{ℕ}
use mathlib.Core.List.{List}
use Rattle.exchange.specs.Ensure.{Ensured, missing_row, unenforceable, answered, ensured}
use Rattle.sheet.specs.KeySheets.{Reading, sheet, turned}
use Rattle.sheet.specs.KeyAnswers.{refused, wrote}
use Rattle.sheet.proofs.AnswersFit.{Fits}
use Rattle.plansheet.specs.PlanSheets.{PlanSheet, read_plan}
use Rattle.plananswer.specs.PlanTexts.{distributed}
use Rattle.plananswer.specs.PlanDecision.{plan_outcome, plan_decision}
use Rattle.plananswer.proofs.PlanAnswersFit.{ensured_fits}
use Rattle.plantheorems.specs.PlanDecisions.{DecisionTurned, PlanAnswered}
use Rattle.plantheorems.proofs.PlanRefused.{plan_refused_exactly}
use Rattle.plantheorems.proofs.PlanSizes.{read_sizes, sized_facts}

module _ (s : List ℕ) where
  -- ---- refused

  work_by : (x : PlanSheet) (e : Ensured) (n l : ℕ) → read_plan s ≡ sheet x → ensured x.settings x.facts x.plan ≡ e → distributed e ≡ refused n l → DecisionTurned s n l
  work_by x missing_row n l r q h = inr (inl (record { is = x; reads = r; missing = q; number = cc; line = cc }))
  work_by x unenforceable n l r q h = inr (inr (record { is = x; reads = r; rounds = q; number = cc; line = cc }))
  work_by x (answered a) n l r q h = absurd (cc)

  turned_by : (r : Reading PlanSheet) (n l : ℕ) → read_plan s ≡ r → plan_outcome r ≡ refused n l → DecisionTurned s n l
  turned_by (turned m k) n l r h =
      let a : m ≡ n = cc in
      let b : k ≡ l = cc in
      inl ((plan_refused_exactly s n l).0 (r ∙ rw (a, b)))
  turned_by (sheet x) n l r h = work_by x (ensured x.settings x.facts x.plan) n l r refl h

  refuses : (n l : ℕ) → DecisionTurned s n l → plan_outcome (read_plan s) ≡ refused n l
  refuses n l (inl t) = ap plan_outcome ((plan_refused_exactly s n l).1 t)
  refuses n l (inr (inl m)) = ap plan_outcome m.reads ∙ ap distributed m.missing ∙ rw (m.number, m.line)
  refuses n l (inr (inr u)) = ap plan_outcome u.reads ∙ ap distributed u.rounds ∙ rw (u.number, u.line)

  pub decision_refused_exactly : (n l : ℕ) → (plan_decision s ≡ refused n l) ↔ DecisionTurned s n l
  unfolding plan_decision
  decision_refused_exactly n l = (turned_by (read_plan s) n l refl, refuses n l)

  -- ---- answered

  answer_by_lem : (x : PlanSheet) (e : Ensured) (bytes : List ℕ) → read_plan s ≡ sheet x → ensured x.settings x.facts x.plan ≡ e → distributed e ≡ wrote bytes
      → PlanAnswered s bytes
  answer_by_lem x missing_row bytes r q h = absurd (cc)
  answer_by_lem x unenforceable bytes r q h = absurd (cc)
  answer_by_lem x (answered a) bytes r q h = record { is = x; reads = r; answer = a; answers = q; text = cc }

  answered_by_lem : (r : Reading PlanSheet) (bytes : List ℕ) → read_plan s ≡ r → plan_outcome r ≡ wrote bytes → PlanAnswered s bytes
  answered_by_lem (turned m k) bytes r h = absurd (cc)
  answered_by_lem (sheet x) bytes r h = answer_by_lem x (ensured x.settings x.facts x.plan) bytes r refl h

  pub decision_answered_exactly : (bytes : List ℕ) → (plan_decision s ≡ wrote bytes) ↔ PlanAnswered s bytes
  unfolding plan_decision
  decision_answered_exactly bytes =
      (answered_by_lem (read_plan s) bytes refl, λ p. ap plan_outcome p.reads ∙ ap distributed p.answers ∙ ap wrote (sym p.text))

  -- ---- its bytes

  fits_by : (r : Reading PlanSheet) → read_plan s ≡ r → Fits (plan_outcome r)
  fits_by (turned n l) e = tt
  fits_by (sheet x) e =
      let z = read_sizes s x e in
      ensured_fits x.settings x.facts x.plan z.lines z.few (sized_facts x z)

  pub plan_fits : Fits (plan_decision s)
  unfolding plan_decision
  plan_fits = fits_by (read_plan s) refl
