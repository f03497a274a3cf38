-- The outcome of `ensure_distribution` on rows, as the outcome of a sheet: refusals 9 and 11, or the answer's bytes.
-- Assumes nothing.
use Prim.Native.Nat.{ℕ, ◌≤◌}
use mathlib.Core.Path.{◌≡◌, refl, sym, ap}
use mathlib.Core.List.{List}
use native.Mathlib.Omega.{arith}
use lib.ListN.{length, take}
use Rattle.std.specs.Prelude.{Result, Ok, Err}
use Rattle.sheet.specs.KeyAnswers.{wrote}
use Rattle.refusals.specs.declared.Refused.{Refused}
use Rattle.sheet.specs.SheetLines.{refused_on}
use Rattle.sheet.specs.Outcomes.{within, Writes}
use Rattle.exchange.specs.Rows.{flatten}
use Rattle.exchange.specs.Ensure.{Answer, Ensured as Decided, missing_row, unenforceable, answered}
use Rattle.ensure.specs.declared.outcome.Answered.{Answered}
use Rattle.exchange.specs.declared.relationship.Unenforced.{Unenforced}
use Rattle.exchange.specs.declared.relationship.Unenforced.TheVariants.{Stuck, Missing}
use Rattle.ensure.specs.Outcomes.{Ensured, Ends, refusal}
use Rattle.plananswer.specs.PlanTexts.{plan_answer_text, distributed}
use Rattle.plananswer.specs.RowTexts.{rows_text}
use Rattle.plananswer.proofs.RowLines.{stored_answer}

-- a tree that cannot be had is turned back
pub gives_refused : (e : Decided) (r : Ensured) (d d₁ : List (List ℕ)) (w : Unenforced) → Ends e r d d₁ → r ≡ Err w → (room : ℕ) (out : List ℕ) (f : Refused)
    → f ≡ refused_on (refusal (Err w)) 0 → Writes (within room (distributed e)) (Err f) out out
gives_refused missing_row r d d₁ Missing h m room out f k = (ap Err k, refl)
gives_refused missing_row r d d₁ Stuck h m room out f k = absurd (let p = h.0 in let y : ◌≡◌ {A = ℕ} 0 1 = cc in omega arith)
gives_refused unenforceable r d d₁ Missing h m room out f k = absurd (let p = h.0 in let y : ◌≡◌ {A = ℕ} 0 1 = cc in omega arith)
gives_refused unenforceable r d d₁ Stuck h m room out f k = (ap Err k, refl)
gives_refused (answered a) r d d₁ w h m room out f k = absurd (let p = h.0 in let y : ◌≡◌ {A = ℕ} 0 1 = cc in omega arith)

module _ (r : Ensured) (done : Answered) (is : r ≡ Ok done) where
  pub answered_lines : (e : Decided) (d d₁ : List (List ℕ)) (room : ℕ) → Ends e r d d₁ → ((a : Answer) → e ≡ answered a → length (flatten a.plan) ≤ room) → done.lines ≤ room
  answered_lines missing_row d d₁ room h fits = absurd (let p = h.0 in let y : ◌≡◌ {A = ℕ} 0 1 = cc in omega arith)
  answered_lines unenforceable d d₁ room h fits = absurd (let p = h.0 in let y : ◌≡◌ {A = ℕ} 0 1 = cc in omega arith)
  answered_lines (answered a) d d₁ room h fits =
      let p = h.0 in
      let m : done.lines ≡ length (flatten a.plan) = cc in
      omega (arith, m, fits a refl)

  pub gives_answered : (e : Decided) (d d₁ : List (List ℕ)) (room : ℕ) (x : Result ℕ Refused) (out out₁ : List ℕ) → Ends e r d d₁ → done.lines ≤ length d
      → Writes (within room (wrote (rows_text done.changed done.window done.interleave done.tracked (take done.lines d₁)))) x out out₁ → Writes (within room (distributed e)) x out out₁
  gives_answered missing_row d d₁ room x out out₁ h l g = absurd (let p = h.0 in let y : ◌≡◌ {A = ℕ} 0 1 = cc in omega arith)
  gives_answered unenforceable d d₁ room x out out₁ h l g = absurd (let p = h.0 in let y : ◌≡◌ {A = ℕ} 0 1 = cc in omega arith)
  gives_answered (answered a) d d₁ room x out out₁ h l g =
      let p = h.0 in
      let c : done.changed ≡ a.changed = cc in
      let w : done.window ≡ a.window = cc in
      let i : done.interleave ≡ a.interleave = cc in
      let k : done.tracked ≡ a.tracked = cc in
      let m : done.lines ≡ length (flatten a.plan) = cc in
      let text : rows_text done.changed done.window done.interleave done.tracked (take done.lines d₁) ≡ plan_answer_text a = rw (c, w, i, k) (stored_answer a d d₁ done.lines h.1 m l) in
      rw (sym text) g
