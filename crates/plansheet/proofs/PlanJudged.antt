-- A sheet of settings, tree and facts judged: target and batch first, then whether the facts fit the tree.
-- Assumes nothing.
use mathlib.Core.Path.{◌≡◌, refl, sym, ◌∙◌}
use mathlib.Core.Bool.{Bool, true, false, cond}
use Prim.Native.Nat.{ℕ}
use native.Mathlib.Omega.{arith}
use lib.ListN.{length, length-map}
use Rattle.exchange.specs.Trees.{Plan}
use Rattle.exchange.specs.declared.settings.Settings.{Settings}
use Rattle.std.specs.Prelude.{Some, None}
use Rattle.exchange.specs.Settings.{settings_fit, checked}
use Rattle.exchange.specs.FactRows.{fact_row}
use Rattle.exchange.specs.Fit.{facts_fit}
use Rattle.exchange.specs.Rows.{flatten}
use Rattle.exchange.specs.Worked.{removed}
use Rattle.linekinds.specs.KeyLines.{values}
use Rattle.sheet.specs.KeySheets.{sheet, turned}
use Rattle.plansheet.specs.PlanSheets.{PlanSheet, FactLines, child_count, facts_of, plan_sheet, judged_plan}
use Rattle.plansheet.specs.PlanRooms.{plan_by}
use Rattle.std.specs.Prelude.{Ok, Err}
use Rattle.sheet.specs.SheetLines.{refused_on}
use Rattle.plansheet.specs.declared.plan.Plan as P

abbrev held_of : Settings → ℕ → ℕ → ℕ → ℕ → P.Plan
held_of s lines worked children n = record { settings = s; lines = lines; worked = worked; children = children; rows = n }

checked_at : (t : Bool) (s : Settings) (x : Settings) → Some x ≡ cond t (Some s) None → (t ≡ true) × (x ≡ s)
checked_at true s x e = (refl, cc)
checked_at false s x e = let z : ◌≡◌ {A = ℕ} 0 1 = cc in absurd (omega arith)

pub settings_fine : (s x : Settings) → Some x ≡ checked s → (settings_fit s ≡ true) × (x ≡ s)
unfolding checked
settings_fine s x e = checked_at (settings_fit s) s x e

out_at : (t : Bool) (s : Settings) → None ≡ cond t (Some s) None → t ≡ false
out_at true s e = let z : ◌≡◌ {A = ℕ} 0 1 = cc in absurd (omega arith)
out_at false s e = refl

pub settings_out : (s : Settings) → None ≡ checked s → settings_fit s ≡ false
unfolding checked
settings_out s e = out_at (settings_fit s) s e

module _ (s : Settings) (t : Plan) (g : FactLines) where
  pub judge_seven : settings_fit s ≡ false → Err (refused_on 7 0) ≡ plan_by (judged_plan (plan_sheet s t g))
  judge_seven e = rw e

  module _ (e : settings_fit s ≡ true) where
    pub judge_eight : facts_fit s (facts_of g) t ≡ false → Err (refused_on 8 0) ≡ plan_by (judged_plan (plan_sheet s t g))
    judge_eight f = rw (e, f)

    pub judge_held :
        facts_fit s (facts_of g) t ≡ true → (x : Settings) (lines worked children n : ℕ) → x ≡ s → lines ≡ length (flatten t) → worked ≡ length (removed t) → children ≡ child_count t →
        n ≡ length g.rows → Ok (held_of x lines worked children n) ≡ plan_by (judged_plan (plan_sheet s t g))
    judge_held f x lines worked children n a b c d h =
        rw (e, f) (λ i. Ok (held_of (a i) (b i) (c i) (d i) ((h ∙ sym (length-map g.rows (λ fs. fact_row (values fs)))) i)))

  judged_at : (a b : Bool) (x : PlanSheet) → cond a (cond b (sheet (plan_sheet s t g)) (turned 8 0)) (turned 7 0) ≡ sheet x → plan_sheet s t g ≡ x
  judged_at true true x e = cc
  judged_at true false x e = let z : ◌≡◌ {A = ℕ} 0 1 = cc in absurd (omega arith)
  judged_at false b x e = let z : ◌≡◌ {A = ℕ} 0 1 = cc in absurd (omega arith)

  pub judged_is : (x : PlanSheet) → judged_plan (plan_sheet s t g) ≡ sheet x → plan_sheet s t g ≡ x
  judged_is x e = judged_at (settings_fit s) (facts_fit s (facts_of g) t) x e
