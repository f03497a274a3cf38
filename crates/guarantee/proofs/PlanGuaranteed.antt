-- Demand 3 of D sheets: what `decision` answers keeps sentences 3 to 6, where no child whose mark `gains` is 0 is split at its source.
use Prim.Native.Nat.{ℕ}
use mathlib.Core.Path.{◌≡◌, refl, sym, ap, ◌∙◌}
use mathlib.Core.Bool.{Bool, true, not, ◌&&◌, ◌||◌}
use mathlib.Core.List.{List}
use Rattle.exchange.specs.declared.settings.Settings.{Settings}
use Rattle.exchange.specs.Settings.{is_set}
use Rattle.exchange.specs.Facts.{ChildFacts}
use Rattle.exchange.specs.States.{Child}
use Rattle.exchange.specs.Status.{rows_gain}
use Rattle.exchange.specs.Ensure.{Answer, answered, ensured}
use Rattle.exchange.specs.Limits.{NoLimits}
use Rattle.exchange.specs.Worked.{removed}
use Rattle.exchange.specs.Partitioning.{splits_gain, worked_of, children_of}
use Rattle.exchange.proofs.LimitsKept.{removed_unlimited}
use Rattle.exchange.proofs.LimitsOfSheets.{sheet_limits_kept}
use Rattle.sheet.specs.KeySheets.{sheet}
use Rattle.sheet.specs.KeyAnswers.{wrote}
use Rattle.plansheet.specs.PlanSheets.{PlanSheet, read_plan}
use Rattle.plananswer.specs.PlanDecision.{plan_decision}
use Rattle.plantheorems.proofs.PlanRoundTrip.{plan_read_legal}
use Rattle.plantheorems.proofs.SheetTrees.{read_owned, read_one_below}
use Rattle.plantheorems.proofs.PlanDecided.{decision_answered_exactly}
use Rattle.guarantee.specs.Conditions.{SplitsGain}
use Rattle.guarantee.specs.Operators.{worked}
use Rattle.guarantee.specs.Partitioning.{children}
use Rattle.guarantee.specs.Guarantee.{PlanKept, Guaranteed, plan}
use Rattle.guarantee.proofs.SameChildren as marks
use Rattle.exchange.proofs.Remarked.{remarked}
use Rattle.guarantee.proofs.SameChildren.{SameChildren, same_children}
use Rattle.guarantee.proofs.PlanAnswered.{Answered, plan_answered}
use Rattle.guarantee.proofs.Operators.{plan_operators_kept}
use Rattle.guarantee.proofs.Limits.{limits_kept}
use Rattle.guarantee.proofs.Partitioning.{plan_partitioning_had}
use Rattle.guarantee.proofs.Together.{plan_together}
use Rattle.guarantee.proofs.Bared.{shown, shown_text, shown_needs, shown_kept}

-- nothing that is taken off above the worked node has a limit: demand 3's third condition holds of every sheet
pub nothing_taken : (x : PlanSheet) → NoLimits (removed x.plan)
nothing_taken x = removed_unlimited x.plan

-- the condition on splits reads F lines only
same_gain : (s : Settings) (cs ks : List Child) → SameChildren cs ks → splits_gain s ks ≡ splits_gain s cs
unfolding splits_gain
same_gain s cs ks marks.over = refl
same_gain s cs ks (marks.beside {c = c} {d = k} {cs = cs'} {ds = ks'} h r) =
    ap (λ (f : ChildFacts). (not (is_set s.split && (rows_gain s f && is_set f.splits)) || is_set f.gains) && splits_gain s ks') h.facts
    ∙ ap (λ (b : Bool). (not (is_set s.split && (rows_gain s c.facts && is_set c.facts.splits)) || is_set c.facts.gains) && b) (same_gain s cs' ks' r)

module _ (s : List ℕ) (x : PlanSheet) (reads : read_plan s ≡ sheet x) (gains : splits_gain x.settings (children x) ≡ true)
    (r : Answer) (e : ensured x.settings x.facts x.plan ≡ answered r) where
  is_answered : Answered x r
  is_answered =
      plan_answered s x reads
      (same_gain x.settings (children x) (children_of x.facts x.plan) (same_children (worked x) (worked_of x.plan) x.facts.children (remarked x.plan)) ∙ gains)
      r e

  plan_kept : PlanKept x r
  plan_kept = record {
    operators = plan_operators_kept x r e is_answered;
    limits = limits_kept x.plan r.plan (read_owned s x reads) (sheet_limits_kept x.settings x.facts x.plan r (read_owned s x reads) (read_one_below s x reads) e);
    partitioning = plan_partitioning_had x r is_answered;
    together = plan_together x r (plan_read_legal s x reads).fit is_answered;
  }

pub plan_guaranteed : (s a : List ℕ) → plan_decision s ≡ wrote a → SplitsGain s → Guaranteed s a
plan_guaranteed s a e gains =
    let p = (decision_answered_exactly s a).0 e in
    plan p.is (shown p.answer) p.reads (p.text ∙ sym (shown_text p.answer)) (shown_needs p.answer)
    (shown_kept p.is p.answer (plan_kept s p.is p.reads (gains p.is p.reads) p.answer p.answers))
