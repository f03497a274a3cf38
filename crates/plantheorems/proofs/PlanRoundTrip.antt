-- Reading and writing D sheets are inverse, and a sheet is read exactly from the text of a legal one.
-- Assumes nothing.
use mathlib.Core.Path.{◌≡◌, sym, ap, subst, ◌∙◌}
use mathlib.Core.Logic.{◌↔◌}
use Prim.Native.Nat.{ℕ}
use native.Mathlib.Omega.{arith}
use mathlib.Core.List.{List, ◌++◌}
use lib.ListN.{length-map}
use Rattle.text.specs.declared.field.Field.{Field}
use Rattle.text.specs.Text.{parts}
use Rattle.text.specs.Lines.{first_of}
use Rattle.exchange.specs.Trees.{Plan}
use Rattle.exchange.specs.Facts.{Facts}
use Rattle.exchange.specs.Settings.{settings_fit}
use Rattle.exchange.specs.Fit.{facts_fit}
use Rattle.linekinds.specs.KeyLines.{values}
use Rattle.sheet.specs.KeySheets.{sheet}
use Rattle.sheet.proofs.LegalRows.{values_numbers}
use Rattle.plansheet.specs.PlanSheets.{PlanSheet, FactLines, plan_of, child_count, facts_of, plan_sheet, judged_plan, read_plan, settings_of}
use Rattle.plansheet.specs.PlanTexts.{number_fields, settings_numbers, tree_rows, node_numbers, child_fields, fact_fields, lines_text, facts_text, plan_text}
use Rattle.text.specs.Write.{line_text}
use Rattle.plantheorems.specs.Everywhere.{places_from}
use Rattle.plantheorems.specs.LegalPlans.{LegalFacts, LegalPlan}
use Rattle.plantheorems.proofs.TreeText.{plan_back, whole_legal}
use Rattle.plantheorems.proofs.FactsRead.{FineFacts, lines_of}
use Rattle.plantheorems.proofs.LineValues.{settings_again, node_again, children_again, rows_again, masks_again, settings_legal, node_legal, children_legal, rows_legal, masks_small, masks_count, settings_fit_lem, settings_fine, node_fine, children_fine, rows_fine, masks_fine, children_back, rows_back}
use Rattle.plantheorems.proofs.PlanAccepted.{accepted, lines_read}

-- ---- what was read is written as it stood

facts_again : (n : ℕ) (g : FactLines) → FineFacts n g → facts_text (facts_of g) ≡ lines_of g
unfolding facts_text
facts_again n g f =
    λ j. line_text 66 (node_again g.node f.node j)
    ++ (lines_text 70 (children_again g.children f.children j) ++ (lines_text 88 (rows_again g.rows f.rows j) ++ line_text 89 (masks_again n g.masks f.masks j)))

pub plan_written_again : (s : List ℕ) (x : PlanSheet) → read_plan s ≡ sheet x → plan_text x ≡ s
unfolding plan_text
plan_written_again s x e =
    let a = accepted s x e in
    ap plan_text (sym a.is)
    ∙ (λ j. line_text 68 (settings_again a.head a.fine j) ++ (lines_text 84 (a.one.again j) ++ facts_again (child_count (plan_of a.tree)) a.lines a.facts j))
    ∙ sym a.text

-- ---- a legal sheet is read from its text

-- the lines of facts
abbrev lines_for : Facts → FactLines
lines_for f = record { node = number_fields (node_numbers f.node); children = child_fields f.children; rows = fact_fields f.rows; masks = number_fields f.masks }

facts_fine : (n : ℕ) (f : Facts) → LegalFacts n f → FineFacts n (lines_for f)
facts_fine n f l = record {
  node = node_fine f.node l.node;
  children = children_fine f.children l.children;
  counted = length-map f.children _ ∙ l.counted;
  rows = rows_fine f.rows l.rows;
  masks = masks_fine n f.masks l.sets l.masks;
}

facts_back : (f : Facts) → facts_of (lines_for f) ≡ f
facts_back f = λ j. record { node = f.node; children = children_back f.children j; rows = rows_back f.rows j; masks = values_numbers f.masks j }

pub plan_read_again : (x : PlanSheet) → LegalPlan x → read_plan (plan_text x) ≡ sheet x
unfolding plan_text facts_text
plan_read_again x l =
    let d : List Field = number_fields (settings_numbers x.settings) in
    let ts : List (List Field) = tree_rows x.plan in
    let g : FactLines = lines_for x.facts in
    let t : plan_of ts ≡ x.plan = plan_back x.plan l.operators l.numbered in
    let fine : FineFacts (child_count (plan_of ts)) g = subst (λ (u : Plan). FineFacts (child_count u) g) (sym t) (facts_fine (child_count x.plan) x.facts l.facts) in
    let is : plan_sheet (settings_of (values d)) (plan_of ts) g ≡ x = λ j. record { settings = x.settings; plan = t j; facts = facts_back x.facts j } in
    lines_read d ts g (settings_fine x.settings l.settings) (whole_legal (first_of 84 (parts 10 (lines_of g))) x.plan l.operators l.few) fine l.bytes
    ∙ ap judged_plan is
    ∙ rw (settings_fit_lem x.settings l.settings, l.fit)

-- ---- what was read is legal

facts_legal : (n : ℕ) (g : FactLines) → FineFacts n g → LegalFacts n (facts_of g)
facts_legal n g f = record {
  node = node_legal g.node f.node;
  counted = length-map g.children _ ∙ f.counted;
  children = children_legal g.children f.children;
  rows = rows_legal g.rows f.rows;
  sets = masks_count n g.masks f.masks;
  masks = masks_small n g.masks f.masks;
}

pub plan_read_legal : (s : List ℕ) (x : PlanSheet) → read_plan s ≡ sheet x → LegalPlan x
plan_read_legal s x e =
    let a = accepted s x e in
    let y : PlanSheet = plan_sheet (settings_of (values a.head)) (plan_of a.tree) a.lines in
    let h : y ≡ x = a.is in
    let t : plan_text y ≡ s = ap plan_text h ∙ plan_written_again s x e in
    let o = a.one in
    subst LegalPlan h (record {
      settings = settings_legal a.head a.fine (ap (λ (z : PlanSheet). settings_fit z.settings) h ∙ a.settings);
      operators = o.operators;
      numbered = o.numbered ∙ ap (places_from 1) (sym o.long);
      few = omega (arith, o.few, o.long);
      facts = facts_legal (child_count (plan_of a.tree)) a.lines a.facts;
      fit = ap (λ (z : PlanSheet). facts_fit z.settings z.facts z.plan) h ∙ a.fit;
      bytes = rw t a.short;
    })

-- ---- so a sheet is read exactly from the text of a legal one

pub plan_read_exactly : (s : List ℕ) (x : PlanSheet) → (read_plan s ≡ sheet x) ↔ (LegalPlan x × (plan_text x ≡ s))
plan_read_exactly s x = (λ e. (plan_read_legal s x e, plan_written_again s x e), λ h. ap read_plan (sym h.1) ∙ plan_read_again x h.0)
