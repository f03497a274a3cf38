-- A D sheet that was read: its lines are fine, they are the text, and the sheet is theirs; and such lines are read.
-- Assumes nothing.
use mathlib.Core.Path.{◌≡◌, refl, ap, ◌∙◌}
use Prim.Native.Nat.{ℕ, ◌+◌, ◌≤◌}
use native.Mathlib.Omega.{arith}
use mathlib.Core.List.{List, ◌++◌}
use mathlib.Core.Bool.{Bool, true, false, cond}
use lib.ListN.{length, length-append}
use Rattle.text.specs.declared.field.Field.{Field}
use Rattle.text.specs.Text.{parts}
use Rattle.text.specs.Lines.{first_of}
use Rattle.text.specs.Write.{line_text}
use Rattle.exchange.specs.Trees.{Plan}
use Rattle.exchange.specs.Settings.{settings_fit}
use Rattle.exchange.specs.Fit.{facts_fit}
use Rattle.linekinds.specs.Lines.{most_bytes, rows_of}
use Rattle.sheet.specs.KeySheets.{Reading, sheet, turned, head_of}
use Rattle.sheet.proofs.InTurn.{Fine}
use Rattle.plansheet.specs.PlanLines.{settings_shape, settings_line, plan_line}
use Rattle.linekinds.specs.KeyLines.{values}
use Rattle.plansheet.specs.PlanSheets.{PlanSheet, FactLines, plan_of, child_count, with_rows, read_facts, plan_sheet, judged_plan, with_facts, read_plan, settings_of}
use Rattle.plansheet.specs.PlanTexts.{lines_text}
use Rattle.plantheorems.proofs.Runs.{Legal, Ran, run_written, run_read}
use Rattle.plantheorems.proofs.PlanKinds.{settings_plain, tree_plain, fixed_each, fixed_count, one_row, first_each, one_text, one_read}
use Rattle.plantheorems.proofs.TreeLaw.{OneTree, tree_law}
use Rattle.plantheorems.proofs.FactsRead.{went, FineFacts, FactsRead, lines_of, facts_read, facts_written}

-- the text of the lines of a sheet
abbrev pub sheet_lines : List Field → List (List Field) → FactLines → List ℕ
sheet_lines d ts g = line_text 68 d ++ (lines_text 84 ts ++ lines_of g)

pub record Accepted (s : List ℕ) (x : PlanSheet) : Type 0 where
  pub head : List Field
  pub tree : List (List Field)
  pub lines : FactLines
  pub fine : Fine settings_line head
  pub one : OneTree tree
  pub facts : FineFacts (child_count (plan_of tree)) lines
  pub text : s ≡ sheet_lines head tree lines
  pub short : length s ≤ most_bytes
  pub is : plan_sheet (settings_of (values head)) (plan_of tree) lines ≡ x
  pub settings : settings_fit x.settings ≡ true
  pub fit : facts_fit x.settings x.facts x.plan ≡ true

-- ---- a sheet that was made

made_at : {A : Type 0} (a b : Bool) (y x : A) → cond a (cond b (sheet y) (turned 8 0)) (turned 7 0) ≡ sheet x → (a ≡ true) × (b ≡ true) × (y ≡ x)
made_at true true y x e = (refl, refl, cc)
made_at true false y x e = absurd (cc)
made_at false b y x e = absurd (cc)

record Made (d : List Field) (t : Plan) (r : Reading FactLines) (x : PlanSheet) : Type 0 where
  lines : FactLines
  was : r ≡ sheet lines
  is : plan_sheet (settings_of (values d)) t lines ≡ x
  settings : settings_fit x.settings ≡ true
  fit : facts_fit x.settings x.facts x.plan ≡ true

made : (d : List Field) (t : Plan) (r : Reading FactLines) (x : PlanSheet) → with_facts (settings_of (values d)) t r ≡ sheet x → Made d t r x
made d t (turned n l) x e = absurd (cc)
made d t (sheet g) x e =
    let y : PlanSheet = plan_sheet (settings_of (values d)) t g in
    let p = made_at (settings_fit y.settings) (facts_fit y.settings y.facts y.plan) y x e in
    let h : plan_sheet (settings_of (values d)) t g ≡ x = p.2 in
    record { lines = g; was = refl; is = h; settings = rw (← h) p.0; fit = rw (← h) p.1 }

-- ---- the lines one run after the other

module _ (s : List ℕ) (x : PlanSheet) where
  accepted_by :
      (ds ts : List (List Field)) (ls ms : List (List ℕ)) (l p k o : ℕ) (r : Ran settings_line 1 0 1 0 s ds ls l p) (q : Ran plan_line 1 0 l p r.rest ts ms k o) → OneTree ts →
      (m : Made (head_of ds) (plan_of ts) (read_facts (child_count (plan_of ts)) k o ms) x) → FactsRead (child_count (plan_of ts)) o q.rest m.lines → Accepted s x
  accepted_by ds ts ls ms l p k o r q one m f =
      let n : length ds ≡ 1 = fixed_count settings_shape _ 1 0 ds r.legal in
      let head : lines_text 68 ds ≡ line_text 68 (head_of ds) = ap (lines_text 68) (one_row ds n) ∙ one_text 68 (head_of ds) in
      record {
        head = head_of ds;
        tree = ts;
        lines = m.lines;
        fine = first_each (Fine settings_line) ds n (fixed_each settings_shape _ 1 0 ds r.legal);
        one = one;
        facts = f.fine;
        text = r.text ∙ (λ j. head j ++ (q.text ∙ ap (λ (ys : List ℕ). lines_text 84 ts ++ ys) f.text) j);
        short =
            omega (arith, f.within (q.within (r.within (omega arith))), r.place, q.place, ap length r.text, ap length q.text, length-append (lines_text 68 ds) r.rest, length-append (lines_text 84 ts) q.rest);
        is = m.is;
        settings = m.settings;
        fit = m.fit;
      }

  pub accepted : read_plan s ≡ sheet x → Accepted s x
  unfolding read_plan
  accepted e =
      let w = went (rows_of settings_line 1 0 1 0 (parts 10 s)) (λ ds l p ls.
      with_rows (rows_of plan_line 1 0 l p ls) (λ ts l p ls. with_facts (settings_of (values (head_of ds))) (plan_of ts) (read_facts (child_count (plan_of ts)) l p ls))) x e in
      let r = run_written settings_line settings_plain 1 0 1 0 s w.rows w.lines w.line w.place w.was in
      let v = went (rows_of plan_line 1 0 w.line w.place w.lines) (λ ts l p ls. with_facts (settings_of (values (head_of w.rows))) (plan_of ts) (read_facts (child_count (plan_of ts)) l p ls)) x w.on in
      let q = run_written plan_line tree_plain 1 0 w.line w.place r.rest v.rows v.lines v.line v.place (rw (← r.lines) v.was) in
      let m = made (head_of w.rows) (plan_of v.rows) (read_facts (child_count (plan_of v.rows)) v.line v.place v.lines) x v.on in
      let f = facts_read (child_count (plan_of v.rows)) v.line v.place q.rest m.lines (rw (← q.lines) m.was) in
      accepted_by w.rows v.rows w.lines v.lines w.line w.place v.line v.place r q
      (tree_law w.line w.place r.rest v.rows v.lines v.line v.place (rw (← r.lines) v.was)) m f

-- ---- and back

pub lines_read :
    (d : List Field) (ts : List (List Field)) (g : FactLines) → Fine settings_line d → Legal plan_line (first_of 84 (parts 10 (lines_of g))) 1 0 ts → FineFacts (child_count (plan_of ts)) g →
    length (sheet_lines d ts g) ≤ most_bytes → read_plan (sheet_lines d ts g) ≡ judged_plan (plan_sheet (settings_of (values d)) (plan_of ts) g)
unfolding read_plan
lines_read d ts g fd legal fg b =
    let l₁ = length-append (line_text 68 d) (lines_text 84 ts ++ lines_of g) in
    let l₂ = length-append (lines_text 84 ts) (lines_of g) in
    let p : ℕ = 0 + length (line_text 68 d) in
    rw (one_read settings_shape settings_plain d fd (lines_text 84 ts ++ lines_of g) 1 0 (omega arith))
    (rw (run_read plan_line tree_plain 1 0 ts (lines_of g) legal 2 p (omega arith))
    (rw (facts_written (child_count (plan_of ts)) g fg (2 + length ts) (p + length (lines_text 84 ts)) (omega arith))))
