-- A D sheet is turned back by the first wrong line, or else where settings, then facts do not fit; and accepted exactly when none of these holds.
-- Assumes nothing.
use mathlib.Core.Path.{◌≡◌, refl, sym, ap, ◌∙◌}
use mathlib.Core.Logic.{inl, inr, ◌↔◌}
use Prim.Native.Nat.{ℕ, suc}
use mathlib.Core.List.{List, [], ◌∷◌, ◌++◌}
use mathlib.Core.Bool.{Bool, true, false, cond}
use lib.Dec.{eqb}
use lib.ListN.{length, drop}
use Rattle.text.specs.declared.field.Field.{Field}
use Rattle.text.specs.Text.{parts}
use Rattle.text.specs.Lines.{first_of}
use Rattle.exchange.specs.Trees.{Plan}
use Rattle.linekinds.specs.Lines.{Kind, Run, read, refused, rows_of, fields_of, at_end}
use Rattle.sheet.specs.KeySheets.{Reading, sheet, turned, head_of, ended}
use Rattle.sheet.specs.SheetLines.{in_turn}
use Rattle.sheet.specs.Refusals.{line_rows, NoLine, FirstLine, TurnedBack}
use Rattle.sheet.proofs.Refused.{judged, turn_judged, refused_exactly, accepted_exactly}
use Rattle.plansheet.specs.PlanLines.{settings_shape, settings_line, plan_line, node_shape, node_line, child_line, fact_line, mask_shape, mask_line}
use Rattle.linekinds.specs.KeyLines.{values}
use Rattle.plansheet.specs.PlanSheets.{PlanSheet, FactLines, plan_of, child_count, with_rows, read_masks, read_children, read_facts, plan_sheet, judged_plan, with_facts, read_plan, settings_of}
use Rattle.plantheorems.specs.RunKinds.{run_kinds}
use Rattle.plantheorems.specs.PlanRefusals.{fact_kinds, fact_lines_in, tree_kinds, plan_in, after_tree, plan_kinds, plan_numbers, plan_sheet_in, plan_settings_fit, plan_facts_fit, PlanTurned}
use Rattle.plantheorems.proofs.RunTurns.{run_in_turn, one_in_turn, with_turn}
use Rattle.plantheorems.proofs.FactsRead.{fact_lines_of}

-- ---- the lines after the tree, in turn

module _ (n : ℕ) where
  masks_in_turn :
      (b : List Field) (fs xs : List (List Field)) (l p : ℕ) (ls : List (List ℕ)) →
      read_masks b fs xs n l p ls ≡ ended (λ rs. sheet (fact_lines_of b fs xs (fields_of (first_of 89 ls)))) (in_turn (mask_line n ∷ []) l p ls)
  unfolding read_masks in_turn line_rows
  masks_in_turn b fs xs l p ls =
      let c : Reading FactLines = sheet (fact_lines_of b fs xs (fields_of (first_of 89 ls))) in
      rw (one_in_turn (mask_shape n) l p ls)
      (with_turn c (mask_line n ∷ []) [] (λ ys l p ls. cond (at_end ls) (sheet (fact_lines_of b fs xs (head_of ys))) (turned 1 l)) l p ls (λ l p. refl))

  module _ (ms : List (List ℕ)) where
    abbrev F : List Kind
    F = run_kinds child_line n 0 ms

    abbrev X : List Kind
    X = run_kinds fact_line 0 0 (drop (length F) ms)

    abbrev made : List Field → FactLines
    made b = fact_lines_of b (line_rows F ms) (line_rows X (drop (length F) ms)) (fields_of (first_of 89 (drop (length X) (drop (length F) ms))))

    children_in_turn : (b : List Field) (l p : ℕ) → read_children b n l p ms ≡ ended (λ rs. sheet (made b)) (in_turn (F ++ (X ++ (mask_line n ∷ []))) l p ms)
    unfolding read_children
    children_in_turn b l p =
        let c : Reading FactLines = sheet (made b) in
        let fs : List (List Field) = line_rows F ms in
        rw (run_in_turn child_line n 0 l p ms)
        (with_turn c F (X ++ (mask_line n ∷ [])) (λ fs l p ls. with_rows (rows_of fact_line 0 0 l p ls) (λ xs l p ls. read_masks b fs xs n l p ls)) l p ms
        (λ l p. ap (λ (r : Run). with_rows r (λ xs l p ls. read_masks b fs xs n l p ls)) (run_in_turn fact_line 0 0 l p (drop (length F) ms))
        ∙ with_turn c X (mask_line n ∷ []) (λ xs l p ls. read_masks b fs xs n l p ls) l p (drop (length F) ms)
        (λ l p. masks_in_turn b fs (line_rows X (drop (length F) ms)) l p (drop (length X) (drop (length F) ms)))))

  facts_in_turn : (l p : ℕ) (ls : List (List ℕ)) → read_facts n l p ls ≡ ended (λ rs. sheet (fact_lines_in n ls)) (in_turn (fact_kinds n ls) l p ls)
  unfolding read_facts line_rows
  facts_in_turn l p ls =
      rw (one_in_turn node_shape l p ls)
      (with_turn (sheet (fact_lines_in n ls)) (node_line ∷ []) (F (drop 1 ls) ++ (X (drop 1 ls) ++ (mask_line n ∷ []))) (λ bs l p ls. read_children (head_of bs) n l p ls) l p ls
      (λ l p. children_in_turn (drop 1 ls) (fields_of (first_of 66 ls)) l p))

-- ---- the sheet

ended_at : (t : Bool) (d : List Field) (u : Plan) (g : FactLines) (l : ℕ) → with_facts (settings_of (values d)) u (cond t (sheet g) (turned 1 l)) ≡ cond t (judged_plan (plan_sheet (settings_of (values d)) u g)) (turned 1 l)
ended_at true d u g l = refl
ended_at false d u g l = refl

facts_ended : (d : List Field) (u : Plan) (g : FactLines) (r : Run) → with_facts (settings_of (values d)) u (ended (λ rs. sheet g) r) ≡ ended (λ rs. judged_plan (plan_sheet (settings_of (values d)) u g)) r
facts_ended d u g (refused n l) = refl
facts_ended d u g (read rs ls l p) = ended_at (at_end ls) d u g l

module _ (s : List ℕ) where
  plan_in_turn : read_plan s ≡ ended (λ rs. judged_plan (plan_sheet_in s)) (in_turn (plan_kinds s) 1 0 (parts 10 s))
  unfolding read_plan line_rows plan_sheet_in
  plan_in_turn =
      let ls : List (List ℕ) = parts 10 s in
      let d : List Field = fields_of (first_of 68 ls) in
      let c : Reading PlanSheet = judged_plan (plan_sheet (settings_of (values d)) (plan_in s) (fact_lines_in (child_count (plan_in s)) (after_tree s))) in
      rw (one_in_turn settings_shape 1 0 ls)
      (with_turn c (settings_line ∷ []) (tree_kinds s ++ fact_kinds (child_count (plan_in s)) (after_tree s))
      (λ ds l p ls. with_rows (rows_of plan_line 1 0 l p ls) (λ ts l p ls. with_facts (settings_of (values (head_of ds))) (plan_of ts) (read_facts (child_count (plan_of ts)) l p ls))) 1 0 ls
      (λ l p. ap (λ (r : Run). with_rows r (λ ts l p ls. with_facts (settings_of (values d)) (plan_of ts) (read_facts (child_count (plan_of ts)) l p ls))) (run_in_turn plan_line 1 0 l p (drop 1 ls))
      ∙ with_turn c (tree_kinds s) (fact_kinds (child_count (plan_in s)) (after_tree s)) (λ ts l p ls. with_facts (settings_of (values d)) (plan_of ts) (read_facts (child_count (plan_of ts)) l p ls)) l p (drop 1 ls)
      (λ l p. ap (with_facts (settings_of (values d)) (plan_in s)) (facts_in_turn (child_count (plan_in s)) l p (after_tree s))
      ∙ facts_ended d (plan_in s) (fact_lines_in (child_count (plan_in s)) (after_tree s)) (in_turn (fact_kinds (child_count (plan_in s)) (after_tree s)) l p (after_tree s)))))

  plan_judged : read_plan s ≡ judged 1 (plan_numbers s) (judged_plan (plan_sheet_in s))
  unfolding plan_numbers
  plan_judged = plan_in_turn ∙ turn_judged (λ rs. judged_plan (plan_sheet_in s)) (plan_kinds s) 1 0 (parts 10 s)

-- ---- a reading of lines, and what the whole sheet is asked

abbrev then : {A B : Type 0} → Reading A → (A → Reading B) → Reading B
then (sheet x) f = f x
then (turned n l) f = turned n l

then_at : {A B : Type 0} (t : Bool) (f : A → Reading B) (r : Reading A) (q : Reading B) (n l : ℕ) → q ≡ then r f → cond t q (turned n l) ≡ then (cond t r (turned n l)) f
then_at true f r q n l e = e
then_at false f r q n l e = refl

judged_then : {A B : Type 0} (f : A → Reading B) (y : A) (line : ℕ) (ns : List ℕ) → judged line ns (f y) ≡ then (judged line ns (sheet y)) f
unfolding judged
judged_then f y line [] = refl
judged_then f y line (n ∷ ns) = then_at (eqb n 0) f (judged (suc line) ns (sheet y)) (judged (suc line) ns (f y)) n line (judged_then f y (suc line) ns)

module _ (s : List ℕ) where
  abbrev from_lines : Reading PlanSheet
  from_lines = judged 1 (plan_numbers s) (sheet (plan_sheet_in s))

  plan_then : read_plan s ≡ then from_lines judged_plan
  plan_then = plan_judged s ∙ judged_then judged_plan (plan_sheet_in s) 1 (plan_numbers s)

  first_line : (n l : ℕ) → TurnedBack (plan_numbers s) true n l → FirstLine 1 (plan_numbers s) n l
  first_line n l (inl f) = f
  first_line n l (inr w) = let e = w.unfit in absurd (cc)

  by_line : (n l : ℕ) → from_lines ≡ turned n l → FirstLine 1 (plan_numbers s) n l
  by_line n l e = first_line n l ((refused_exactly from_lines (plan_numbers s) true (plan_sheet_in s) refl n l).0 e)

  no_line : (x : PlanSheet) → from_lines ≡ sheet x → NoLine (plan_numbers s) × (plan_sheet_in s ≡ x)
  no_line x e = let p = (accepted_exactly from_lines (plan_numbers s) true (plan_sheet_in s) refl x).0 e in (p.0, p.2)

  all_lines : NoLine (plan_numbers s) → read_plan s ≡ judged_plan (plan_sheet_in s)
  all_lines h = plan_then ∙ ap (λ (r : Reading PlanSheet). then r judged_plan) ((accepted_exactly from_lines (plan_numbers s) true (plan_sheet_in s) refl (plan_sheet_in s)).1 (h, refl, refl))

  -- ---- refused

  sheet_by_lem : (a b : Bool) (n l : ℕ) → NoLine (plan_numbers s) → plan_settings_fit s ≡ a → plan_facts_fit s ≡ b → cond a (cond b (sheet (plan_sheet_in s)) (turned 8 0)) (turned 7 0) ≡ turned n l → PlanTurned s n l
  sheet_by_lem true true n l h p q e = absurd (cc)
  sheet_by_lem true false n l h p q e = inr (inr (record { lines = h; settings = p; unfit = q; number = cc; line = cc }))
  sheet_by_lem false b n l h p q e = inr (inl (record { lines = h; unfit = p; number = cc; line = cc }))

  turned_by : (r : Reading PlanSheet) (n l : ℕ) → from_lines ≡ r → then r judged_plan ≡ turned n l → PlanTurned s n l
  turned_by (turned m k) n l q e =
      let a : m ≡ n = cc in
      let b : k ≡ l = cc in
      inl (by_line n l (q ∙ rw (a, b)))
  turned_by (sheet x) n l q e =
      let p = no_line x q in
      sheet_by_lem (plan_settings_fit s) (plan_facts_fit s) n l p.0 refl refl (ap judged_plan p.1 ∙ e)

  refuses : (n l : ℕ) → PlanTurned s n l → read_plan s ≡ turned n l
  refuses n l (inl f) = plan_then ∙ ap (λ (r : Reading PlanSheet). then r judged_plan) ((refused_exactly from_lines (plan_numbers s) true (plan_sheet_in s) refl n l).1 (inl f))
  refuses n l (inr (inl o)) = all_lines o.lines ∙ rw (o.unfit, o.number, o.line)
  refuses n l (inr (inr u)) = all_lines u.lines ∙ rw (u.settings, u.unfit, u.number, u.line)

  -- with a number and a line exactly where the sheet is wrong there
  pub plan_refused_exactly : (n l : ℕ) → (read_plan s ≡ turned n l) ↔ PlanTurned s n l
  plan_refused_exactly n l = (λ e. turned_by from_lines n l refl (sym plan_then ∙ e), refuses n l)

  -- ---- accepted

  made_at : (a b : Bool) (x : PlanSheet) → plan_settings_fit s ≡ a → plan_facts_fit s ≡ b → cond a (cond b (sheet (plan_sheet_in s)) (turned 8 0)) (turned 7 0) ≡ sheet x → (plan_settings_fit s ≡ true) × (plan_facts_fit s ≡ true) × (plan_sheet_in s ≡ x)
  made_at true true x p q e = (p, q, cc)
  made_at true false x p q e = absurd (cc)
  made_at false b x p q e = absurd (cc)

  taken_by :
      (r : Reading PlanSheet) (x : PlanSheet) → from_lines ≡ r → then r judged_plan ≡ sheet x →
      NoLine (plan_numbers s) × (plan_settings_fit s ≡ true) × (plan_facts_fit s ≡ true) × (plan_sheet_in s ≡ x)
  taken_by (turned m k) x q e = absurd (cc)
  taken_by (sheet y) x q e =
      let p = no_line y q in
      let m = made_at (plan_settings_fit s) (plan_facts_fit s) x refl refl (ap judged_plan p.1 ∙ e) in
      (p.0, m.0, m.1, m.2)

  -- exactly where nothing is wrong, and then it is the sheet of its lines
  pub plan_accepted_exactly : (x : PlanSheet) → (read_plan s ≡ sheet x) ↔ (NoLine (plan_numbers s) × (plan_settings_fit s ≡ true) × (plan_facts_fit s ≡ true) × (plan_sheet_in s ≡ x))
  plan_accepted_exactly x = (λ e. taken_by from_lines x refl (sym plan_then ∙ e), λ h. all_lines h.0 ∙ rw (h.1, h.2, h.3))
