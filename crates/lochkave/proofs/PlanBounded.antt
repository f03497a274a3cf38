-- A refusal of a D sheet has a number from 1 to 8 and a line of at most 65,537.
-- Assumes nothing.
use Prim.Native.Nat.{ℕ, suc, ◌+◌, ◌≤◌}
use mathlib.Core.Path.{◌≡◌, refl}
use mathlib.Core.Bool.{Bool, true, false, cond, ◌||◌}
use mathlib.Core.Option.{Option, none, some}
use mathlib.Core.List.{List, [], ◌∷◌}
use native.Mathlib.Omega.{arith}
use lib.Dec.{eqb, ltb}
use borrow.Author.Tests.{eqb-true, eqb-false, ltb-false}
use Rattle.text.specs.declared.field.Field.{Field}
use Rattle.text.specs.Text.{parts}
use Rattle.text.specs.Lines.{first_of, next_of}
use Rattle.linekinds.specs.Lines.{Kind, Run, read, refused, most_bytes, fields_fit, too_many_entries, line_number, before, fields_of, rows_of, at_end}
use Rattle.linekinds.specs.KeyLines.{values}
use Rattle.sheet.specs.KeySheets.{Reading, sheet, turned, head_of}
use Rattle.linekinds.proofs.LineNumbers.{line_number_few}
use Rattle.exchange.specs.Trees.{Plan}
use Rattle.exchange.specs.declared.settings.Settings.{Settings}
use Rattle.exchange.specs.Settings.{settings_fit}
use Rattle.exchange.specs.Fit.{facts_fit}
use Rattle.plansheet.specs.PlanLines.{settings_line, plan_line, node_line, child_line, fact_line, mask_line}
use Rattle.plansheet.specs.PlanSheets.{PlanSheet, FactLines, settings_of, plan_of, child_count, with_rows, read_masks, read_children, read_facts, plan_sheet, with_facts, read_plan}

-- ---- a line that is fine ends within the sheet's bytes

none_large : (a b c d e : Bool) → ◌≡◌ {A = ℕ} (cond a (cond b 2 (cond c 3 (cond d 4 (cond e 6 0)))) 2) 0 → c ≡ false
none_large true true c d e h = absurd (omega arith)
none_large true false true d e h = absurd (omega arith)
none_large true false false d e h = refl
none_large false b c d e h = absurd (omega arith)

or_first : (a b : Bool) → (a || b) ≡ false → a ≡ false
or_first true b h = h
or_first false b h = refl

module _ (k : Kind) (seen next : ℕ) where
  fine_within : (x : Option (List Field)) → line_number k seen next x ≡ 0 → next ≤ most_bytes
  unfolding line_number
  fine_within none h = absurd (omega arith)
  fine_within (some fs) h =
      ltb-false most_bytes next
      (or_first (ltb most_bytes next) (too_many_entries k fs || k.large seen fs)
      (none_large (fields_fit k fs) (k.malformed fs) (ltb most_bytes next || (too_many_entries k fs || k.large seen fs)) (k.undefined fs) (k.unfit fs) h))

-- ---- a run of lines

abbrev Within : Run → Type 0
Within (refused n l) = (n ≤ 6) × (l ≤ 65537) × (n ≡ 0 → ⊥)
Within (read rs ls l p) = (l ≤ p + 1) × (p ≤ most_bytes)

before_within : (fs : List Field) (r : Run) → Within r → Within (before fs r)
before_within fs (refused n l) h = h
before_within fs (read rs ls l p) h = h

turn_within : (t : Bool) (n line : ℕ) (fs : List Field) (rest : Run) → n ≤ 6 → line ≤ 65537 → (t ≡ true → Within rest) → (t ≡ false → n ≡ 0 → ⊥)
    → Within (cond t (before fs rest) (refused n line))
turn_within true n line fs rest h l w z = before_within fs rest (w refl)
turn_within false n line fs rest h l w z = (h, l, z refl)

stop_within : (t : Bool) (line at : ℕ) (ls : List (List ℕ)) (r : Run) → line ≤ at + 1 → at ≤ most_bytes → Within r → Within (cond t (read [] ls line at) r)
stop_within true line at ls r h a w = (h, a)
stop_within false line at ls r h a w = w

run_within : (k : Kind) (owed seen line at : ℕ) (ls : List (List ℕ)) → line ≤ at + 1 → at ≤ most_bytes → Within (rows_of k owed seen line at ls)
unfolding rows_of
run_within k owed seen line at [] h a = stop_within (k.stops owed none) line at [] (refused 1 line) h a (omega arith, omega arith, λ z. omega arith)
run_within k owed seen line at (l ∷ ls) h a =
    let x : Option (List Field) = first_of k.letter (l ∷ ls) in
    let next : ℕ = next_of at (l ∷ ls) in
    let n : ℕ = line_number k seen next x in
    let rest : Run = rows_of k (k.owes owed (fields_of x)) (suc seen) (suc line) next ls in
    stop_within (k.stops owed x) line at (l ∷ ls) (cond (eqb n 0) (before (fields_of x) rest) (refused n line)) h a
    (turn_within (eqb n 0) n line (fields_of x) rest (line_number_few k seen next x) (omega arith)
    (λ t. run_within k (k.owes owed (fields_of x)) (suc seen) (suc line) next ls (omega arith) (fine_within k seen next x (eqb-true n 0 t))) (λ t. eqb-false n 0 t))

-- ---- one run after the other

abbrev pub Few : {A : Type 0} → Reading A → Type 0
Few (turned n l) = (n ≤ 8) × (l ≤ 65537) × (n ≡ 0 → ⊥)
Few (sheet x) = Unit {0}

then_few : {A : Type 0} (r : Run) (rest : List (List Field) → ℕ → ℕ → List (List ℕ) → Reading A) → Within r
    → ((rs : List (List Field)) (l p : ℕ) (ls : List (List ℕ)) → l ≤ p + 1 → p ≤ most_bytes → Few (rest rs l p ls)) → Few (with_rows r rest)
then_few (refused n l) rest w h = (omega (arith, w.0), w.1, w.2)
then_few (read rs ls l p) rest w h = h rs l p ls w.0 w.1

end_few : {A : Type 0} (t : Bool) (x : A) (l : ℕ) → l ≤ 65537 → Few (cond t (sheet x) (turned 1 l))
end_few true x l h = tt
end_few false x l h = (omega arith, h, λ z. omega arith)

judged_few : (a b : Bool) (x : PlanSheet) → Few (cond a (cond b (sheet x) (turned 8 0)) (turned 7 0))
judged_few true true x = tt
judged_few true false x = (omega arith, omega arith, λ z. omega arith)
judged_few false b x = (omega arith, omega arith, λ z. omega arith)

masks_few : (b : List Field) (fs xs : List (List Field)) (n line at : ℕ) (ls : List (List ℕ)) → line ≤ at + 1 → at ≤ most_bytes → Few (read_masks b fs xs n line at ls)
unfolding read_masks
masks_few b fs xs n line at ls h a =
    then_few (rows_of (mask_line n) 1 0 line at ls) _ (run_within (mask_line n) 1 0 line at ls h a) (λ ys l p ms i j. end_few (at_end ms) _ l (omega arith))

children_few : (b : List Field) (n line at : ℕ) (ls : List (List ℕ)) → line ≤ at + 1 → at ≤ most_bytes → Few (read_children b n line at ls)
unfolding read_children
children_few b n line at ls h a =
    then_few (rows_of child_line n 0 line at ls) _ (run_within child_line n 0 line at ls h a) (λ fs l p ms i j.
    then_few (rows_of fact_line 0 0 l p ms) _ (run_within fact_line 0 0 l p ms i j) (λ xs l' p' ms' i' j'. masks_few b fs xs n l' p' ms' i' j'))

facts_few : (n line at : ℕ) (ls : List (List ℕ)) → line ≤ at + 1 → at ≤ most_bytes → Few (read_facts n line at ls)
unfolding read_facts
facts_few n line at ls h a =
    then_few (rows_of node_line 1 0 line at ls) _ (run_within node_line 1 0 line at ls h a) (λ bs l p ms i j. children_few (head_of bs) n l p ms i j)

with_few : (d : Settings) (t : Plan) (x : Reading FactLines) → Few x → Few (with_facts d t x)
with_few d t (turned n l) h = h
with_few d t (sheet g) h =
    let x : PlanSheet = plan_sheet d t g in
    judged_few (settings_fit x.settings) (facts_fit x.settings x.facts x.plan) x

pub plan_few : (s : List ℕ) → Few (read_plan s)
unfolding read_plan
plan_few s =
    then_few (rows_of settings_line 1 0 1 0 (parts 10 s)) _ (run_within settings_line 1 0 1 0 (parts 10 s) (omega arith) (omega arith)) (λ ds l p ls i j.
    then_few (rows_of plan_line 1 0 l p ls) _ (run_within plan_line 1 0 l p ls i j) (λ ts l' p' ls' i' j'.
    with_few (settings_of (values (head_of ds))) (plan_of ts) (read_facts (child_count (plan_of ts)) l' p' ls') (facts_few (child_count (plan_of ts)) l' p' ls' i' j')))
