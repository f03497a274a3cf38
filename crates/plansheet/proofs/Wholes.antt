-- The lines of a D sheet one run after the other: what each reader answers, of what follows it.
-- Assumes nothing.
use mathlib.Core.Path.{◌≡◌, refl, sym, ap, ◌∙◌}
use mathlib.Core.List.{List}
use mathlib.Core.Bool.{Bool, true, false, cond}
use Prim.Native.Nat.{ℕ, ◌+◌, ◌≤◌, ◌<◌}
use native.Mathlib.Omega.{arith}
use native.Mathlib.Numerals.{add-one}
use lib.ListN.{length, drop}
use lib.Seq.{sets}
use Rattle.text.specs.declared.field.Field.{Field}
use Rattle.text.specs.Text.{parts, line_at, after}
use Rattle.text.proofs.Places.{bridge}
use Rattle.linekinds.specs.Lines.{Run, read, refused, line_number, fields_of, rows_of, at_end}
use Rattle.linekinds.specs.KeyLines.{values}
use Rattle.linekinds.specs.Reading.{read_by}
use Rattle.linekinds.specs.declared.line.Read.TheVariants as L
use Rattle.std.specs.Prelude.{Ok, Err}
use Rattle.refusals.specs.declared.Refusal.{Refusal}
use Rattle.refusals.specs.declared.Refused.{Refused}
use Rattle.sheet.specs.KeySheets.{Reading, sheet, turned, head_of}
use Rattle.plansheet.specs.PlanLines.{settings_shape, settings_line, node_shape, node_line, child_line, fact_line, mask_shape, mask_line, plan_line, two_to}
use Rattle.plansheet.specs.PlanSheets.{FactLines, operator_rows, with_rows, read_masks, read_children, read_facts}
use Rattle.plansheet.specs.ReadRows.{number_rows, run_from, Left}
use Rattle.plansheet.specs.ReadPlans.{tree_run, head_line, facts_by, whole_by, TreeLeft, MasksHeld, ChildrenHeld, FactsHeld}
use Rattle.plansheet.proofs.Turns.{Taken}
use Rattle.plansheet.proofs.Singles.{single_refused, single_read, more_follows, none_follows, Opened}

-- the lines from a place on
abbrev pub lines_at : List ℕ → ℕ → List (List ℕ)
lines_at s p = parts 10 (drop p s)

abbrev pub fact_lines_of : List Field → List (List Field) → List (List Field) → List Field → FactLines
fact_lines_of b fs xs y = record { node = b; children = fs; rows = xs; masks = y }

-- ---- Y

module _ (s : List ℕ) (n l p : ℕ) (b : List Field) (fs xs : List (List Field)) where
  pub masks_back : (m : Refusal) → L.Refused m ≡ read_by (line_number (mask_line n) 0 (after s p) (line_at 89 s p)) (after s p) (line_at 89 s p) → read_masks b fs xs n l p (lines_at s p) ≡ turned (line_number (mask_line n) 0 (after s p) (line_at 89 s p)) l
  unfolding read_masks
  masks_back m e = rw (single_refused (mask_shape n) s l p m e)

  module _ (count next : ℕ) (t : Taken (mask_line n) 0 (after s p) (line_at 89 s p) count next) where
    pub masks_extra : next < length s → read_masks b fs xs n l p (lines_at s p) ≡ turned 1 (l + 1)
    unfolding read_masks
    masks_extra h = rw (single_read (mask_shape n) s l p count next t, more_follows s next h, add-one l)

    pub masks_all : length s ≤ next → read_masks b fs xs n l p (lines_at s p) ≡ sheet (fact_lines_of b fs xs t.fs)
    unfolding read_masks
    masks_all h = rw (single_read (mask_shape n) s l p count next t, none_follows s next h)

-- ---- F and X

module _ (s : List ℕ) (n l p : ℕ) (b : List Field) where
  pub children_back : (m k : ℕ) → run_from child_line n s l p ≡ refused m k → read_children b n l p (lines_at s p) ≡ turned m k
  unfolding read_children
  children_back m k e = rw e

  module _ (out out' : List (List ℕ)) (count q k : ℕ) (o : Opened number_rows s (run_from child_line n s l p) out out' count q k) where
    pub facts_back : (m j : ℕ) → run_from fact_line 0 s k q ≡ refused m j → read_children b n l p (lines_at s p) ≡ turned m j
    unfolding read_children
    facts_back m j e = rw o.is (rw (← o.leaves.lines) (rw e))

    pub facts_on :
        (outx outx' : List (List ℕ)) (many r j : ℕ) (x : Opened number_rows s (run_from fact_line 0 s k q) outx outx' many r j) →
        read_children b n l p (lines_at s p) ≡ read_masks b o.rs x.rs n j r (lines_at s r)
    unfolding read_children
    facts_on outx outx' many r j x = rw o.is (rw (← o.leaves.lines) (rw x.is (rw x.leaves.lines)))

-- ---- B

module _ (s : List ℕ) (n l p : ℕ) where
  pub node_back : (m : Refusal) → L.Refused m ≡ read_by (line_number node_line 0 (after s p) (line_at 66 s p)) (after s p) (line_at 66 s p) → read_facts n l p (lines_at s p) ≡ turned (line_number node_line 0 (after s p) (line_at 66 s p)) l
  unfolding read_facts
  node_back m e = rw (single_refused node_shape s l p m e)

  pub node_on :
      (count next : ℕ) (t : Taken node_line 0 (after s p) (line_at 66 s p) count next) →
      read_facts n l p (lines_at s p) ≡ read_children t.fs n (l + 1) next (lines_at s next)
  unfolding read_facts
  node_on count next t = rw (single_read node_shape s l p count next t, add-one l)

-- ---- D

module _ (s : List ℕ) where
  pub head_back : (m : Refusal) → L.Refused m ≡ read_by (line_number settings_line 0 (after s 0) (line_at 68 s 0)) (after s 0) (line_at 68 s 0) → tree_run s ≡ refused (line_number settings_line 0 (after s 0) (line_at 68 s 0)) 1
  unfolding tree_run
  head_back m e = rw (single_refused settings_shape s 1 0 m e)

  module _ (count next : ℕ) (t : Taken settings_line 0 (after s 0) (line_at 68 s 0) count next) where
    pub head_on : tree_run s ≡ run_from plan_line 1 s 2 next
    unfolding tree_run
    head_on = rw (single_read settings_shape s 1 0 count next t)

    pub head_is : head_line s ≡ t.fs
    head_is = ap fields_of (sym (bridge 68 s 0) ∙ t.is)

-- a refusal is no sheet
pub not_sheet : {A : Type 0} (r : Reading A) (m l : ℕ) (g : A) → r ≡ turned m l → r ≡ sheet g → ⊥
not_sheet r m l g e f = let z : ◌≡◌ {A = ℕ} 0 1 = cc in omega arith

-- the D line beside the tree
pub tree_left :
    (s : List ℕ) (run : Run) (head head' : List ℕ) (rows rows' : List (List ℕ)) → head' ≡ sets head 0 (values (head_line s)) → length (head_line s) ≡ 9 →
    Left (operator_rows 1) s run rows rows' → TreeLeft s run head head' rows rows'
tree_left s (refused n l) head head' rows rows' e nine h = tt
tree_left s (read rs ls l p) head head' rows rows' e nine h = record { settings = e; nine = nine; tree = h }

pub masks_held :
    (n : ℕ) (b : List Field) (fs xs : List (List Field)) (y : List Field) (g : FactLines) → sheet (fact_lines_of b fs xs y) ≡ sheet g →
    (masks masks' : List ℕ) → masks' ≡ sets masks 0 (values y) → length y ≡ two_to n → MasksHeld n g masks masks'
masks_held n b fs xs y g e masks masks' stored many =
    let z : fact_lines_of b fs xs y ≡ g = cc in
    rw (← z) (record { stored = stored; many = many })

-- the parts of the lines that were read
masks_of : (r : Run) (b : List Field) (fs xs : List (List Field)) (g : FactLines)
    → with_rows r (λ ys l p ls. cond (at_end ls) (sheet (fact_lines_of b fs xs (head_of ys))) (turned 1 l)) ≡ sheet g → (b ≡ g.node) × (fs ≡ g.children) × (xs ≡ g.rows)
masks_of (refused n l) b fs xs g e = let z : ◌≡◌ {A = ℕ} 0 1 = cc in absurd (omega arith)
masks_of (read ys ls l p) b fs xs g e = go (at_end ls) e
  where
    go : (t : Bool) → cond t (sheet (fact_lines_of b fs xs (head_of ys))) (turned 1 l) ≡ sheet g → (b ≡ g.node) × (fs ≡ g.children) × (xs ≡ g.rows)
    go true e = let z : fact_lines_of b fs xs (head_of ys) ≡ g = cc in (ap (λ (h : FactLines). h.node) z, ap (λ (h : FactLines). h.children) z, ap (λ (h : FactLines). h.rows) z)
    go false e = let z : ◌≡◌ {A = ℕ} 0 1 = cc in absurd (omega arith)

pub masks_open : (n : ℕ) (b : List Field) (fs xs : List (List Field)) (l p : ℕ) (ls : List (List ℕ)) (g : FactLines)
    → read_masks b fs xs n l p ls ≡ sheet g → (b ≡ g.node) × (fs ≡ g.children) × (xs ≡ g.rows)
unfolding read_masks
masks_open n b fs xs l p ls g e = masks_of (rows_of (mask_line n) 1 0 l p ls) b fs xs g e

-- all of the lines, by what the reader of the last of them answered
pub whole_err : (r : Reading FactLines) (w : Refused) → Err w ≡ whole_by r → Err w ≡ facts_by r
whole_err (turned m l) w e = cc
whole_err (sheet g) w e = absurd cc

pub whole_not : (r : Reading FactLines) (w : Refused) (g : FactLines) → Err w ≡ whole_by r → r ≡ sheet g → ⊥
whole_not (turned m l) w g e f = cc
whole_not (sheet h) w g e f = cc

whole_ok : (r : Reading FactLines) (u : Unit {0}) (xs : List (List Field)) → ((g : FactLines) → r ≡ sheet g → xs ≡ g.rows) → Ok u ≡ whole_by r → Ok (length xs) ≡ facts_by r
whole_ok (turned m l) u xs h e = absurd cc
whole_ok (sheet g) u xs h e = ap (λ (ys : List (List Field)). Ok (length ys)) (h g refl)

pub masks_whole : (n : ℕ) (b : List Field) (fs xs : List (List Field)) (l p : ℕ) (ls : List (List ℕ)) (u : Unit {0}) → Ok u ≡ whole_by (read_masks b fs xs n l p ls) → Ok (length xs) ≡ facts_by (read_masks b fs xs n l p ls)
masks_whole n b fs xs l p ls u e = whole_ok (read_masks b fs xs n l p ls) u xs (λ g f. (masks_open n b fs xs l p ls g f).2) e

rows_of_lem : (r : Run) (n : ℕ) (b : List Field) (fs : List (List Field)) (g : FactLines) → with_rows r (λ xs l p ls. read_masks b fs xs n l p ls) ≡ sheet g → b ≡ g.node
rows_of_lem (refused m k) n b fs g e = let z : ◌≡◌ {A = ℕ} 0 1 = cc in absurd (omega arith)
rows_of_lem (read xs ls l p) n b fs g e = (masks_open n b fs xs l p ls g e).0

node_of_at : (r : Run) (n : ℕ) (b : List Field) (g : FactLines)
    → with_rows r (λ fs l p ls. with_rows (rows_of fact_line 0 0 l p ls) (λ xs l p ls. read_masks b fs xs n l p ls)) ≡ sheet g → b ≡ g.node
node_of_at (refused m k) n b g e = let z : ◌≡◌ {A = ℕ} 0 1 = cc in absurd (omega arith)
node_of_at (read fs ls l p) n b g e = rows_of_lem (rows_of fact_line 0 0 l p ls) n b fs g e

node_of : (b : List Field) (n : ℕ) (ls : List (List ℕ)) (l p : ℕ) (g : FactLines) → read_children b n l p ls ≡ sheet g → b ≡ g.node
unfolding read_children
node_of b n ls l p g e = node_of_at (rows_of child_line n 0 l p ls) n b g e

pub children_held :
    (n : ℕ) (s : List ℕ) (b : List Field) (l p : ℕ) (out out' : List (List ℕ)) (count q k : ℕ) (o : Opened number_rows s (run_from child_line n s l p) out out' count q k)
    (outx outx' : List (List ℕ)) (many r j : ℕ) (x : Opened number_rows s (run_from fact_line 0 s k q) outx outx' many r j) (masks masks' : List ℕ) →
    length o.rs ≡ n → (g : FactLines) → read_masks b o.rs x.rs n j r (lines_at s r) ≡ sheet g → MasksHeld n g masks masks' →
    ChildrenHeld n g out out' outx outx' masks masks'
children_held n s b l p out out' count q k o outx outx' many r j x masks masks' counts g e h =
    let u = masks_open n b o.rs x.rs j r (lines_at s r) g e in
    record {
      stored = rw (← u.1) o.leaves.stored;
      many = rw (← u.1) counts;
      rows = rw (← u.2) x.leaves.stored;
      after = h;
    }

pub facts_held :
    (n : ℕ) (s : List ℕ) (b : List Field) (l p : ℕ) (g : FactLines) → read_children b n l p (lines_at s p) ≡ sheet g →
    (node node' : List ℕ) (facts facts' xs xs' : List (List ℕ)) (masks masks' : List ℕ) → node' ≡ sets node 0 (values b) → length b ≡ 4 →
    ChildrenHeld n g facts facts' xs xs' masks masks' → FactsHeld n g node node' facts facts' xs xs' masks masks'
facts_held n s b l p g e node node' facts facts' xs xs' masks masks' stored four h =
    let z : b ≡ g.node = node_of b n (lines_at s p) l p g e in
    record { stored = rw (← z) stored; four = rw (← z) four; after = h }
