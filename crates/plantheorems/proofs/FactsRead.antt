-- The lines after the tree: those that were read are fine and are the text, and fine ones that are written are read.
-- Assumes nothing.
use mathlib.Core.Path.{◌≡◌, refl, sym, ap, subst, ◌∙◌}
use Prim.Native.Nat.{ℕ, ◌+◌, ◌≤◌}
use native.Mathlib.Omega.{arith}
use mathlib.Core.List.{List, [], ◌∷◌, ◌++◌, append-nil}
use mathlib.Core.Bool.{Bool, true, false, cond}
use mathlib.Core.Option.{none}
use lib.ListN.{length, length-append}
use Rattle.text.specs.declared.field.Field.{Field}
use Rattle.text.specs.Text.{parts}
use Rattle.text.specs.Lines.{first_of}
use Rattle.text.specs.Write.{line_text}
use Rattle.linekinds.specs.Lines.{Run, read, refused, most_bytes, rows_of, at_end}
use Rattle.sheet.specs.KeySheets.{Reading, sheet, turned, head_of}
use Rattle.sheet.specs.Sizes.{Each}
use Rattle.sheet.proofs.InTurn.{Fine}
use Rattle.sheet.proofs.Accepted.{nothing_follows}
use Rattle.plansheet.specs.Shapes.{fixed_line}
use Rattle.plansheet.specs.PlanLines.{node_shape, node_line, child_shape, child_line, fact_shape, fact_line, mask_shape, mask_line}
use Rattle.plansheet.specs.PlanSheets.{FactLines, with_rows, read_masks, read_children, read_facts}
use Rattle.plansheet.specs.PlanTexts.{lines_text}
use Rattle.plantheorems.proofs.Runs.{Legal, Ran, run_written, run_read}
use Rattle.plantheorems.proofs.PlanKinds.{node_plain, child_plain, fact_plain, mask_plain, fixed_each, fixed_count, fixed_legal, coming_each, coming_legal, one_row, first_each, one_text, one_read, other_letter}

-- ---- a run that was read, and what followed

pub record Went {A : Type 0} (r : Run) (rest : List (List Field) → ℕ → ℕ → List (List ℕ) → Reading A) (g : A) : Type 0 where
  pub rows : List (List Field)
  pub lines : List (List ℕ)
  pub line : ℕ
  pub place : ℕ
  pub was : r ≡ read rows lines line place
  pub on : rest rows line place lines ≡ sheet g

pub went : {A : Type 0} (r : Run) (rest : List (List Field) → ℕ → ℕ → List (List ℕ) → Reading A) (g : A) → with_rows r rest ≡ sheet g → Went r rest g
went (refused n l) rest g e = absurd (cc)
went (read rs ls l p) rest g e = record { rows = rs; lines = ls; line = l; place = p; was = refl; on = e }

pub tested : {A : Type 0} (t : Bool) (y x : A) (n l : ℕ) → cond t (sheet y) (turned n l) ≡ sheet x → (t ≡ true) × (y ≡ x)
tested true y x n l e = (refl, cc)
tested false y x n l e = absurd (cc)

abbrev pub fact_lines_of : List Field → List (List Field) → List (List Field) → List Field → FactLines
fact_lines_of b fs xs y = record { node = b; children = fs; rows = xs; masks = y }

-- ---- the text of the lines

abbrev pub rows_text : FactLines → List ℕ
rows_text g = lines_text 88 g.rows ++ line_text 89 g.masks

abbrev pub children_text : FactLines → List ℕ
children_text g = lines_text 70 g.children ++ rows_text g

abbrev pub lines_of : FactLines → List ℕ
lines_of g = line_text 66 g.node ++ children_text g

-- what is asked of the lines of n children
pub record FineFacts (n : ℕ) (g : FactLines) : Type 0 where
  pub node : Fine node_line g.node
  pub children : Each (Fine child_line) g.children
  pub counted : length g.children ≡ n
  pub rows : Each (Fine (fixed_line fact_shape)) g.rows
  pub masks : Fine (mask_line n) g.masks

-- ---- Y

record MasksRead (b : List Field) (fs xs : List (List Field)) (n at : ℕ) (s : List ℕ) (g : FactLines) : Type 0 where
  y : List Field
  fine : Fine (mask_line n) y
  text : s ≡ line_text 89 y
  within : at ≤ most_bytes → at + length s ≤ most_bytes
  is : fact_lines_of b fs xs y ≡ g

masks_read : (b : List Field) (fs xs : List (List Field)) (n line at : ℕ) (s : List ℕ) (g : FactLines) → read_masks b fs xs n line at (parts 10 s) ≡ sheet g → MasksRead b fs xs n at s g
unfolding read_masks
masks_read b fs xs n line at s g e =
    let w = went (rows_of (mask_line n) 1 0 line at (parts 10 s)) (λ ys l p ls. cond (at_end ls) (sheet (fact_lines_of b fs xs (head_of ys))) (turned 1 l)) g e in
    let q = tested (at_end w.lines) (fact_lines_of b fs xs (head_of w.rows)) g 1 w.line w.on in
    let r = run_written (mask_line n) (mask_plain n) 1 0 line at s w.rows w.lines w.line w.place w.was in
    let k : length w.rows ≡ 1 = fixed_count (mask_shape n) _ 1 0 w.rows r.legal in
    let none : r.rest ≡ [] = nothing_follows r.rest (rw (← r.lines) q.0) in
    let t : s ≡ lines_text 89 w.rows = r.text ∙ ap (λ (ys : List ℕ). lines_text 89 w.rows ++ ys) none ∙ append-nil (lines_text 89 w.rows) in
    record {
      y = head_of w.rows;
      fine = first_each (Fine (mask_line n)) w.rows k (fixed_each (mask_shape n) _ 1 0 w.rows r.legal);
      text = t ∙ ap (lines_text 89) (one_row w.rows k) ∙ one_text 89 (head_of w.rows);
      within = λ h. omega (arith, r.within h, r.place, ap length t);
      is = q.1;
    }

-- ---- F and X

record ChildrenRead (b : List Field) (n at : ℕ) (s : List ℕ) (g : FactLines) : Type 0 where
  fine : Fine node_line b → FineFacts n g
  text : s ≡ children_text g
  within : at ≤ most_bytes → at + length s ≤ most_bytes
  is : b ≡ g.node

module _ (b : List Field) (n line at : ℕ) (s : List ℕ) (g : FactLines) where
  children_made :
      (fs xs : List (List Field)) (ls ms : List (List ℕ)) (l p k o : ℕ) (r : Ran child_line n 0 line at s fs ls l p) (q : Ran fact_line 0 0 l p r.rest xs ms k o) →
      MasksRead b fs xs n o q.rest g → ChildrenRead b n at s g
  children_made fs xs ls ms l p k o r q m =
      let y : List Field = m.y in
      let h : fact_lines_of b fs xs y ≡ g = m.is in
      let t : s ≡ lines_text 70 fs ++ (lines_text 88 xs ++ line_text 89 y) = r.text ∙ ap (λ (ys : List ℕ). lines_text 70 fs ++ ys) (q.text ∙ ap (λ (ys : List ℕ). lines_text 88 xs ++ ys) m.text) in
      let fine : Fine node_line b → FineFacts n (fact_lines_of b fs xs y) = λ f. record {
        node = f;
        children = fixed_each child_shape _ n 0 fs r.legal;
        counted = fixed_count child_shape _ n 0 fs r.legal;
        rows = coming_each fact_shape _ 0 0 xs q.legal;
        masks = m.fine;
      } in
      record {
        fine = subst (λ (z : FactLines). Fine node_line b → FineFacts n z) h fine;
        text = t ∙ ap children_text h;
        within = λ w. omega (arith, m.within (q.within (r.within w)), r.place, q.place, ap length r.text, ap length q.text, length-append (lines_text 70 fs) r.rest, length-append (lines_text 88 xs) q.rest);
        is = ap (λ (z : FactLines). z.node) h;
      }

  children_read : read_children b n line at (parts 10 s) ≡ sheet g → ChildrenRead b n at s g
  unfolding read_children
  children_read e =
      let w = went (rows_of child_line n 0 line at (parts 10 s)) (λ fs l p ls. with_rows (rows_of fact_line 0 0 l p ls) (λ xs l p ls. read_masks b fs xs n l p ls)) g e in
      let r = run_written child_line child_plain n 0 line at s w.rows w.lines w.line w.place w.was in
      let v = went (rows_of fact_line 0 0 w.line w.place w.lines) (λ xs l p ls. read_masks b w.rows xs n l p ls) g w.on in
      let q = run_written fact_line fact_plain 0 0 w.line w.place r.rest v.rows v.lines v.line v.place (rw (← r.lines) v.was) in
      children_made w.rows v.rows w.lines v.lines w.line w.place v.line v.place r q
      (masks_read b w.rows v.rows n v.line v.place q.rest g (rw (← q.lines) v.on))

-- ---- B, and what follows

pub record FactsRead (n at : ℕ) (s : List ℕ) (g : FactLines) : Type 0 where
  pub fine : FineFacts n g
  pub text : s ≡ lines_of g
  pub within : at ≤ most_bytes → at + length s ≤ most_bytes

pub facts_read : (n line at : ℕ) (s : List ℕ) (g : FactLines) → read_facts n line at (parts 10 s) ≡ sheet g → FactsRead n at s g
unfolding read_facts
facts_read n line at s g e =
    let w = went (rows_of node_line 1 0 line at (parts 10 s)) (λ bs l p ls. read_children (head_of bs) n l p ls) g e in
    let r = run_written node_line node_plain 1 0 line at s w.rows w.lines w.line w.place w.was in
    let k : length w.rows ≡ 1 = fixed_count node_shape _ 1 0 w.rows r.legal in
    let c = children_read (head_of w.rows) n w.line w.place r.rest g (rw (← r.lines) w.on) in
    let one : lines_text 66 w.rows ≡ line_text 66 g.node = ap (lines_text 66) (one_row w.rows k) ∙ one_text 66 (head_of w.rows) ∙ ap (line_text 66) c.is in
    record {
      fine = c.fine (first_each (Fine node_line) w.rows k (fixed_each node_shape _ 1 0 w.rows r.legal));
      text = r.text ∙ (λ j. one j ++ c.text j);
      within = λ h. omega (arith, c.within (r.within h), r.place, ap length r.text, length-append (lines_text 66 w.rows) r.rest);
    }

-- ---- and back

module _ (n : ℕ) (g : FactLines) (f : FineFacts n g) where
  masks_written : (line at : ℕ) → at + length (line_text 89 g.masks) ≤ most_bytes → read_masks g.node g.children g.rows n line at (parts 10 (line_text 89 g.masks)) ≡ sheet g
  unfolding read_masks parts
  masks_written line at b =
      let e : rows_of (mask_line n) 1 0 line at (parts 10 (line_text 89 g.masks)) ≡ read (g.masks ∷ []) (parts 10 []) (line + 1) (at + length (line_text 89 g.masks)) =
      ap (λ (ys : List ℕ). rows_of (mask_line n) 1 0 line at (parts 10 ys)) (sym (append-nil (line_text 89 g.masks))) ∙ one_read (mask_shape n) (mask_plain n) g.masks f.masks [] line at b in
      rw e

  children_written : (line at : ℕ) → at + length (children_text g) ≤ most_bytes → read_children g.node n line at (parts 10 (children_text g)) ≡ sheet g
  unfolding read_children
  children_written line at b =
      let y : List ℕ = line_text 89 g.masks in
      let l₁ = length-append (lines_text 70 g.children) (rows_text g) in
      let l₂ = length-append (lines_text 88 g.rows) y in
      let p : ℕ = at + length (lines_text 70 g.children) in
      let k : Legal child_line (first_of 70 (parts 10 (rows_text g))) n 0 g.children =
      subst (λ (i : ℕ). Legal child_line (first_of 70 (parts 10 (rows_text g))) i 0 g.children) f.counted (fixed_legal child_shape _ g.children 0 f.children) in
      let none₁ : first_of 88 (parts 10 y) ≡ none = ap (λ (ys : List ℕ). first_of 88 (parts 10 ys)) (sym (append-nil y)) ∙ other_letter 88 89 g.masks [] refl (λ z. omega arith) in
      let x : Legal fact_line (first_of 88 (parts 10 y)) 0 0 g.rows = rw none₁ (coming_legal fact_shape 0 0 g.rows f.rows) in
      rw (run_read child_line child_plain n 0 g.children (rows_text g) k line at (omega arith))
      (rw (run_read fact_line fact_plain 0 0 g.rows y x (line + length g.children) p (omega arith))
      (masks_written (line + length g.children + length g.rows) (p + length (lines_text 88 g.rows)) (omega arith)))

  pub facts_written : (line at : ℕ) → at + length (lines_of g) ≤ most_bytes → read_facts n line at (parts 10 (lines_of g)) ≡ sheet g
  unfolding read_facts
  facts_written line at b =
      let l = length-append (line_text 66 g.node) (children_text g) in
      rw (one_read node_shape node_plain g.node f.node (children_text g) line at (omega arith))
      (children_written (line + 1) (at + length (line_text 66 g.node)) (omega arith))
