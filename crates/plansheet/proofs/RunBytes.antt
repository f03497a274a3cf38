-- How many bytes the lines of a run take at least: a T line 17, an X line 28. So a sheet's length says how many there can be.
-- Assumes nothing.
use mathlib.Core.Path.{◌≡◌, refl, sym, ◌∙◌}
use mathlib.Core.List.{List, [], ◌∷◌, map}
use mathlib.Core.Option.{none, some}
use mathlib.Core.Bool.{Bool, true, false, cond, ◌&&◌}
use mathlib.Core.Logic.{⊎_elim}
use Prim.Native.Nat.{ℕ, suc, ◌+◌, ◌*◌, ◌≤◌, ◌<◌}
use native.Mathlib.Omega.{arith}
use lib.Dec.{eqb}
use lib.ListN.{length, drop, length-drop}
use Rattle.text.specs.declared.field.Field.{Field}
use Rattle.text.specs.Text.{parts, onto, field, most, fields, line_fields}
use Rattle.text.specs.Bounds.{Bound, allows, fits}
use Rattle.text.specs.Lines.{first_of}
use Rattle.std.proofs.lemmas.Bool.{and_parts as both}
use Rattle.linekinds.specs.Lines.{Kind, Run, read, refused, line_number, rows_of}
use Rattle.sheet.specs.KeySheets.{sheet, head_of}
use Rattle.plansheet.specs.PlanLines.{plan_line, node_line, child_line, fact_line}
use Rattle.plansheet.specs.PlanSheets.{FactLines, with_rows, read_masks, read_children, read_facts}
use Rattle.plansheet.specs.PlanRooms.{RoomFor}
use Rattle.plansheet.proofs.RunCases.{by_lines}
use Rattle.plansheet.proofs.FineLines.{fine_at}
use Rattle.plansheet.proofs.Shaped.{fit_fixed}
use Rattle.plansheet.proofs.Wholes.{masks_open}

-- the bytes of lines, each with its LF
abbrev pub size : List (List ℕ) → ℕ
size [] = 0
size (l ∷ ls) = suc (length l) + size ls

-- ---- the parts of a text

size_onto : (x : ℕ) (ps : List (List ℕ)) (n : ℕ) → size ps ≡ n + 1 → size (onto x ps) ≡ n + 2
unfolding onto
size_onto x [] n e = absurd (omega arith)
size_onto x (p ∷ ps) n e = omega arith

size_at : (t : Bool) (x : ℕ) (ps : List (List ℕ)) (n : ℕ) → size ps ≡ n + 1 → size (cond t ([] ∷ ps) (onto x ps)) ≡ n + 2
size_at true x ps n e = omega arith
size_at false x ps n e = size_onto x ps n e

pub size_parts : (b : ℕ) (s : List ℕ) → size (parts b s) ≡ length s + 1
unfolding parts
size_parts b [] = omega arith
size_parts b (x ∷ xs) = let h = size_at (eqb x b) x (parts b xs) (length xs) (size_parts b xs) in omega arith

-- ---- the bytes of a line, by its bounds

-- a field takes its comma, and a digit where it may not be empty
abbrev weight : List Bound → ℕ
weight [] = 0
weight (b ∷ bs) = cond b.optional 1 2 + weight bs

weight_two : (t : Bool) → cond t 1 2 ≤ 2
weight_two true = omega arith
weight_two false = omega arith

fields_weight : (bs : List Bound) (ps : List (List ℕ)) → fits bs (map (field most) ps) ≡ true → weight bs ≤ size ps
unfolding fits field
fields_weight [] ps e = omega arith
fields_weight (b ∷ bs) [] e = let z : ◌≡◌ {A = ℕ} 0 1 = cc in absurd (omega arith)
fields_weight (b ∷ bs) ([] ∷ ps) e =
    let h = both b.optional (fits bs (map (field most) ps)) e in
    rw h.0 (omega (arith, fields_weight bs ps h.1))
fields_weight (b ∷ bs) ((x ∷ xs) ∷ ps) e =
    let h = both (allows b (field most (x ∷ xs))) (fits bs (map (field most) ps)) e in
    omega (arith, weight_two b.optional, fields_weight bs ps h.1)

none_at_lem : (t : Bool) (x : List Field) (fs : List Field) → cond t (some x) none ≡ some fs → x ≡ fs
none_at_lem true x fs e = cc
none_at_lem false x fs e = let z : ◌≡◌ {A = ℕ} 0 1 = cc in absurd (omega arith)

line_bytes : (letter : ℕ) (l : List ℕ) (fs : List Field) (bs : List Bound) → line_fields letter l ≡ some fs → fits bs fs ≡ true → weight bs + 1 ≤ length l
unfolding line_fields fields
line_bytes letter [] fs bs e h = let z : ◌≡◌ {A = ℕ} 0 1 = cc in absurd (omega arith)
line_bytes letter (x ∷ []) fs bs e h =
    let q : fits bs [] ≡ true = rw (none_at_lem (eqb x letter) [] fs e) h in
    omega (arith, fields_weight bs [] q)
line_bytes letter (x ∷ c ∷ cs) fs bs e h =
    let q : fits bs (map (field most) (parts 44 cs)) ≡ true = rw (none_at_lem (eqb x letter && eqb c 44) (map (field most) (parts 44 cs)) fs e) h in
    omega (arith, fields_weight bs (parts 44 cs) q, size_parts 44 cs)

first_bytes : (letter : ℕ) (l : List ℕ) (ls : List (List ℕ)) (fs : List Field) (bs : List Bound) → first_of letter (l ∷ ls) ≡ some fs → fits bs fs ≡ true → weight bs + 1 ≤ length l
unfolding first_of
first_bytes letter l [] fs bs e h = let z : ◌≡◌ {A = ℕ} 0 1 = cc in absurd (omega arith)
first_bytes letter l (m ∷ ms) fs bs e h = line_bytes letter l fs bs e h

-- ---- a run of lines

-- what is left of the lines is no more than there was
pub run_left :
    (k : Kind) (owed seen line at : ℕ) (ls : List (List ℕ)) (rs : List (List Field)) (rest : List (List ℕ)) (l p : ℕ) → rows_of k owed seen line at ls ≡ read rs rest l p →
    size rest ≤ size ls
run_left k owed seen line at ls rs rest l p e =
    by_lines k (λ owed seen line at ls rs. size rest ≤ size ls) rest l p (λ owed seen z. omega arith) (λ owed seen line at l₀ ls ss fs ne x fine g. omega arith) owed seen line at ls rs e

-- the fields of a line that nothing turns back are within their bounds
fine_fits : (k : Kind) → k.width ≡ 0 → (seen next : ℕ) (fs : List Field) → line_number k seen next (some fs) ≡ 0 → fits k.heads fs ≡ true
fine_fits k w seen next fs z = sym (fit_fixed k w fs) ∙ (fine_at k seen next fs z).fit

-- each line takes its letter, its fields and its LF
line_run_bytes :
    (k : Kind) (n : ℕ) → k.width ≡ 0 → weight k.heads + 2 ≡ n → (owed seen line at : ℕ) (ls : List (List ℕ)) (rs : List (List Field)) (rest : List (List ℕ)) (l p : ℕ) →
    rows_of k owed seen line at ls ≡ read rs rest l p → n * length rs ≤ size ls
line_run_bytes k n w m owed seen line at ls rs rest l p e =
    by_lines k (λ owed seen line at ls rs. n * length rs ≤ size ls) rest l p (λ owed seen z. omega arith)
    (λ owed seen line at l₀ ls ss fs ne x fine g. omega (arith, m, g, first_bytes k.letter l₀ ls fs k.heads x (fine_fits k w seen _ fs fine)))
    owed seen line at ls rs e

pub tree_bytes :
    (owed seen line at : ℕ) (ls : List (List ℕ)) (rs : List (List Field)) (rest : List (List ℕ)) (l p : ℕ) → rows_of plan_line owed seen line at ls ≡ read rs rest l p →
    17 * length rs ≤ size ls
tree_bytes = line_run_bytes plan_line 17 refl refl

fact_bytes :
    (owed seen line at : ℕ) (ls : List (List ℕ)) (rs : List (List Field)) (rest : List (List ℕ)) (l p : ℕ) → rows_of fact_line owed seen line at ls ≡ read rs rest l p →
    28 * length rs ≤ size ls
fact_bytes = line_run_bytes fact_line 28 refl refl

-- ---- the X rows of what was read

module _ (n : ℕ) (g : FactLines) where
  xs_at :
      (b : List Field) (fs : List (List Field)) (l p : ℕ) (ls : List (List ℕ)) (r : Run) → rows_of fact_line 0 0 l p ls ≡ r →
      with_rows r (λ xs l p ls. read_masks b fs xs n l p ls) ≡ sheet g → 28 * length g.rows ≤ size ls
  xs_at b fs l p ls (refused m k) e h = let z : ◌≡◌ {A = ℕ} 0 1 = cc in absurd (omega arith)
  xs_at b fs l p ls (read xs rest k q) e h = let w : xs ≡ g.rows = (masks_open n b fs xs k q rest g h).2 in rw (← w) (fact_bytes 0 0 l p ls xs rest k q e)

  fs_at :
      (b : List Field) (l p : ℕ) (ls : List (List ℕ)) (r : Run) → rows_of child_line n 0 l p ls ≡ r →
      with_rows r (λ fs l p ls. with_rows (rows_of fact_line 0 0 l p ls) (λ xs l p ls. read_masks b fs xs n l p ls)) ≡ sheet g → 28 * length g.rows ≤ size ls
  fs_at b l p ls (refused m k) e h = let z : ◌≡◌ {A = ℕ} 0 1 = cc in absurd (omega arith)
  fs_at b l p ls (read fs rest k q) e h = omega (arith, run_left child_line n 0 l p ls fs rest k q e, xs_at b fs k q rest (rows_of fact_line 0 0 k q rest) refl h)

  children_bytes : (b : List Field) (l p : ℕ) (ls : List (List ℕ)) → read_children b n l p ls ≡ sheet g → 28 * length g.rows ≤ size ls
  unfolding read_children
  children_bytes b l p ls h = fs_at b l p ls (rows_of child_line n 0 l p ls) refl h

  bs_at :
      (l p : ℕ) (ls : List (List ℕ)) (r : Run) → rows_of node_line 1 0 l p ls ≡ r → with_rows r (λ bs l p ls. read_children (head_of bs) n l p ls) ≡ sheet g →
      28 * length g.rows ≤ size ls
  bs_at l p ls (refused m k) e h = let z : ◌≡◌ {A = ℕ} 0 1 = cc in absurd (omega arith)
  bs_at l p ls (read bs rest k q) e h = omega (arith, run_left node_line 1 0 l p ls bs rest k q e, children_bytes (head_of bs) k q rest h)

  pub facts_few : (line at : ℕ) (s : List ℕ) → read_facts n line at (parts 10 (drop at s)) ≡ sheet g → 28 * length g.rows ≤ length s + 1
  unfolding read_facts
  facts_few line at s h =
      let b = bs_at line at (parts 10 (drop at s)) (rows_of node_line 1 0 line at (parts 10 (drop at s))) refl h in
      omega (arith, size_parts 10 (drop at s), length-drop at s)

-- ---- the rooms suffice

pub tree_room : (bytes room n : ℕ) → RoomFor 256 17 bytes room → n ≤ 256 → 17 * n ≤ bytes + 1 → n ≤ room
tree_room bytes room n h few l = ⊎_elim (λ z. omega arith) (λ z. omega arith) h

pub fact_room : (bytes room n : ℕ) → RoomFor 128 28 bytes room → 28 * n ≤ bytes + 1 → room < n → 128 ≤ room
fact_room bytes room n h l k = ⊎_elim (λ z. z) (λ z. absurd (omega arith)) h
