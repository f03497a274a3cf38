-- A D sheet by its parts: how the tree and the facts make what is read, and what `read_tree_lines` leaves.
-- Assumes nothing.
use mathlib.Core.Path.{◌≡◌, refl, sym, ap, ◌∙◌}
use mathlib.Core.List.{List, [], ◌∷◌, ◌++◌, append-nil}
use mathlib.Core.Bool.{Bool, true, false, cond}
use Prim.Native.Nat.{ℕ, suc, ◌+◌, ◌-◌, ◌*◌, ◌≤◌, ◌<◌}
use native.Mathlib.Omega.{arith}
use lib.Dec.{eqb}
use lib.ListN.{length, get_or, drop, length-map, get_or-append}
use lib.Seq.{sets}
use Rattle.text.specs.declared.field.Field.{Field}
use Rattle.text.specs.Text.{parts, value_of}
use Rattle.text.specs.Lines.{first_of, next_of}
use Rattle.exchange.specs.Trees.{Plan}
use Rattle.exchange.specs.declared.settings.Settings.{Settings}
use Rattle.exchange.specs.Rows.{children_of, flatten}
use Rattle.exchange.specs.Worked.{removed}
use Rattle.linekinds.specs.Lines.{Run, read, refused, before, line_number, fields_of, rows_of}
use Rattle.linekinds.specs.KeyLines.{values}
use Rattle.sheet.specs.KeySheets.{Reading, sheet, turned, head_of}
use Rattle.plansheet.specs.Shapes.{Shape, fixed_line}
use Rattle.plansheet.specs.PlanLines.{settings_shape, settings_line, tree_shape, child_rules, most_lines, plan_line}
use Rattle.plansheet.specs.PlanSheets.{PlanSheet, FactLines, settings_of, operator_rows, plan_of, child_count, with_facts, with_rows, read_facts, read_plan}
use Rattle.plansheet.specs.ReadRows.{rows_by}
use Rattle.plansheet.specs.ReadPlans.{then_run, tree_run, head_line, TreeHeld, TreeLeft}
use Rattle.plansheet.specs.PlanRooms.{RoomFor}
use Rattle.plansheet.specs.declared.tree.RowsRead.{RowsRead}
use Rattle.std.specs.Prelude.{Ok, Err}
use Rattle.refusals.specs.declared.Refused.{Refused}
use Rattle.plansheet.proofs.FineLines.{operators_made}
use Rattle.plansheet.proofs.Singles.{TurnedBack, turned_run}
use Rattle.plansheet.proofs.OneTree.{one_tree, few_children, few_lines}
use Rattle.plansheet.proofs.RoomsFilled.{sets_front}
use Rattle.plansheet.proofs.PlanFitted.{worked_rooms}
use Rattle.plansheet.proofs.RunBytes.{size_parts, run_left, tree_bytes, tree_room}

record ThenRead (r : Run) (k : ℕ → ℕ → List (List ℕ) → Run) (rs : List (List Field)) (ls : List (List ℕ)) (l p : ℕ) : Type 0 where
  front : List (List Field)
  line : ℕ
  place : ℕ
  lines : List (List ℕ)
  after : r ≡ read front lines line place
  is : k line place lines ≡ read rs ls l p

then_at : (r : Run) (k : ℕ → ℕ → List (List ℕ) → Run) (rs : List (List Field)) (ls : List (List ℕ)) (l p : ℕ) → then_run r k ≡ read rs ls l p → ThenRead r k rs ls l p
then_at (refused m j) k rs ls l p e = let z : ◌≡◌ {A = ℕ} 0 1 = cc in absurd (omega arith)
then_at (read ds ms j q) k rs ls l p e = record { front = ds; line = j; place = q; lines = ms; after = refl; is = e }

module _ (s : List ℕ) (rs : List (List Field)) (ls : List (List ℕ)) (l p : ℕ) (e : tree_run s ≡ read rs ls l p) where
  run_of : ThenRead (rows_of settings_line 1 0 1 0 (parts 10 s)) (rows_of plan_line 1 0) rs ls l p
  unfolding tree_run
  run_of = then_at (rows_of settings_line 1 0 1 0 (parts 10 s)) (rows_of plan_line 1 0) rs ls l p e

  pub tree_rows_lem : flatten (plan_of rs) ≡ operator_rows 1 rs
  tree_rows_lem = one_tree tree_shape child_rules most_lines run_of.line run_of.place run_of.lines rs ls l p run_of.is

  pub tree_few : length rs ≤ 256
  tree_few =
      let h : 0 + length rs ≤ 256 = few_lines tree_shape child_rules most_lines 1 0 run_of.line run_of.place run_of.lines rs ls l p run_of.is (omega arith) in
      omega arith

  tree_fits : (room : ℕ) → RoomFor 256 17 (length s) room → length rs ≤ room
  tree_fits room h =
      let q = run_of in
      let b : 17 * length rs ≤ length s + 1 =
      omega (arith, tree_bytes 1 0 q.line q.place q.lines rs ls l p q.is, run_left settings_line 1 0 1 0 (parts 10 s) q.front q.lines q.line q.place q.after, size_parts 10 s) in
      tree_room (length s) room (length rs) h tree_few b

  pub tree_long : length (flatten (plan_of rs)) ≡ length rs
  tree_long = ap length tree_rows_lem ∙ operators_made.long rs

  -- the worked node has at most eight children
  pub tree_children : child_count (plan_of rs) ≤ 8
  tree_children =
      let w = worked_rooms (plan_of rs) (flatten (plan_of rs)) [] (length (removed (plan_of rs))) (sym (append-nil (flatten (plan_of rs)))) refl in
      let c : children_of (get_or (operator_rows 1 rs) (length (removed (plan_of rs))) []) ≤ 8 = few_children tree_shape child_rules most_lines 1 0 run_of.line run_of.place run_of.lines rs ls l p run_of.is 1 (length (removed (plan_of rs))) in
      omega (arith, w.children, ap (λ (ys : List (List ℕ)). children_of (get_or ys (length (removed (plan_of rs))) [])) tree_rows_lem)

  pub tree_stands : (rows rows' : List (List ℕ)) → rows' ≡ sets rows 0 (operator_rows 1 rs) → RoomFor 256 17 (length s) (length rows) → rows' ≡ flatten (plan_of rs) ++ drop (length rs) rows
  tree_stands rows rows' o h =
      let m : length (operator_rows 1 rs) ≡ length rs = operators_made.long rs in
      o ∙ sets_front rows (operator_rows 1 rs) (omega (arith, tree_fits (length rows) h)) ∙ rw (m, tree_rows_lem)

-- ---- the D line

settings_front : (vs ys : List ℕ) → length vs ≡ 9 → settings_of (vs ++ ys) ≡ settings_of vs
settings_front vs ys l =
    let at : (i : ℕ) → i < 9 → get_or (vs ++ ys) i 0 ≡ get_or vs i 0 = λ i j. get_or-append vs ys 0 i (omega arith) in
    λ i. record {
      target = at 0 (omega arith) i;
      roundrobin = at 1 (omega arith) i;
      split = at 2 (omega arith) i;
      batch = at 3 (omega arith) i;
      estimates = at 4 (omega arith) i;
      subset = at 5 (omega arith) i;
      files = at 6 (omega arith) i;
      sort = at 7 (omega arith) i;
      union = at 8 (omega arith) i;
    }

pub settings_held : (head head' : List ℕ) (fs : List Field) → head' ≡ sets head 0 (values fs) → length fs ≡ 9 → 9 ≤ length head → settings_of head' ≡ settings_of (values fs)
settings_held head head' fs e l h =
    let m : length (values fs) ≡ 9 = length-map fs value_of ∙ l in
    rw (e, sets_front head (values fs) (omega arith)) (settings_front (values fs) (drop (length (values fs)) head) m)

head_at : (b : Bool) (n line at : ℕ) (fs : List Field) (r : Run) (ds : List (List Field)) (ls : List (List ℕ)) (l p : ℕ) → cond b (before fs r) (refused n line) ≡ read ds ls l p → head_of ds ≡ fs
head_at true n line at fs (read rs ms k q) ds ls l p e = let z : fs ∷ rs ≡ ds = cc in rw (← z)
head_at true n line at fs (refused m k) ds ls l p e = let z : ◌≡◌ {A = ℕ} 0 1 = cc in absurd (omega arith)
head_at false n line at fs r ds ls l p e = let z : ◌≡◌ {A = ℕ} 0 1 = cc in absurd (omega arith)

-- the row of a run of one is its line
head_row_lem : (h : Shape) (line at : ℕ) (ls₀ : List (List ℕ)) (ds : List (List Field)) (ls : List (List ℕ)) (l p : ℕ) → rows_of (fixed_line h) 1 0 line at ls₀ ≡ read ds ls l p → head_of ds ≡ fields_of (first_of h.letter ls₀)
unfolding rows_of
head_row_lem h line at [] ds ls l p e = let z : ◌≡◌ {A = ℕ} 0 1 = cc in absurd (omega arith)
head_row_lem h line at (l₀ ∷ ls₀) ds ls l p e = head_at (eqb (line_number (fixed_line h) 0 (next_of at (l₀ ∷ ls₀)) (first_of h.letter (l₀ ∷ ls₀))) 0) (line_number (fixed_line h) 0 (next_of at (l₀ ∷ ls₀)) (first_of h.letter (l₀ ∷ ls₀))) line at (fields_of (first_of h.letter (l₀ ∷ ls₀))) (rows_of (fixed_line h) (1 - 1) 1 (suc line) (next_of at (l₀ ∷ ls₀)) ls₀) ds ls l p e

abbrev K : List Field → List (List Field) → ℕ → ℕ → List (List ℕ) → Reading PlanSheet
K d ts l p ls = with_facts (settings_of (values d)) (plan_of ts) (read_facts (child_count (plan_of ts)) l p ls)

rows_at :
    (r : Run) (d : List Field) → ((ds : List (List Field)) (ls : List (List ℕ)) (l p : ℕ) → r ≡ read ds ls l p → head_of ds ≡ d) →
    with_rows r (λ ds l p ls. with_rows (rows_of plan_line 1 0 l p ls) (λ ts l p ls. K (head_of ds) ts l p ls)) ≡ with_rows (then_run r (rows_of plan_line 1 0)) (λ ts l p ls. K d ts l p ls)
rows_at (refused n l) d h = refl
rows_at (read ds ls l p) d h = ap (λ (y : List Field). with_rows (rows_of plan_line 1 0 l p ls) (λ ts l p ls. K y ts l p ls)) (h ds ls l p refl)

-- the sheet from its D line and its tree on
pub plan_by_tree : (s : List ℕ) → read_plan s ≡ with_rows (tree_run s) (λ ts l p ls. with_facts (settings_of (values (head_line s))) (plan_of ts) (read_facts (child_count (plan_of ts)) l p ls))
unfolding read_plan tree_run
plan_by_tree s = rows_at (rows_of settings_line 1 0 1 0 (parts 10 s)) (head_line s) (λ ds ls l p e. head_row_lem settings_shape 1 0 (parts 10 s) ds ls l p e)

-- a refusal of the facts is one of the sheet
pub after_turned : (s : Settings) (t : Plan) (r : Reading FactLines) (n l : ℕ) (x : PlanSheet) → r ≡ turned n l → with_facts s t r ≡ sheet x → ⊥
after_turned s t r n l x e f =
    let q : turned n l ≡ sheet x = ap (with_facts s t) (sym e) ∙ f in
    let z : ◌≡◌ {A = ℕ} 0 1 = cc in
    omega arith

-- ---- what `read_tree_lines` answered

pub record TreeRead (s head head' : List ℕ) (rows rows' : List (List ℕ)) (count p l : ℕ) : Type 0 where
  pub rs : List (List Field)
  pub whole : count ≡ length (flatten (plan_of rs))
  pub rest : List (List ℕ)
  pub stands : rows' ≡ flatten (plan_of rs) ++ rest
  pub few : child_count (plan_of rs) ≤ 8
  pub settings : settings_of head' ≡ settings_of (values (head_line s))
  pub within : p ≤ length s
  pub numbers : l ≤ p + 1
  pub is : read_plan s ≡ with_facts (settings_of (values (head_line s))) (plan_of rs) (read_facts (child_count (plan_of rs)) l p (parts 10 (drop p s)))

tree_of :
    (s head head' : List ℕ) (rows rows' : List (List ℕ)) (rs : List (List Field)) (ls : List (List ℕ)) (l p : ℕ) → 9 ≤ length head → RoomFor 256 17 (length s) (length rows) →
    tree_run s ≡ read rs ls l p → TreeHeld s rs ls l p head head' rows rows' → TreeRead s head head' rows rows' (length rs) p l
tree_of s head head' rows rows' rs ls l p a b e h = record {
  rs = rs;
  whole = sym (tree_long s rs ls l p e);
  rest = drop (length rs) rows;
  stands = tree_stands s rs ls l p e rows rows' h.tree.stored b;
  few = tree_children s rs ls l p e;
  settings = settings_held head head' (head_line s) h.settings h.nine a;
  within = h.tree.within;
  numbers = h.tree.numbers;
  is = plan_by_tree s ∙ rw (e, ← h.tree.lines);
}

tree_at_lem :
    (s head head' : List ℕ) (rows rows' : List (List ℕ)) (w : RowsRead) (run : Run) → tree_run s ≡ run → 9 ≤ length head → RoomFor 256 17 (length s) (length rows) →
    Ok w ≡ rows_by run → TreeLeft s run head head' rows rows' → TreeRead s head head' rows rows' w.count w.next w.line
tree_at_lem s head head' rows rows' w (refused n m) t a b e h = let z : ◌≡◌ {A = ℕ} 0 1 = cc in absurd (omega arith)
tree_at_lem s head head' rows rows' w (read rs ls m q) t a b e h =
    let is : w ≡ record { count = length rs; next = q; line = m } = cc in
    rw is (tree_of s head head' rows rows' rs ls m q a b t h)

pub tree_read :
    (s head head' : List ℕ) (rows rows' : List (List ℕ)) (w : RowsRead) → 9 ≤ length head → RoomFor 256 17 (length s) (length rows) →
    Ok w ≡ rows_by (tree_run s) → TreeLeft s (tree_run s) head head' rows rows' → TreeRead s head head' rows rows' w.count w.next w.line
tree_read s head head' rows rows' w a b e h = tree_at_lem s head head' rows rows' w (tree_run s) refl a b e h

pub tree_turned : (s : List ℕ) (w : Refused) → Err w ≡ rows_by (tree_run s) → TurnedBack (tree_run s) w
tree_turned s w e = turned_run (tree_run s) w e

pub plan_turned : (s : List ℕ) (n l : ℕ) → tree_run s ≡ refused n l → read_plan s ≡ turned n l
plan_turned s n l e = plan_by_tree s ∙ rw e

pub turned_not : (n l : ℕ) (x : PlanSheet) → turned n l ≡ sheet x → ⊥
turned_not n l x e = let z : ◌≡◌ {A = ℕ} 0 1 = cc in omega arith

pub plan_on :
    (s head head' : List ℕ) (rows rows' : List (List ℕ)) (count p l : ℕ) (t : TreeRead s head head' rows rows' count p l) →
    read_plan s ≡ with_facts (settings_of head') (plan_of t.rs) (read_facts (child_count (plan_of t.rs)) l p (parts 10 (drop p s)))
plan_on s head head' rows rows' count p l t = t.is ∙ ap (λ (y : Settings). with_facts y (plan_of t.rs) (read_facts (child_count (plan_of t.rs)) l p (parts 10 (drop p s)))) (sym t.settings)
