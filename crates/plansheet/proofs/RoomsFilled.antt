-- The facts of a sheet that was read, and what then stands in the rooms.
-- Assumes nothing.
use mathlib.Core.Path.{◌≡◌, refl, sym, ap, ◌∙◌}
use mathlib.Core.List.{List, ◌++◌}
use Prim.Native.Nat.{ℕ, ◌+◌, ◌≤◌, ◌<◌}
use native.Mathlib.Omega.{arith}
use lib.ListN.{length, get_or, take, drop, length-map, get_or-append}
use lib.Seq.{sets, sets-eq, take_at, length-sets}
use Rattle.text.specs.Text.{value_of}
use Rattle.exchange.specs.Trees.{Plan}
use Rattle.exchange.specs.declared.settings.Settings.{Settings}
use Rattle.exchange.specs.Facts.{Facts}
use Rattle.exchange.specs.FactRows.{node_facts, fact_row}
use Rattle.exchange.specs.Rows.{flatten}
use Rattle.exchange.specs.Worked.{removed}
use Rattle.exchange.specs.Found.{index_of}
use Rattle.linekinds.specs.KeyLines.{values}
use Rattle.sheet.specs.KeySheets.{Reading, sheet, turned}
use Rattle.plansheet.specs.PlanLines.{two_to}
use Rattle.plansheet.specs.PlanSheets.{PlanSheet, FactLines, child_count, fact_rows, plan_sheet}
use Rattle.plansheet.specs.ReadRows.{number_rows}
use Rattle.plansheet.specs.ReadPlans.{facts_by, FactsHeld}
use Rattle.plansheet.specs.PlanRooms.{PlanRooms, PlanHeld}
use Rattle.std.specs.Prelude.{Ok, Err}
use Rattle.refusals.specs.declared.Refused.{Refused}
use Rattle.sheet.specs.SheetLines.{refused_on}
use Rattle.plansheet.proofs.FineLines.{two_small}
use Rattle.plansheet.proofs.PlanFitted.{facts_by_lem}

pub record FactsRead (r : Reading FactLines) (n : ℕ) : Type 0 where
  pub lines : FactLines
  pub is : r ≡ sheet lines
  pub counted : n ≡ length lines.rows

pub facts_read : (r : Reading FactLines) (n : ℕ) → Ok n ≡ facts_by r → FactsRead r n
facts_read (turned m l) n e = let z : ◌≡◌ {A = ℕ} 0 1 = cc in absurd (omega arith)
facts_read (sheet g) n e = record { lines = g; is = refl; counted = cc }

-- a reading that was turned back
pub record FactsTurned (r : Reading FactLines) (w : Refused) : Type 0 where
  pub number : ℕ
  pub line : ℕ
  pub is : r ≡ turned number line
  pub on : w ≡ refused_on number line

pub facts_turned : (r : Reading FactLines) (w : Refused) → Err w ≡ facts_by r → FactsTurned r w
facts_turned (turned m k) w e = record { number = m; line = k; is = refl; on = cc }
facts_turned (sheet g) w e = let z : ◌≡◌ {A = ℕ} 0 1 = cc in absurd (omega arith)

-- what is stored in front, and what is left behind it
pub sets_front : {A : Type 0} (d xs : List A) → length xs ≤ length d → sets d 0 xs ≡ xs ++ drop (length xs) d
sets_front d xs h = let z : 0 + length xs ≡ length xs = omega arith in sets-eq xs d 0 (omega arith) ∙ rw z

-- what was stored in front
pub front : {A : Type 0} (d d' xs : List A) (n : ℕ) → d' ≡ sets d 0 xs → length xs ≡ n → n ≤ length d → take n d' ≡ xs
front d d' xs n e l h = rw (e, sets-eq xs d 0 (omega arith)) (take_at xs _ n l)

-- facts that were read into the rooms of a tree that stands
pub record ReadInto (t : Plan) (g : FactLines) (rows rest : List (List ℕ)) (worked children n : ℕ) (node node' : List ℕ) (facts facts' xs xs' : List (List ℕ)) (masks masks' : List ℕ) : Type 0 where
  pub stands : rows ≡ flatten t ++ rest
  pub place : worked ≡ length (removed t)
  pub many : children ≡ child_count t
  pub few : children ≤ 8
  pub counted : n ≡ length g.rows
  pub eight : 8 ≤ length facts
  pub masked : 256 ≤ length masks
  pub held : FactsHeld children g node node' facts facts' xs xs' masks masks'

module _ {t : Plan} {g : FactLines} {rows rest : List (List ℕ)} {worked children n : ℕ} {node node' : List ℕ} {facts facts' xs xs' : List (List ℕ)} {masks masks' : List ℕ}
    (r : ReadInto t g rows rest worked children n node node' facts facts' xs xs' masks masks') where
  pub rooms_filled : PlanRooms t g rows facts' xs' masks' worked children n
  rooms_filled =
      let h = r.held in
      record {
        rest = rest;
        stands = r.stands;
        place = r.place;
        many = r.many;
        few = r.few;
        each = front facts facts' (number_rows g.children) children h.after.stored (length-map g.children values ∙ h.after.many) (omega (arith, r.few, r.eight));
        counted = r.counted;
        held = λ l. front xs xs' (number_rows g.rows) n h.after.rows (length-map g.rows values ∙ sym r.counted) (omega (arith, ap length h.after.rows, length-sets xs 0 (number_rows g.rows)));
        bits = front masks masks' (values g.masks) (two_to children) h.after.after.stored (length-map g.masks value_of ∙ h.after.after.many) (omega (arith, two_small children r.few, r.masked));
      }

  node_front : 4 ≤ length node → node_facts node' ≡ node_facts (values g.node)
  node_front k =
      let l : length (values g.node) ≡ 4 = length-map g.node value_of ∙ r.held.four in
      let e : node' ≡ values g.node ++ drop (length (values g.node)) node = r.held.stored ∙ sets_front node (values g.node) (omega arith) in
      let at : (i : ℕ) → i < 4 → get_or node' i 0 ≡ get_or (values g.node) i 0 = λ i j. ap (λ (ys : List ℕ). get_or ys i 0) e ∙ get_or-append (values g.node) _ 0 i (omega arith) in
      λ i. record { friendly = at 0 (omega arith) i; window = at 1 (omega arith) i; aggexact = at 2 (omega arith) i; aggsubset = at 3 (omega arith) i }

  pub plan_held :
      4 ≤ length node → (s : Settings) (x : PlanSheet) → plan_sheet s t g ≡ x → n ≤ length xs' → (index : List ℕ) → index ≡ index_of (take n xs') →
      PlanHeld x rows node' facts' xs' masks' index
  plan_held k s x e l index i =
      let q = rooms_filled in
      let f = facts_by_lem g in
      let m : length (fact_rows g.rows) ≡ n = length-map g.rows (λ fs. fact_row (values fs)) ∙ sym r.counted in
      rw (← e) (record {
        rest = rest;
        stands = r.stands;
        few = rw (← r.many) r.few;
        above = node_front k;
        each = rw (← r.many, q.each) (sym (ap (λ (y : Facts). y.children) f));
        room = rw m l;
        held = rw (m, q.held l) (sym (ap (λ (y : Facts). y.rows) f));
        found = rw m i;
        bits = rw (← r.many) q.bits;
      })
