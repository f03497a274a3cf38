-- A run of one line, what its fields are, and what follows the last line.
-- Assumes nothing.
use mathlib.Core.Path.{◌≡◌, refl, sym, ap, ◌∙◌}
use mathlib.Core.List.{List, [], ◌∷◌, map, tail}
use mathlib.Core.Option.{Option, some}
use mathlib.Core.Bool.{Bool, true, false, cond}
use Prim.Native.Nat.{ℕ, suc, ◌≤◌, ◌<◌}
use native.Mathlib.Omega.{arith}
use lib.Dec.{eqb}
use lib.ListN.{length, drop, take, length-drop, length-map, drop_of_length-le}
use Rattle.std.proofs.Common.{length-take}
use borrow.Author.Tests.{ne_eqb}
use Rattle.text.specs.declared.field.Field.{Field}
use Rattle.text.specs.Text.{onto, parts, line, line_fields, line_at, after, row}
use Rattle.text.specs.Bounds.{Bound, bound_row}
use Rattle.text.specs.Lines.{first_of}
use Rattle.text.specs.Read.{stored_in}
use Rattle.text.proofs.Places.{bridge, after_next, after_within, after_lines}
use Rattle.linekinds.specs.Lines.{Kind, Run, read, refused, line_number, at_end}
use Rattle.linekinds.specs.KeyLines.{values}
use Rattle.linekinds.specs.Reading.{read_by, row_values}
use Rattle.linekinds.specs.declared.line.Read.TheVariants as L
use Rattle.linekinds.proofs.ReadLines.{row_values_lem}
use Rattle.plansheet.specs.Shapes.{Shape, fixed_line}
use Rattle.plansheet.specs.ReadRows.{bound_of, rows_by, run_from, Left, Leaves}
use Rattle.plansheet.specs.declared.tree.RowsRead.{RowsRead}
use Rattle.std.specs.Prelude.{Ok, Err}
use Rattle.refusals.specs.declared.Refusal.{Refusal}
use Rattle.refusals.specs.declared.Refused.{Refused}
use Rattle.sheet.specs.SheetLines.{refused_on}
use Rattle.plansheet.proofs.Turns.{Taken, taken, turned, rows_line, rows_done}
use Rattle.plansheet.proofs.FineLines.{fine_long, fine_rows}

optional_at : (b : Bool) → eqb (cond b 1 0) 1 ≡ b
optional_at true = refl
optional_at false = refl

pub bounds_again : (bs : List Bound) → map bound_of (map bound_row bs) ≡ bs
bounds_again [] = refl
bounds_again (b ∷ bs) = λ i. record { optional = optional_at b.optional i; largest = b.largest } ∷ bounds_again bs i

module _ (h : Shape) (s : List ℕ) (n p : ℕ) where
  abbrev here : Option (List Field)
  here = line_at h.letter s p

  first_here : first_of h.letter (parts 10 (drop p s)) ≡ here
  first_here = sym (bridge h.letter s p)

  pub single_refused : (m : Refusal) → L.Refused m ≡ read_by (line_number (fixed_line h) 0 (after s p) here) (after s p) here → run_from (fixed_line h) 1 s n p ≡ refused (line_number (fixed_line h) 0 (after s p) here) n
  single_refused m e =
      let q = turned (fixed_line h) 0 (after s p) here m e in
      rw (rows_line (fixed_line h) 1 0 n p (parts 10 (drop p s)) here first_here refl, after_next s p, ne_eqb (line_number (fixed_line h) 0 (after s p) here) 0 q.1)

  module _ (count next : ℕ) (t : Taken (fixed_line h) 0 (after s p) here count next) where
    pub single_read : run_from (fixed_line h) 1 s n p ≡ read (t.fs ∷ []) (parts 10 (drop next s)) (suc n) next
    single_read =
        let e : parts 10 (drop next s) ≡ tail (parts 10 (drop p s)) = rw t.goes (after_lines h.letter s p t.fs t.is) in
        rw (rows_line (fixed_line h) 1 0 n p (parts 10 (drop p s)) (some t.fs) (first_here ∙ t.is) refl, after_next s p, t.zero, ← e, ← t.goes)
        (rw (rows_done (fixed_line h) 0 1 (suc n) next (parts 10 (drop next s)) (first_of h.letter (parts 10 (drop next s))) refl refl))

-- a line that was read, as it stands in the rows lent
pub record Single (k : Kind) (seen : ℕ) (s : List ℕ) (p count next : ℕ) (out' : List (List ℕ)) : Type 0 where
  pub took : Taken k seen (after s p) (line_at k.letter s p) count next
  pub long : count ≡ length k.heads
  pub on : p < next
  pub within : next ≤ length s
  pub rows : take count out' ≡ map row took.fs
  pub part : length (take count out') ≡ length k.heads
  pub vals : row_values (take count out') ≡ values took.fs
  pub fits : count ≤ length out'

pub single :
    (k : Kind) → k.width ≡ 0 → (seen : ℕ) (s : List ℕ) (p count next : ℕ) (out out' : List (List ℕ)) →
    L.Line count next ≡ read_by (line_number k seen (after s p) (line_at k.letter s p)) (after s p) (line_at k.letter s p) →
    out' ≡ stored_in out (line_fields k.letter (line (drop p s))) → length k.heads ≤ length out → Single k seen s p count next out'
single k w seen s p count next out out' e stored room =
    let t = taken k seen (after s p) (line_at k.letter s p) count next e in
    let bs : List (List ℕ) = map bound_row k.heads in
    let o : (p < next) × (next ≤ length s) = rw t.goes (after_within k.letter s p t.fs t.is) in
    let l : count ≡ length k.heads = t.counts ∙ fine_long bs k w (sym (bounds_again k.heads)) seen (after s p) t.fs t.zero ∙ length-map k.heads bound_row in
    let r : take count out' ≡ map row t.fs =
    fine_rows bs k w (sym (bounds_again k.heads)) seen (after s p) t.fs t.zero k.letter s p t.is out out' stored (rw (length-map k.heads bound_row) room) count t.counts in
    let m : length (take count out') ≡ length k.heads = ap length r ∙ length-map t.fs row ∙ sym t.counts ∙ l in
    record { took = t; long = l; on = o.0; within = o.1; rows = r; part = m; vals = ap row_values r ∙ row_values_lem t.fs; fits = omega (arith, m, l, length-take count out') }

-- ---- what follows the last line

rest_at : (ps : List (List ℕ)) (x : ℕ) → at_end (onto x ps) ≡ false
unfolding onto
rest_at [] x = refl
rest_at (p ∷ ps) x = refl

two_at : (t : Bool) (ps : List (List ℕ)) (x : ℕ) → at_end ([] ∷ cond t ([] ∷ ps) (onto x ps)) ≡ false
unfolding onto
two_at true ps x = refl
two_at false [] x = refl
two_at false (p ∷ ps) x = refl

two : (ys : List ℕ) → at_end ([] ∷ parts 10 ys) ≡ false
unfolding parts
two [] = refl
two (y ∷ ys) = two_at (eqb y 10) (parts 10 ys) y

over_at : (t : Bool) (y : ℕ) (ys : List ℕ) → at_end (cond t ([] ∷ parts 10 ys) (onto y (parts 10 ys))) ≡ false
over_at true y ys = two ys
over_at false y ys = rest_at (parts 10 ys) y

more_at : (ys : List ℕ) → 0 < length ys → at_end (parts 10 ys) ≡ false
unfolding parts
more_at [] h = absurd (omega arith)
more_at (y ∷ ys) h = over_at (eqb y 10) y ys

pub more_follows : (s : List ℕ) (p : ℕ) → p < length s → at_end (parts 10 (drop p s)) ≡ false
more_follows s p h = more_at (drop p s) (omega (arith, length-drop p s))

pub none_follows : (s : List ℕ) (p : ℕ) → length s ≤ p → at_end (parts 10 (drop p s)) ≡ true
unfolding parts
none_follows s p h = rw (drop_of_length-le s {i = p} h)

-- ---- a run by what its reader answered

pub record Opened (f : List (List Field) → List (List ℕ)) (s : List ℕ) (run : Run) (out out' : List (List ℕ)) (count p l : ℕ) : Type 0 where
  pub rs : List (List Field)
  pub ls : List (List ℕ)
  pub is : run ≡ read rs ls l p
  pub counts : count ≡ length rs
  pub leaves : Leaves f s rs ls l p out out'

pub opened :
    (f : List (List Field) → List (List ℕ)) (s : List ℕ) (run : Run) (out out' : List (List ℕ)) (w : RowsRead) →
    Ok w ≡ rows_by run → Left f s run out out' → Opened f s run out out' w.count w.next w.line
opened f s (refused n m) out out' w e h = let z : ◌≡◌ {A = ℕ} 0 1 = cc in absurd (omega arith)
opened f s (read rs ls m q) out out' w e h =
    let is : w ≡ record { count = length rs; next = q; line = m } = cc in
    record { rs = rs; ls = ls; is = rw is refl; counts = ap (λ (v : RowsRead). v.count) is; leaves = rw is h }

-- a run that was turned back
pub record TurnedBack (run : Run) (w : Refused) : Type 0 where
  pub number : ℕ
  pub line : ℕ
  pub is : run ≡ refused number line
  pub on : w ≡ refused_on number line

pub turned_run : (run : Run) (w : Refused) → Err w ≡ rows_by run → TurnedBack run w
turned_run (refused m k) w e = record { number = m; line = k; is = refl; on = cc }
turned_run (read rs ls m q) w e = let z : ◌≡◌ {A = ℕ} 0 1 = cc in absurd (omega arith)
