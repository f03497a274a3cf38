-- A loop that reads a run of lines of any kind, on plain values: what is read from here, with the rows held in front, is the whole run.
-- Assumes nothing.
use mathlib.Core.Path.{◌≡◌, refl, sym, ap, ◌∙◌}
use mathlib.Core.List.{List, [], ◌∷◌, ◌++◌, append_assoc, append-nil, tail}
use mathlib.Core.Option.{Option, none, some}
use mathlib.Core.Bool.{Bool, true, false, cond}
use Prim.Native.Nat.{ℕ, suc, ◌+◌, ◌≤◌, ◌<◌}
use native.Mathlib.Numerals.{add-one}
use native.Mathlib.Omega.{arith}
use lib.Dec.{eqb}
use lib.ListN.{length, drop, set, length-append}
use lib.Seq.{sets, length-sets}
use borrow.Author.Tests.{eqb-true, eqb-false, ne_eqb}
use Rattle.text.specs.declared.field.Field.{Field}
use Rattle.text.specs.Text.{parts, line_at, after}
use Rattle.text.specs.Lines.{first_of, next_of}
use Rattle.text.proofs.Places.{bridge, after_next, after_within, after_lines}
use Rattle.linekinds.specs.Lines.{Kind, Run, read, refused, before, behind, line_number, fields_of, rows_of}
use Rattle.linekinds.specs.Reading.{read_by}
use Rattle.linekinds.specs.declared.line.Read.TheVariants as L
use Rattle.std.specs.Prelude.{Ok, Err}
use Rattle.refusals.specs.declared.Refusal.{Refusal}
use Rattle.refusals.specs.declared.Refused.{Refused}
use Rattle.refusals.specs.Refusals.{refusal_of}
use Rattle.sheet.specs.SheetLines.{refused_on}
use Rattle.plansheet.specs.ReadRows.{rows_by, Left}

-- ---- what the reader of a line answered

abbrev pub on : Refusal → ℕ → Refused
on r l = record { refusal = r; line = l }

pub record Taken (k : Kind) (seen next : ℕ) (x : Option (List Field)) (count after : ℕ) : Type 0 where
  pub fs : List Field
  pub is : x ≡ some fs
  pub zero : line_number k seen next (some fs) ≡ 0
  pub counts : count ≡ length fs
  pub goes : after ≡ next

module _ (k : Kind) (seen next : ℕ) where
  taken_at :
      (x : Option (List Field)) (t : Bool) (count after : ℕ) → eqb (line_number k seen next x) 0 ≡ t →
      L.Line count after ≡ cond t (L.Line (length (fields_of x)) next) (L.Refused (refusal_of (line_number k seen next x))) → Taken k seen next x count after
  unfolding line_number
  taken_at none true count after t e = let z : ◌≡◌ {A = ℕ} 1 0 = eqb-true 1 0 t in absurd (omega arith)
  taken_at (some fs) true count after t e = record { fs = fs; is = refl; zero = eqb-true (line_number k seen next (some fs)) 0 t; counts = cc; goes = cc }
  taken_at x false count after t e = let z : ◌≡◌ {A = ℕ} 0 1 = cc in absurd (omega arith)

  pub taken : (x : Option (List Field)) (count after : ℕ) → L.Line count after ≡ read_by (line_number k seen next x) next x → Taken k seen next x count after
  taken x count after e = taken_at x (eqb (line_number k seen next x) 0) count after refl e

  turned_at :
      (x : Option (List Field)) (t : Bool) (m : Refusal) → eqb (line_number k seen next x) 0 ≡ t →
      L.Refused m ≡ cond t (L.Line (length (fields_of x)) next) (L.Refused (refusal_of (line_number k seen next x))) → (m ≡ refusal_of (line_number k seen next x)) × (line_number k seen next x ≡ 0 → ⊥)
  turned_at x true m t e = let z : ◌≡◌ {A = ℕ} 0 1 = cc in absurd (omega arith)
  turned_at x false m t e = (cc, eqb-false (line_number k seen next x) 0 t)

  pub turned : (x : Option (List Field)) (m : Refusal) → L.Refused m ≡ read_by (line_number k seen next x) next x → (m ≡ refusal_of (line_number k seen next x)) × (line_number k seen next x ≡ 0 → ⊥)
  turned x m e = turned_at x (eqb (line_number k seen next x) 0) m refl e

  -- its refusal, on a line
  pub turned_on : (x : Option (List Field)) (m : Refusal) → L.Refused m ≡ read_by (line_number k seen next x) next x → (l : ℕ) → on m l ≡ refused_on (line_number k seen next x) l
  turned_on x m e l = ap (λ (r : Refusal). on r l) (turned x m e).0

-- ---- the definition at a line, whatever the lines are

module _ (k : Kind) (owed seen line at : ℕ) where
  pub rows_line :
      (ls : List (List ℕ)) (x : Option (List Field)) → first_of k.letter ls ≡ x → k.stops owed x ≡ false →
      rows_of k owed seen line at ls
      ≡ cond (eqb (line_number k seen (next_of at ls) x) 0) (before (fields_of x) (rows_of k (k.owes owed (fields_of x)) (suc seen) (suc line) (next_of at ls) (tail ls)))
      (refused (line_number k seen (next_of at ls) x) line)
  unfolding rows_of first_of line_number
  rows_line [] x e f = let f' : k.stops owed none ≡ false = rw (← e) at f in rw (f', ← e)
  rows_line (l ∷ ls) x e f = rw (e, f)

  pub rows_done : (ls : List (List ℕ)) (x : Option (List Field)) → first_of k.letter ls ≡ x → k.stops owed x ≡ true → rows_of k owed seen line at ls ≡ read [] ls line at
  unfolding rows_of first_of
  rows_done [] x e f = let f' : k.stops owed none ≡ true = rw (← e) at f in rw f'
  rows_done (l ∷ ls) x e f = rw (e, f)

-- ---- rows in front, and rows stored

behind_none : (r : Run) → behind [] r ≡ r
behind_none (read ss ls l p) = refl
behind_none (refused n l) = refl

behind_before : (rs : List (List Field)) (f : List Field) (r : Run) → behind rs (before f r) ≡ behind (rs ++ (f ∷ [])) r
behind_before rs f (read ss ls l p) = ap (λ (k : List (List Field)). read k ls l p) (sym (append_assoc rs (f ∷ []) ss))
behind_before rs f (refused n l) = refl

sets_snoc : {A : Type 0} (l : List A) (i : ℕ) (xs : List A) (x : A) → set (sets l i xs) (i + length xs) x ≡ sets l i (xs ++ (x ∷ []))
sets_snoc l i [] x = let e : i + 0 ≡ i = omega arith in rw e
sets_snoc l i (y ∷ xs) x = let e : i + suc (length xs) ≡ suc i + length xs = omega arith in rw e (sets_snoc (set l i y) (suc i) xs x)

pub sets_last : {A : Type 0} (l : List A) (xs : List A) (x : A) (n : ℕ) → n ≡ length xs → set (sets l 0 xs) n x ≡ sets l 0 (xs ++ (x ∷ []))
sets_last l xs x n e = let z : n ≡ 0 + length xs = omega arith in rw z (sets_snoc l 0 xs x)

-- rows are made of lines one by one, each by its place
pub record Made (f : List (List Field) → List (List ℕ)) (one : ℕ → List Field → List ℕ) : Type 0 where
  pub empty : f [] ≡ []
  pub more : (rs : List (List Field)) (fs : List Field) → f (rs ++ (fs ∷ [])) ≡ f rs ++ (one (length rs) fs ∷ [])
  pub long : (rs : List (List Field)) → length (f rs) ≡ length rs

-- ---- the loop

-- what is read from a place on
abbrev pub from : Kind → List ℕ → ℕ → ℕ → ℕ → ℕ → Run
from k s owed n l p = rows_of k owed n l p (parts 10 (drop p s))

pub record Head (f : List (List Field) → List (List ℕ)) (k : Kind) (s : List ℕ) (whole : Run) (out₀ out : List (List ℕ)) (p l n owed : ℕ) : Type 0 where
  pub rows : List (List Field)
  pub counted : n ≡ length rows
  pub stored : out ≡ sets out₀ 0 (f rows)
  pub answer : behind rows (from k s owed n l p) ≡ whole
  pub within : p ≤ length s
  pub lines : l ≤ p + 1
  pub few : n ≤ p

module _ (f : List (List Field) → List (List ℕ)) (one : ℕ → List Field → List ℕ) (made : Made f one) (k : Kind) (s : List ℕ) where
  pub head_first : (at line owed : ℕ) (out : List (List ℕ)) → at ≤ length s → line ≤ at + 1 → Head f k s (from k s owed 0 line at) out out at line 0 owed
  head_first at line owed out h l = record {
    rows = [];
    counted = refl;
    stored = rw made.empty;
    answer = behind_none (from k s owed 0 line at);
    within = h;
    lines = l;
    few = omega arith;
  }

  module _ (whole : Run) (out₀ out : List (List ℕ)) (p l n owed : ℕ) (h : Head f k s whole out₀ out p l n owed) where
    -- the line at p
    abbrev pub here : Option (List Field)
    here = line_at k.letter s p

    first_here : first_of k.letter (parts 10 (drop p s)) ≡ here
    first_here = sym (bridge k.letter s p)

    pub head_long : length out ≡ length out₀
    head_long = ap length h.stored ∙ length-sets out₀ 0 (f h.rows)

    pub head_done : k.stops owed here ≡ true → (Ok (record { count = n; next = p; line = l }) ≡ rows_by whole) × Left f s whole out₀ out
    head_done e =
        let q : from k s owed n l p ≡ read [] (parts 10 (drop p s)) l p = rows_done k owed n l p (parts 10 (drop p s)) here first_here e in
        let d : whole ≡ read h.rows (parts 10 (drop p s)) l p = sym h.answer ∙ rw (q, append-nil h.rows) in
        rw d (rw (← h.counted), record { stored = h.stored; lines = refl; within = h.within; numbers = h.lines })

    pub head_refused :
        k.stops owed here ≡ false → (m : Refusal) → L.Refused m ≡ read_by (line_number k n (after s p) here) (after s p) here →
        (out' : List (List ℕ)) → length out' ≡ length out₀ → (Err (on m l) ≡ rows_by whole) × Left f s whole out₀ out'
    head_refused g m e out' o =
        let q = turned k n (after s p) here m e in
        let w = line_number k n (after s p) here in
        let r : from k s owed n l p ≡ refused w l = rw (rows_line k owed n l p (parts 10 (drop p s)) here first_here g, after_next s p, ne_eqb w 0 q.1) in
        let d : whole ≡ refused w l = sym h.answer ∙ rw r in
        rw d (ap Err (turned_on k n (after s p) here m e l), o)

    module _ (count next : ℕ) (t : Taken k n (after s p) here count next) where
      pub head_next : (p < next) × (next ≤ length s)
      head_next = rw t.goes (after_within k.letter s p t.fs t.is)

      pub head_more :
          k.stops owed (some t.fs) ≡ false → (out' : List (List ℕ)) → out' ≡ set out n (one n t.fs) → (owed' : ℕ) → owed' ≡ k.owes owed t.fs →
          Head f k s whole out₀ out' next (l + 1) (n + 1) owed'
      head_more g out' o owed' b =
          let nx = head_next in
          let e : from k s owed n l p ≡ before t.fs (from k s owed' (n + 1) (l + 1) next) =
          rw (rows_line k owed n l p (parts 10 (drop p s)) (some t.fs) (first_here ∙ t.is) g, after_next s p, t.zero, add-one n, add-one l, b, t.goes, after_lines k.letter s p t.fs t.is) in
          record {
            rows = h.rows ++ (t.fs ∷ []);
            counted = omega (arith, h.counted, length-append h.rows (t.fs ∷ []));
            stored =
                o ∙ ap (λ (m : ℕ). set out n (one m t.fs)) h.counted ∙ rw h.stored (sets_last out₀ (f h.rows) (one (length h.rows) t.fs) n (h.counted ∙ sym (made.long h.rows)))
                ∙ ap (sets out₀ 0) (sym (made.more h.rows t.fs));
            answer = sym (behind_before h.rows t.fs (from k s owed' (n + 1) (l + 1) next)) ∙ (rw e at h.answer);
            within = nx.1;
            lines = omega (arith, nx.0, h.lines);
            few = omega (arith, nx.0, h.few);
          }
