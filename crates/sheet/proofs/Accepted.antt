-- A sheet of a head line and counted stages is accepted exactly when its text is that of fine rows, within the most bytes, and the rows make a sheet.
use mathlib.Core.Path.{◌≡◌, refl, sym, ap, ◌∙◌}
use Prim.Native.Nat.{ℕ, ◌+◌, ◌≤◌}
use native.Mathlib.Omega.{arith}
use mathlib.Core.List.{List, [], ◌∷◌, ◌++◌, append-nil}
use mathlib.Core.Bool.{Bool, true, false, cond}
use lib.ListN.{length, replicate}
use Rattle.text.specs.declared.field.Field.{Field}
use Rattle.text.specs.Text.{parts}
use Rattle.text.specs.Lines.{first_of}
use Rattle.text.proofs.RoundTrip.{first_back}
use Rattle.text.proofs.WrittenBack.{led, led_parts}
use Rattle.linekinds.specs.Lines.{Kind, Stage, Run, read, refused, most_bytes, fields_of, rows_of, at_end}
use Rattle.sheet.specs.KeySheets.{Reading, sheet, turned, ended, after_head}
use Rattle.sheet.specs.Sizes.{Each}
use Rattle.sheet.specs.Refusals.{kinds_of}
use Rattle.sheet.specs.SheetLines.{in_turn}
use Rattle.sheet.proofs.InTurn.{Counted, rows_text, Fine, FineRows, more}
use Rattle.sheet.proofs.Entries.{each_append, each_same}
use Rattle.sheet.proofs.Chained.{whole_rows, head_in_turn}
use Rattle.sheet.proofs.RowsAgain.{fine_wide, rows_written, rows_read}

-- ---- counted kinds

pub each_kind : (cs : List Stage) → Each (λ c. Counted c.kind) cs → Each Counted (kinds_of cs)
each_kind [] h = tt
each_kind (c ∷ cs) h = each_append Counted (replicate c.count c.kind) (kinds_of cs) (each_same Counted c.count c.kind h.0) (each_kind cs h.1)

-- ---- nothing follows

nothing_at : (xs : List ℕ) (ps : List (List ℕ)) → led 10 ps ≡ 10 ∷ xs → at_end ps ≡ true → xs ≡ []
unfolding led
nothing_at xs [] e h = absurd (cc)
nothing_at xs ([] ∷ []) e h = cc
nothing_at xs ([] ∷ m ∷ ms) e h = absurd (cc)
nothing_at xs ((b ∷ bs) ∷ ms) e h = absurd (cc)

pub nothing_follows : (xs : List ℕ) → at_end (parts 10 xs) ≡ true → xs ≡ []
nothing_follows xs h = nothing_at xs (parts 10 xs) (led_parts 10 xs) h

module _ {A : Type 0} (whole : List (List Field) → Reading A) where
  record Whole (r : Run) (x : A) : Type 0 where
    rows : List (List Field)
    lines : List (List ℕ)
    line : ℕ
    place : ℕ
    was : r ≡ read rows lines line place
    end : at_end lines ≡ true
    is : whole rows ≡ sheet x

  whole_at :
      (t : Bool) (rs : List (List Field)) (ls : List (List ℕ)) (l p : ℕ) (x : A) → at_end ls ≡ t → cond t (whole rs) (turned 1 l) ≡ sheet x →
      Whole (read rs ls l p) x
  whole_at true rs ls l p x t e = record { rows = rs; lines = ls; line = l; place = p; was = refl; end = t; is = e }
  whole_at false rs ls l p x t e = absurd (cc)

  whole_of : (r : Run) (x : A) → ended whole r ≡ sheet x → Whole r x
  whole_of (refused n l) x e = absurd (cc)
  whole_of (read rs ls l p) x e = whole_at (at_end ls) rs ls l p x refl e

-- ---- the sheet

module _ {A : Type 0} (k : Kind) (stages : List Field → List Stage) (whole : List Field → List (List Field) → Reading A) where
  abbrev pub kinds : List Field → List Kind
  kinds h = k ∷ kinds_of (stages h)

  pub record Accepted (s : List ℕ) (x : A) : Type 0 where
    pub head : List Field
    pub rows : List (List Field)
    pub fine : FineRows (kinds head) (head ∷ rows)
    pub text : rows_text (kinds head) (head ∷ rows) ≡ s
    pub short : length s ≤ most_bytes
    pub is : whole head rows ≡ sheet x

  module _ (c : Counted k) (cs : (fs : List Field) → Each (λ c. Counted c.kind) (stages fs)) where
    all : (h : List Field) → Each Counted (kinds h)
    all h = (c, each_kind (stages h) (cs h))

    head_of :
        (s : List ℕ) (h : List Field) (ks : List Kind) (rs : List (List Field)) → Fine k h → rows_text (k ∷ ks) (h ∷ rs) ≡ s →
        fields_of (first_of k.letter (parts 10 s)) ≡ h
    head_of s h ks rs f e = rw (← e, first_back k.letter h c.letter (fine_wide k c h f) (rows_text ks rs))

    accepted_by :
        (s : List ℕ) (x : A) (h : List Field) (rs : List (List Field)) → fields_of (first_of k.letter (parts 10 s)) ≡ h → FineRows (kinds h) rs →
        rows_text (kinds h) rs ≡ s → length s ≤ most_bytes → whole_rows stages whole rs ≡ sheet x → Accepted s x
    accepted_by s x h (fs ∷ rs) e (more f fr) t l w =
        let z : h ≡ fs = sym e ∙ head_of s fs (kinds_of (stages h)) rs f t in
        record { head = fs; rows = rs; fine = rw z at (more {k = k} f fr); text = rw z at t; short = l; is = w }
    accepted_by s x h [] e z t l w = elim z [ ]

    pub accepted : (s : List ℕ) (x : A) → after_head stages whole (rows_of k 1 0 1 0 (parts 10 s)) ≡ sheet x → Accepted s x
    accepted s x e =
        let h : List Field = fields_of (first_of k.letter (parts 10 s)) in
        let w = whole_of (whole_rows stages whole) (in_turn (kinds h) 1 0 (parts 10 s)) x (sym (head_in_turn stages whole k c cs (parts 10 s)) ∙ e) in
        let r = rows_written (kinds h) (all h) 1 0 s w.rows w.lines w.line w.place w.was in
        let n : r.rest ≡ [] = nothing_follows r.rest (rw r.lines at w.end) in
        let t : rows_text (kinds h) w.rows ≡ s = sym (append-nil (rows_text (kinds h) w.rows)) ∙ sym (rw n at r.text) in
        accepted_by s x h w.rows refl r.fine t (omega (arith, r.within (omega arith), ap length t)) w.is

    first_fine : (h : List Field) (rs : List (List Field)) → FineRows (kinds h) (h ∷ rs) → Fine k h
    first_fine h rs (more f fr) = f

    pub accepts : (s : List ℕ) (x : A) → Accepted s x → after_head stages whole (rows_of k 1 0 1 0 (parts 10 s)) ≡ sheet x
    unfolding parts
    accepts s x a =
        let h : List Field = a.head in
        let rs : List (List Field) = h ∷ a.rows in
        let first : fields_of (first_of k.letter (parts 10 s)) ≡ h = head_of s h (kinds_of (stages h)) a.rows (first_fine h a.rows a.fine) a.text in
        let t : s ≡ rows_text (kinds h) rs ++ [] = sym a.text ∙ sym (append-nil (rows_text (kinds h) rs)) in
        let l : 0 + length (rows_text (kinds h) rs) ≤ most_bytes = omega (arith, a.short, ap length a.text) in
        head_in_turn stages whole k c cs (parts 10 s)
        ∙ ap (λ (fs : List Field). ended (whole_rows stages whole) (in_turn (kinds fs) 1 0 (parts 10 s))) first
        ∙ ap (λ (ys : List ℕ). ended (whole_rows stages whole) (in_turn (kinds h) 1 0 (parts 10 ys))) t
        ∙ ap (ended (whole_rows stages whole)) (rows_read (kinds h) rs (all h) a.fine 1 0 [] l)
        ∙ a.is
