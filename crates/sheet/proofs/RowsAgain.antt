-- Reading and writing lines of kinds in turn are inverse: what was read is fine and is written as it stood, and fine rows that are written are read.
use mathlib.Core.Path.{◌≡◌, refl, sym, ap, ◌∙◌}
use Prim.Native.Nat.{ℕ, suc, ◌+◌, ◌≤◌}
use native.Mathlib.Omega.{arith}
use native.Mathlib.Nat.{add-zero}
use mathlib.Core.List.{List, [], ◌∷◌, ◌++◌, append_assoc, tail}
use mathlib.Core.Bool.{Bool, true, false, cond, ◌&&◌, ◌||◌}
use mathlib.Core.Option.{Option, none, some}
use lib.Dec.{eqb, ltb, leb}
use lib.ListN.{length, take, drop, length-append, take-append-drop}
use borrow.Author.Tests.{eqb-true, ltb-false, le-ltb, le-leb, leb-true}
use Rattle.std.proofs.lemmas.Bool.{and_parts}
use Rattle.text.specs.declared.field.Field.{Field}
use Rattle.text.specs.declared.field.Field.TheVariants.{Number as number, Empty as empty, Malformed as malformed}
use Rattle.text.specs.Text.{most, parts, after}
use Rattle.text.specs.Lines.{first_of, next_of}
use Rattle.text.specs.Bounds.{Bound, widest, allows, allows_all, fits}
use Rattle.text.specs.Write.{fields_text, line_text}
use Rattle.text.proofs.Limits.{all_well}
use Rattle.text.proofs.Lengths.{line_length}
use Rattle.text.proofs.Places.{bridge}
use Rattle.text.proofs.RoundTrip.{parts_line, first_back}
use Rattle.text.proofs.WrittenBack.{line_again}
use Rattle.linekinds.specs.Lines.{Kind, Run, read, refused, before, most_bytes, plain, whole_entries, fields_fit, too_many_entries, line_number, fields_of}
use Rattle.sheet.specs.Sizes.{Each}
use Rattle.sheet.specs.SheetLines.{in_turn}
use Rattle.sheet.proofs.InTurn.{readable, Counted, rows_text, Fine, FineRows, empty as no_rows, more}

-- ---- fields that fit are within 64 bits

allows_wider : (b : Bound) (f : Field) → b.largest ≤ most → allows b f ≡ true → allows widest f ≡ true
allows_wider b (number n) h e = le-leb n most (omega (arith, leb-true n b.largest e))
allows_wider b empty h e = refl
allows_wider b malformed h e = e

all_wider : (b : Bound) (fs : List Field) → b.largest ≤ most → allows_all b fs ≡ true → allows_all widest fs ≡ true
unfolding allows_all
all_wider b [] h e = refl
all_wider b (f ∷ fs) h e = let p = and_parts (allows b f) (allows_all b fs) e in rw (allows_wider b f h p.0) (all_wider b fs h p.1)

fits_wider : (bs : List Bound) (fs : List Field) → readable bs ≡ true → fits bs fs ≡ true → allows_all widest fs ≡ true
unfolding fits allows_all readable
fits_wider bs [] h e = refl
fits_wider [] (f ∷ fs) h e = absurd (cc)
fits_wider (b ∷ bs) (f ∷ fs) h e =
    let p = and_parts (allows b f) (fits bs fs) e in
    let q = and_parts (leb b.largest most) (readable bs) h in
    rw (allows_wider b f (leb-true b.largest most q.0) p.0) (fits_wider bs fs q.1 p.1)

all_append : (b : Bound) (fs gs : List Field) → allows_all b fs ≡ true → allows_all b gs ≡ true → allows_all b (fs ++ gs) ≡ true
unfolding allows_all
all_append b [] gs e h = h
all_append b (f ∷ fs) gs e h = let p = and_parts (allows b f) (allows_all b fs) e in rw p.0 (all_append b fs gs p.1 h)

module _ (k : Kind) (c : Counted k) (fs : List Field) (fine : Fine k fs) where
  pub fine_wide : allows_all widest fs ≡ true
  fine_wide =
      let n : ℕ = length k.heads in
      let p = and_parts (fits k.heads (take n fs)) (allows_all plain (drop n fs) && whole_entries k.width (length (drop n fs))) fine.fit in
      let q = and_parts (allows_all plain (drop n fs)) (whole_entries k.width (length (drop n fs))) p.1 in
      rw take-append-drop at (all_append widest (take n fs) (drop n fs) (fits_wider k.heads (take n fs) c.heads p.0) (all_wider plain (drop n fs) (omega arith) q.0))

-- ---- one line

-- what is known where no number is given
pub number_at_lem :
    (a b o f l d u : Bool) → ◌≡◌ {A = ℕ} (cond a (cond b 2 (cond (o || (f || l)) 3 (cond d 4 (cond u 6 0)))) 2) 0 →
    (a ≡ true) × (b ≡ false) × (o ≡ false) × (f ≡ false) × (l ≡ false) × (d ≡ false) × (u ≡ false)
number_at_lem false b o f l d u e = absurd (omega arith)
number_at_lem true true o f l d u e = absurd (omega arith)
number_at_lem true false true f l d u e = absurd (omega arith)
number_at_lem true false false true l d u e = absurd (omega arith)
number_at_lem true false false false true d u e = absurd (omega arith)
number_at_lem true false false false false true u e = absurd (omega arith)
number_at_lem true false false false false false true e = absurd (omega arith)
number_at_lem true false false false false false false e = (refl, refl, refl, refl, refl, refl, refl)

-- no number: the line is there, it is fine, and it ends in time
pub record Taken (k : Kind) (next : ℕ) (x : Option (List Field)) : Type 0 where
  pub fs : List Field
  pub is : x ≡ some fs
  pub fine : Fine k fs
  pub within : next ≤ most_bytes

pub taken : (k : Kind) (next : ℕ) (x : Option (List Field)) → line_number k 0 next x ≡ 0 → Taken k next x
unfolding line_number
taken k next none e = absurd (omega arith)
taken k next (some fs) e =
    let p = number_at_lem (fields_fit k fs) (k.malformed fs) (ltb most_bytes next) (too_many_entries k fs) (k.large 0 fs) (k.undefined fs) (k.unfit fs) e in
    record {
      fs = fs;
      is = refl;
      fine = record { fit = p.0; formed = p.1; few = p.3; small = p.4; defined = p.5; suited = p.6 };
      within = ltb-false most_bytes next p.2;
    }

pub not_turned : (k : Kind) (next : ℕ) (fs : List Field) → Fine k fs → next ≤ most_bytes → line_number k 0 next (some fs) ≡ 0
unfolding line_number
not_turned k next fs f h = rw (f.fit, f.formed, le-ltb most_bytes next h, f.few, f.small, f.defined, f.suited)

module _ (k : Kind) (c : Counted k) (fs : List Field) (fine : Fine k fs) where
  -- a line that is written, and what follows it
  pub lines_of : (post : List ℕ) → parts 10 (line_text k.letter fs ++ post) ≡ (k.letter ∷ fields_text fs) ∷ parts 10 post
  lines_of post = parts_line k.letter fs c.letter post

  pub next_of_lem : (at : ℕ) (ls : List (List ℕ)) → next_of at ((k.letter ∷ fields_text fs) ∷ ls) ≡ at + length (line_text k.letter fs)
  next_of_lem at ls = omega (arith, line_length k.letter fs)

  -- a text that begins with such a line
  pub text_of : (s : List ℕ) → first_of k.letter (parts 10 s) ≡ some fs → s ≡ line_text k.letter fs ++ drop (after s 0) s
  text_of s e = line_again k.letter s 0 fs (bridge k.letter s 0 ∙ e) (all_well widest fs (fine_wide k c fs fine))

-- ---- lines in turn

-- what it means that rows were read
pub record Written (ks : List Kind) (at : ℕ) (s : List ℕ) (rs : List (List Field)) (ls : List (List ℕ)) : Type 0 where
  pub rest : List ℕ
  pub lines : ls ≡ parts 10 rest
  pub text : s ≡ rows_text ks rs ++ rest
  pub fine : FineRows ks rs
  pub within : at ≤ most_bytes → at + length (rows_text ks rs) ≤ most_bytes

-- a run that goes on was read, and so was the rest of it
record Goes (b : Bool) (fs : List Field) (r : Run) (rs : List (List Field)) (ls : List (List ℕ)) (l p : ℕ) : Type 0 where
  tested : b ≡ true
  qs : List (List Field)
  rows : rs ≡ fs ∷ qs
  goes : r ≡ read qs ls l p

goes_on :
    (b : Bool) (fs : List Field) (r : Run) (n line : ℕ) (rs : List (List Field)) (ls : List (List ℕ)) (l p : ℕ) →
    cond b (before fs r) (refused n line) ≡ read rs ls l p → Goes b fs r rs ls l p
goes_on true fs (read qs ms m q) n line rs ls l p e =
    let a : ms ≡ ls = cc in
    let b : m ≡ l = cc in
    let d : q ≡ p = cc in
    record { tested = refl; qs = qs; rows = cc; goes = rw (a, b, d) }
goes_on true fs (refused m q) n line rs ls l p e = absurd (cc)
goes_on false fs r n line rs ls l p e = absurd (cc)

module _ (k : Kind) (c : Counted k) (ks : List Kind) (line at : ℕ) (s : List ℕ) (rs : List (List Field)) (ls : List (List ℕ)) (l p : ℕ) where
  more_written :
      Taken k (next_of at (parts 10 s)) (first_of k.letter (parts 10 s)) →
      Goes true (fields_of (first_of k.letter (parts 10 s))) (in_turn ks (suc line) (next_of at (parts 10 s)) (tail (parts 10 s))) rs ls l p →
      ((next : ℕ) (post : List ℕ) (qs : List (List Field)) → in_turn ks (suc line) next (parts 10 post) ≡ read qs ls l p → Written ks next post qs ls) →
      Written (k ∷ ks) at s rs ls
  more_written t g ih =
      let fs : List Field = t.fs in
      let one : List ℕ = line_text k.letter t.fs in
      let post : List ℕ = drop (after s 0) s in
      let text : s ≡ one ++ post = text_of k c fs t.fine s t.is in
      let lines : parts 10 s ≡ (k.letter ∷ fields_text fs) ∷ parts 10 post = ap (parts 10) text ∙ lines_of k c fs t.fine post in
      let next : next_of at (parts 10 s) ≡ at + length one = ap (next_of at) lines ∙ next_of_lem k c fs t.fine at (parts 10 post) in
      let first : fields_of (first_of k.letter (parts 10 s)) ≡ fs = ap fields_of t.is in
      let rows : rs ≡ fs ∷ g.qs = g.rows ∙ ap (λ (y : List Field). y ∷ g.qs) first in
      let w : Written ks (at + length one) post g.qs ls = ih (at + length one) post g.qs (sym (λ j. in_turn ks (suc line) (next j) (tail (lines j))) ∙ g.goes) in
      rw rows (record {
        rest = w.rest;
        lines = w.lines;
        text = text ∙ ap (λ (ys : List ℕ). one ++ ys) w.text ∙ sym (append_assoc one (rows_text ks g.qs) w.rest);
        fine = more t.fine w.fine;
        within = λ h. omega (arith, w.within (omega (arith, t.within)), length-append one (rows_text ks g.qs));
      })

pub rows_written :
    (ks : List Kind) → Each Counted ks → (line at : ℕ) (s : List ℕ) (rs : List (List Field)) (ls : List (List ℕ)) (l p : ℕ) →
    in_turn ks line at (parts 10 s) ≡ read rs ls l p → Written ks at s rs ls
unfolding in_turn
rows_written [] cs line at s rs ls l p e =
    let q : [] ≡ rs = cc in
    record { rest = s; lines = cc; text = refl; fine = rw (← q) no_rows; within = λ h. omega arith }
rows_written (k ∷ ks) cs line at s rs ls l p e =
    let x : Option (List Field) = first_of k.letter (parts 10 s) in
    let n : ℕ = line_number k 0 (next_of at (parts 10 s)) x in
    let g = goes_on (eqb n 0) (fields_of x) (in_turn ks (suc line) (next_of at (parts 10 s)) (tail (parts 10 s))) n line rs ls l p e in
    more_written k cs.0 ks line at s rs ls l p (taken k (next_of at (parts 10 s)) x (eqb-true n 0 g.tested))
    (rw g.tested at g)
    (λ next post qs r. rows_written ks cs.1 (suc line) next post qs ls l p r)

-- ---- and back

turn_line :
    (k : Kind) (ks : List Kind) (fs : List Field) (line at : ℕ) (ls : List (List ℕ)) → first_of k.letter ls ≡ some fs → line_number k 0 (next_of at ls) (some fs) ≡ 0 →
    in_turn (k ∷ ks) line at ls ≡ before fs (in_turn ks (suc line) (next_of at ls) (tail ls))
unfolding in_turn
turn_line k ks fs line at ls e n = rw (e, n)

pub rows_read :
    (ks : List Kind) (rs : List (List Field)) → Each Counted ks → FineRows ks rs → (line at : ℕ) (post : List ℕ) → at + length (rows_text ks rs) ≤ most_bytes →
    in_turn ks line at (parts 10 (rows_text ks rs ++ post)) ≡ read rs (parts 10 post) (line + length ks) (at + length (rows_text ks rs))
unfolding in_turn
rows_read ks rs cs no_rows line at post h = rw (add-zero line, add-zero at)
rows_read (k ∷ ks) (fs ∷ rs) cs (more f fr) line at post h =
    let one : List ℕ = line_text k.letter fs in
    let after : List ℕ = rows_text ks rs ++ post in
    let total : length (one ++ rows_text ks rs) ≡ length one + length (rows_text ks rs) = length-append one (rows_text ks rs) in
    let first : first_of k.letter (parts 10 (one ++ after)) ≡ some fs = first_back k.letter fs cs.0.letter (fine_wide k cs.0 fs f) after in
    let lines : parts 10 (one ++ after) ≡ (k.letter ∷ fields_text fs) ∷ parts 10 after = lines_of k cs.0 fs f after in
    let next : next_of at (parts 10 (one ++ after)) ≡ at + length one = ap (next_of at) lines ∙ next_of_lem k cs.0 fs f at (parts 10 after) in
    let none : line_number k 0 (next_of at (parts 10 (one ++ after))) (some fs) ≡ 0 = not_turned k _ fs f (omega arith) in
    let e : suc line + length ks ≡ line + suc (length ks) = omega arith in
    let d : at + length one + length (rows_text ks rs) ≡ at + length (one ++ rows_text ks rs) = omega arith in
    ap (λ (ys : List ℕ). in_turn (k ∷ ks) line at (parts 10 ys)) (append_assoc one (rows_text ks rs) post)
    ∙ turn_line k ks fs line at (parts 10 (one ++ after)) first none
    ∙ (λ j. before fs (in_turn ks (suc line) (next j) (tail (lines j))))
    ∙ ap (before fs) (rows_read ks rs cs.1 fr (suc line) (at + length one) post (omega arith))
    ∙ (λ j. read (fs ∷ rs) (parts 10 post) (e j) (d j))
