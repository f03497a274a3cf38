-- An X line that a quick reading found is accepted, and its numbers are the row; where it found none, the rows are as they were.
-- Assumes nothing.
use Prim.Native.Nat.{ℕ, zero, suc, ◌+◌, ◌≤◌}
use mathlib.Core.Path.{◌≡◌, refl, sym, ap, ◌∙◌}
use mathlib.Core.Bool.{true, false, false≢true}
use mathlib.Core.Option.{Option, none, some}
use mathlib.Core.List.{List, [], ◌∷◌, map}
use native.Mathlib.Omega.{arith}
use borrow.Author.Tests.{eq-eqb, le-ltb}
use lib.ListN.{length, get_or, drop, set, length-map}
use lib.Seq.{set-set, set-get_or}
use Rattle.text.specs.declared.field.Field.{Field}
use Rattle.text.specs.declared.field.Field.TheVariants.{Number as number}
use Rattle.text.specs.Text.{line_at, after}
use Rattle.text.specs.Bounds.{bound_row}
use Rattle.text.proofs.Limits.{all_largest}
use Rattle.linekinds.specs.Lines.{plain, most_bytes, line_number, fields_of}
use Rattle.linekinds.specs.KeyLines.{values}
use Rattle.linekinds.specs.Reading.{Small, read_by}
use Rattle.linekinds.specs.declared.line.Read.{Read}
use Rattle.linekinds.specs.declared.line.Read.TheVariants as L
use Rattle.linekinds.proofs.PlainLines.{small_plain, number_values}
use Rattle.numberlines.specs.NumberLines.{LineOf, RowFound}
use Rattle.numberlines.specs.declared.row.Unread.{Unread}
use Rattle.numberlines.specs.declared.row.Unread.TheVariants.{Unusual, Other}
use Rattle.std.specs.Prelude.{Result, Ok, Err}
use Rattle.refusals.specs.declared.Refusal.{Refusal}
use Rattle.plansheet.specs.Shapes.{over_any, is_none}
use Rattle.plansheet.specs.PlanLines.{any, fact_shape, fact_line}
use Rattle.plansheet.specs.PlainFacts.{FactAt, FactFound, FactLeft}
use Rattle.plansheet.proofs.Shaped.{coming_number}
use Rattle.plansheet.proofs.PlainLines.{plain_line_number}
use Rattle.plansheet.proofs.Turns.{turned}
use Rattle.plansheet.proofs.FineLines.{fine_long, one_none, one_again}

-- ---- the marks

-- a number that is not over its largest, and those after it
over_next : (m : ℕ) (ms ns : List ℕ) (i : ℕ) → get_or ns i 0 ≤ m → over_any ms (drop (suc i) ns) ≡ false → over_any (m ∷ ms) (drop i ns) ≡ false
unfolding over_any
over_next m ms [] zero h e = refl
over_next m ms [] (suc i) h e = refl
over_next m ms (n ∷ ns) zero h e = rw (le-ltb m n h) e
over_next m ms (n ∷ ns) (suc i) h e = over_next m ms ns i h e

over_none : (ns : List ℕ) → over_any [] ns ≡ false
unfolding over_any
over_none ns = refl

small_any : (ns : List ℕ) (i : ℕ) → Small ns → get_or ns i 0 ≤ any
small_any [] i h = omega arith
small_any (n ∷ ns) zero h = omega (arith, h.0)
small_any (n ∷ ns) (suc i) h = small_any ns i h.1

pub marks_fine :
    (ns : List ℕ) → get_or ns 4 0 ≤ 1 → get_or ns 5 0 ≤ 1 → get_or ns 6 0 ≤ 1 → get_or ns 7 0 ≤ 1 → get_or ns 8 0 ≤ 1 → get_or ns 10 0 ≤ 1 → get_or ns 11 0 ≤ 1 →
    Small ns → over_any fact_shape.codes ns ≡ false
marks_fine ns athash exact subset met aftermet ford fplain h =
    over_next any _ ns 0 (small_any ns 0 h) (over_next any _ ns 1 (small_any ns 1 h) (over_next any _ ns 2 (small_any ns 2 h) (over_next any _ ns 3 (small_any ns 3 h)
    (over_next 1 _ ns 4 athash (over_next 1 _ ns 5 exact (over_next 1 _ ns 6 subset (over_next 1 _ ns 7 met (over_next 1 _ ns 8 aftermet
    (over_next any _ ns 9 (small_any ns 9 h) (over_next 1 _ ns 10 ford (over_next 1 _ ns 11 fplain (over_none (drop 12 ns)))))))))))))

-- ---- the line

fact_zero :
    (ns : List ℕ) (seen next : ℕ) → length ns ≡ 13 → Small ns → over_any fact_shape.codes ns ≡ false → next ≤ most_bytes →
    line_number fact_line seen next (some (map number ns)) ≡ 0
fact_zero ns seen next long small coded early =
    coming_number fact_shape seen next (some (map number ns)) ∙ plain_line_number 88 13 fact_shape.codes seen next (map number ns)
    ∙ rw (length-map ns number, eq-eqb (length ns) 13 long, ← all_largest plain (map number ns), small_plain ns small, le-ltb most_bytes next early, number_values ns, coded)

is_none_lem : (x : Option (List Field)) → is_none x ≡ true → x ≡ none
is_none_lem none e = refl
is_none_lem (some fs) e = absurd (false≢true e)

-- an X line stands there
pub fact_stands : (s : List ℕ) (at : ℕ) (fs : List Field) (end : ℕ) → LineOf 88 s at fs end → line_at 88 s at ≡ none → ⊥
fact_stands s at fs end line e = let x : some fs ≡ none = sym line.is ∙ e in let z : ◌≡◌ {A = ℕ} 0 1 = cc in omega arith

module _ (s : List ℕ) (at : ℕ) (row row' : List ℕ) where
  pub fact_plain : (end : ℕ) → length row' ≡ 13 → RowFound 88 s at row (Ok end) row' → over_any fact_shape.codes row' ≡ false → FactAt s at row' end
  fact_plain end long (line, small) coded = record {
    zero = λ seen. rw (line.is, line.goes) (fact_zero row' seen (end + 1) long small coded (omega (arith, line.early)));
    line = line;
  }

  -- where no X line stands, the row is as it was
  pub fact_none : (r : Result ℕ Unread) → FactFound s at row r row' → line_at 88 s at ≡ none → row' ≡ row
  fact_none (Ok end) o e = absurd (fact_stands s at (map number row') end o.line e)
  fact_none (Err Unusual) o e = absurd (o e)
  fact_none (Err Other) o e = o

-- ---- the row among the rows

module _ (s : List ℕ) (at : ℕ) where
  abbrev X : Option (List Field)
  X = line_at 88 s at

  -- what was read quickly
  module _ (row : List ℕ) (end : ℕ) (o : FactAt s at row end) where
    thirteen : length (map number row) ≡ 13
    thirteen = fine_long (map bound_row fact_shape.heads) fact_line refl refl 0 (after s at) (map number row) (ap (line_number fact_line 0 (after s at)) (sym o.line.is) ∙ o.zero 0)

    pub quick_answer : (seen : ℕ) → L.Line 13 (end + 1) ≡ read_by (line_number fact_line seen (after s at) X) (after s at) X
    quick_answer seen = rw (o.zero seen, o.line.is, o.line.goes, thirteen)

    pub quick_left : (n : ℕ) (rows : List (List ℕ)) → FactLeft X n rows (L.Line 13 (end + 1)) (set rows n row)
    quick_left n rows = rw (o.line.is, number_values row)

  -- what was turned back, and nothing stored
  pub left_alone : (n : ℕ) (rows : List (List ℕ)) (r : Read) (m : Refusal) → r ≡ L.Refused m → FactLeft X n rows r rows
  left_alone n rows r m e = rw e (λ one. refl)

  -- what was read after another row was stored there, which is the one that was there if no X line stands
  pub left_again :
      (n : ℕ) (rows : List (List ℕ)) (row d : List ℕ) → (X ≡ none → row ≡ get_or rows n d) →
      (r : Read) (rows' : List (List ℕ)) → r ≡ read_by (line_number fact_line 0 (after s at) X) (after s at) X → FactLeft X n (set rows n row) r rows' → FactLeft X n rows r rows'
  left_again n rows row d same (L.Line count next) rows' e l = l ∙ set-set rows n row (values (fields_of X))
  left_again n rows row d same (L.Refused m) rows' e l = λ one.
      let z : X ≡ none = is_none_lem X (one_none fact_line 0 (after s at) X (let q = turned fact_line 0 (after s at) X m e in one_again fact_line 0 (after s at) X q.1 (sym q.0 ∙ one))) in
      l one ∙ ap (set rows n) (same z) ∙ set-get_or rows n d
