-- A tree line that was read quickly is the line that its fields say, and its row is theirs.
-- Assumes nothing.
use Prim.Native.Nat.{ℕ, ◌+◌, ◌≤◌, ◌<◌}
use mathlib.Core.Path.{◌≡◌, refl, sym, ap, subst, ◌∙◌}
use mathlib.Core.Bool.{Bool, true, false, cond}
use mathlib.Core.Option.{Option}
use mathlib.Core.List.{List, [], ◌∷◌, map}
use native.Mathlib.Omega.{arith}
use borrow.Author.Tests.{le-leb, le-ltb}
use lib.Dec.{eqb}
use lib.ListN.{length, get_or, set}
use Rattle.text.specs.declared.field.Field.{Field}
use Rattle.text.specs.declared.field.Field.TheVariants.{Number as number, Empty as empty}
use Rattle.text.specs.Text.{row, line_at, after}
use Rattle.text.specs.Bounds.{row_within, fits_rows}
use Rattle.linekinds.specs.Lines.{Kind, fields_of}
use Rattle.linekinds.specs.Reading.{Small, row_values, read_by}
use Rattle.linekinds.specs.declared.line.Read.TheVariants as L
use Rattle.numberlines.specs.NumberLines.{OperatorLine, OperatorFound}
use Rattle.std.specs.Prelude.{Result, Ok, Err}
use Rattle.refusals.specs.declared.Refusal.{Refusal}
use Rattle.refusals.specs.Refusals.{refusal_of}
use Rattle.plansheet.specs.Shapes.{over_any, tree_line, children_at}
use Rattle.plansheet.specs.PlanSheets.{operator_row}
use Rattle.plansheet.specs.ReadRows.{Bounded, shape_of, tree_number}
use Rattle.plansheet.specs.PlainTrees.{Wide, PlainCodes, PlainShape, OperatorFits, OperatorHeld, OperatorRead, number_at, tree_row_by}
use Rattle.plansheet.specs.declared.tree.TreeRow.{TreeRow}
use Rattle.plansheet.proofs.TreeNumbers.{shape_fine, tree_fit}
use Rattle.plansheet.proofs.Shaped.{tree_codes, line_read_lem}

-- ---- a line as a row

abbrev pub tree_row_of : ℕ → ℕ → TreeRow
tree_row_of children next = record { children = children; next = next }

abbrev pub row_on : ℕ → ℕ → Result TreeRow Refusal
row_on children next = Ok (tree_row_of children next)

module _ (n next : ℕ) (x : Option (List Field)) where
  row_read_lem :
      (t : Bool) (count after : ℕ) → L.Line count after ≡ cond t (L.Line (length (fields_of x)) next) (L.Refused (refusal_of n)) →
      Ok (tree_row_of (children_at (fields_of x)) after) ≡ cond t (Ok (tree_row_of (children_at (fields_of x)) next)) (Err (refusal_of n))
  row_read_lem true count after e = cc
  row_read_lem false count after e = let z : ◌≡◌ {A = ℕ} 0 1 = cc in absurd (omega arith)

  pub row_read : (count after : ℕ) → L.Line count after ≡ read_by n next x → Ok (tree_row_of (children_at (fields_of x)) after) ≡ tree_row_by n next x
  row_read count after e = row_read_lem (eqb n 0) count after e

  row_refused_lem :
      (t : Bool) (m : Refusal) → L.Refused m ≡ cond t (L.Line (length (fields_of x)) next) (L.Refused (refusal_of n)) →
      Err m ≡ cond t (Ok (tree_row_of (children_at (fields_of x)) next)) (Err (refusal_of n))
  row_refused_lem true m e = let z : ◌≡◌ {A = ℕ} 0 1 = cc in absurd (omega arith)
  row_refused_lem false m e = cc

  pub row_refused : (m : Refusal) → L.Refused m ≡ read_by n next x → Err m ≡ tree_row_by n next x
  row_refused m e = row_refused_lem (eqb n 0) m e

  line_read_by :
      (t : Bool) (children after : ℕ) → Ok (tree_row_of children after) ≡ cond t (Ok (tree_row_of (children_at (fields_of x)) next)) (Err (refusal_of n)) →
      (L.Line (length (fields_of x)) after ≡ cond t (L.Line (length (fields_of x)) next) (L.Refused (refusal_of n))) × (children ≡ children_at (fields_of x))
  line_read_by true children after e =
      let is : tree_row_of children after ≡ tree_row_of (children_at (fields_of x)) next = cc in
      (ap (λ (r : TreeRow). L.Line (length (fields_of x)) r.next) is, ap (λ (r : TreeRow). r.children) is)
  line_read_by false children after e = let z : ◌≡◌ {A = ℕ} 0 1 = cc in absurd (omega arith)

  pub line_again : (children after : ℕ) → Ok (tree_row_of children after) ≡ tree_row_by n next x → (L.Line (length (fields_of x)) after ≡ read_by n next x) × (children ≡ children_at (fields_of x))
  line_again children after e = line_read_by (eqb n 0) children after e

  line_refused_lem :
      (t : Bool) (m : Refusal) → Err m ≡ cond t (Ok (tree_row_of (children_at (fields_of x)) next)) (Err (refusal_of n)) →
      L.Refused m ≡ cond t (L.Line (length (fields_of x)) next) (L.Refused (refusal_of n))
  line_refused_lem true m e = let z : ◌≡◌ {A = ℕ} 0 1 = cc in absurd (omega arith)
  line_refused_lem false m e = cc

  pub refused_again : (m : Refusal) → Err m ≡ tree_row_by n next x → L.Refused m ≡ read_by n next x
  refused_again m e = line_refused_lem (eqb n 0) m e

-- ---- small numbers and no limit, within bounds and codes

within : (b : List ℕ) (n : ℕ) → 65535 ≤ get_or b 1 0 → n < 65536 → row_within b (row (number n)) ≡ true
within b n w h = rw (le-leb 0 (get_or b 0 0) (omega arith), le-leb n (get_or b 1 0) (omega arith))

absent : (b : List ℕ) → get_or b 0 0 ≡ 1 → row_within b (row empty) ≡ true
absent b o = rw (le-leb 1 (get_or b 0 0) (omega arith), le-leb 0 (get_or b 1 0) (omega arith))

module _ (kind count keeps order tracked need children : ℕ) (small : Small (kind ∷ count ∷ keeps ∷ order ∷ tracked ∷ need ∷ children ∷ [])) where
  abbrev fields : List Field
  fields = number kind ∷ number count ∷ number keeps ∷ empty ∷ number order ∷ number tracked ∷ number need ∷ number children ∷ []

  bounds_fit : (bs : List (List ℕ)) → length bs ≡ 8 → Wide bs → get_or (get_or bs 3 []) 0 0 ≡ 1 → fits_rows bs (map row fields) ≡ true
  unfolding fits_rows
  bounds_fit (a ∷ b ∷ c ∷ d ∷ e ∷ f ∷ g ∷ h ∷ []) n w o =
      rw (
        within a kind (w 0 (omega arith)) (omega arith),
        within b count (w 1 (omega arith)) (omega arith),
        within c keeps (w 2 (omega arith)) (omega arith),
        absent d o,
        within e order (w 4 (omega arith)) (omega arith),
        within f tracked (w 5 (omega arith)) (omega arith),
        within g need (w 6 (omega arith)) (omega arith),
        within h children (w 7 (omega arith)) (omega arith),
      )
  bounds_fit [] n w o = absurd (omega arith)
  bounds_fit (a ∷ []) n w o = absurd (omega arith)
  bounds_fit (a ∷ b ∷ []) n w o = absurd (omega arith)
  bounds_fit (a ∷ b ∷ c ∷ []) n w o = absurd (omega arith)
  bounds_fit (a ∷ b ∷ c ∷ d ∷ []) n w o = absurd (omega arith)
  bounds_fit (a ∷ b ∷ c ∷ d ∷ e ∷ []) n w o = absurd (omega arith)
  bounds_fit (a ∷ b ∷ c ∷ d ∷ e ∷ f ∷ []) n w o = absurd (omega arith)
  bounds_fit (a ∷ b ∷ c ∷ d ∷ e ∷ f ∷ g ∷ []) n w o = absurd (omega arith)
  bounds_fit (a ∷ b ∷ c ∷ d ∷ e ∷ f ∷ g ∷ h ∷ i ∷ bs) n w o = absurd (omega arith)

  codes_fit :
      (ms : List ℕ) → PlainCodes ms → keeps ≤ get_or ms 2 0 → tracked ≤ get_or ms 5 0 → need ≤ get_or ms 6 0 →
      over_any ms (kind ∷ count ∷ keeps ∷ 0 ∷ order ∷ tracked ∷ need ∷ children ∷ []) ≡ false
  unfolding over_any
  codes_fit (a ∷ b ∷ c ∷ d ∷ e ∷ f ∷ g ∷ []) p k t n =
      rw (
        le-ltb a kind (omega (arith, p.kind)),
        le-ltb b count (omega (arith, p.count)),
        le-ltb c keeps k,
        le-ltb d 0 (omega arith),
        le-ltb e order (omega (arith, p.order)),
        le-ltb f tracked t,
        le-ltb g need n,
      )
  codes_fit [] p k t n = absurd (omega (arith, p.seven))
  codes_fit (a ∷ []) p k t n = absurd (omega (arith, p.seven))
  codes_fit (a ∷ b ∷ []) p k t n = absurd (omega (arith, p.seven))
  codes_fit (a ∷ b ∷ c ∷ []) p k t n = absurd (omega (arith, p.seven))
  codes_fit (a ∷ b ∷ c ∷ d ∷ []) p k t n = absurd (omega (arith, p.seven))
  codes_fit (a ∷ b ∷ c ∷ d ∷ e ∷ []) p k t n = absurd (omega (arith, p.seven))
  codes_fit (a ∷ b ∷ c ∷ d ∷ e ∷ f ∷ []) p k t n = absurd (omega (arith, p.seven))
  codes_fit (a ∷ b ∷ c ∷ d ∷ e ∷ f ∷ g ∷ h ∷ ms) p k t n = absurd (omega (arith, p.seven))

-- no most
sizes_fit : (ms ns : List ℕ) → length ms ≡ 0 → over_any ms ns ≡ false
unfolding over_any
sizes_fit [] ns e = refl
sizes_fit (m ∷ ms) ns e = absurd (omega arith)

-- ---- the line that was read

module _
    (letter : ℕ) (bs : List (List ℕ)) (sizes codes : List ℕ) (rules : List (List ℕ)) (most seen : ℕ) (s : List ℕ) (at : ℕ) (shape : PlainShape letter bs sizes codes)
    (bounded : Bounded bs) (few : seen < most) (end : ℕ) (row' : List ℕ) (h : OperatorHeld letter s at seen codes rules end row') where
  abbrev K : Kind
  K = tree_line (shape_of letter bs sizes codes) rules most

  abbrev O : OperatorLine letter s at h.before end h.found
  O = h.line

  abbrev F : List Field
  F = fields O.kind O.count O.keeps O.order O.tracked O.need O.children O.small

  fits : OperatorFits codes rules (get_or h.before 0 0 ∷ O.kind ∷ O.count ∷ O.keeps ∷ 0 ∷ 0 ∷ O.order ∷ 0 ∷ O.tracked ∷ O.need ∷ O.children ∷ [])
  fits = subst (λ (r : List ℕ). OperatorFits codes rules r) O.held h.fits

  zero : 0 ≡ tree_number sizes codes rules most seen (after s at) (map row F)
  zero =
      tree_fit sizes codes rules most seen (after s at) (map row F) refl few fits.few 0
      (shape_fine sizes codes (after s at) (row_values (map row F)) (omega (arith, O.line.goes, O.line.early)) (sizes_fit sizes (row_values (map row F)) shape.unsized)
      (codes_fit O.kind O.count O.keeps O.order O.tracked O.need O.children O.small codes shape.coded fits.keeps fits.tracked fits.need))
      refl fits.known fits.rule

  line_quick : L.Line 8 (end + 1) ≡ read_by (number_at K seen s at) (after s at) (line_at letter s at)
  line_quick =
      line_read_lem bs bounded K refl refl seen (after s at) (line_at letter s at) (record { count = 8; next = end + 1 })
      (record {
        fs = F;
        is = O.line.is;
        counts = refl;
        goes = sym O.line.goes;
        within = bounds_fit O.kind O.count O.keeps O.order O.tracked O.need O.children O.small bs shape.eight shape.wide shape.optional;
      })
      0 (zero ∙ tree_codes letter bs sizes codes rules most seen (after s at) F) refl

  pub quick_held : row' ≡ operator_row (seen + 1) (fields_of (line_at letter s at))
  quick_held = h.held ∙ ap (λ (r : List ℕ). set r 0 (seen + 1)) O.held ∙ ap (λ (x : Option (List Field)). operator_row (seen + 1) (fields_of x)) (sym O.line.is)

  pub quick_row : (children : ℕ) → children ≡ get_or row' 10 0 → Ok (tree_row_of children (end + 1)) ≡ tree_row_by (number_at K seen s at) (after s at) (line_at letter s at)
  quick_row children e =
      ap (λ (n : ℕ). row_on n (end + 1)) (e ∙ ap (λ (r : List ℕ). get_or r 10 0) quick_held)
      ∙ row_read (number_at K seen s at) (after s at) (line_at letter s at) 8 (end + 1) line_quick

-- ---- what `operator_read` leaves

module _ (letter : ℕ) (s : List ℕ) (at seen : ℕ) (codes : List ℕ) (rules : List (List ℕ)) where
  pub operator_held :
      (end : ℕ) (before found row' : List ℕ) → OperatorFound letter s at before (Ok end) found → OperatorFits codes rules found → row' ≡ set found 0 (seen + 1) →
      OperatorRead letter s at seen codes rules (Ok end) row'
  operator_held end before found row' o f e = record { before = before; found = found; line = o; fits = f; held = e }
