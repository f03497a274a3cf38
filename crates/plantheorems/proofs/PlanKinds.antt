-- The kinds of a D sheet's lines: told by their letters, with fields of 64 bits; and what their legal runs are.
-- Assumes nothing.
use mathlib.Core.Path.{◌≡◌, refl, sym, ap, subst, ◌∙◌}
use Prim.Native.Nat.{ℕ, zero, suc, ◌+◌, ◌-◌, ◌≤◌}
use native.Mathlib.Omega.{arith}
use mathlib.Core.List.{List, [], ◌∷◌, ◌++◌, append-nil}
use mathlib.Core.Bool.{true, false}
use mathlib.Core.Option.{Option, none}
use lib.Dec.{eqb}
use lib.ListN.{length, replicate}
use borrow.Author.Tests.{eqb-true, eqb-false, eq-eqb, ne_eqb}
use Rattle.text.specs.declared.field.Field.{Field}
use Rattle.text.specs.Text.{parts, line_fields}
use Rattle.text.specs.Lines.{first_of}
use Rattle.text.specs.Write.{fields_text, line_text}
use Rattle.text.proofs.Places.{first_cons}
use Rattle.text.proofs.RoundTrip.{parts_line}
use Rattle.linekinds.specs.Lines.{read, most_bytes, plain, rows_of}
use Rattle.sheet.specs.KeySheets.{head_of}
use Rattle.sheet.specs.Sizes.{Each}
use Rattle.sheet.proofs.InTurn.{readable, Fine}
use Rattle.plansheet.specs.Shapes.{Shape, fixed_line, coming_line}
use Rattle.plansheet.specs.PlanLines.{settings_line, plan_line, node_line, child_line, fact_line, mask_line, two_to}
use Rattle.plansheet.specs.PlanTexts.{lines_text}
use Rattle.plantheorems.proofs.Runs.{Plain, Legal, stop, more, run_read}

pub settings_plain : Plain settings_line
unfolding readable
settings_plain = record { letter = λ e. omega arith; heads = refl }

pub tree_plain : Plain plan_line
unfolding readable
tree_plain = record { letter = λ e. omega arith; heads = refl }

pub node_plain : Plain node_line
unfolding readable
node_plain = record { letter = λ e. omega arith; heads = refl }

pub child_plain : Plain child_line
unfolding readable
child_plain = record { letter = λ e. omega arith; heads = refl }

pub fact_plain : Plain fact_line
unfolding readable
fact_plain = record { letter = λ e. omega arith; heads = refl }

plains_readable : (n : ℕ) → readable (replicate n plain) ≡ true
unfolding readable
plains_readable zero = refl
plains_readable (suc n) = plains_readable n

pub mask_plain : (n : ℕ) → Plain (mask_line n)
mask_plain n = record { letter = λ e. omega arith; heads = plains_readable (two_to n) }

-- ---- a known number of lines

module _ (h : Shape) (x : Option (List Field)) where
  pub fixed_each : (owed seen : ℕ) (rs : List (List Field)) → Legal (fixed_line h) x owed seen rs → Each (Fine (fixed_line h)) rs
  fixed_each owed seen rs (stop e) = tt
  fixed_each owed seen (fs ∷ rs) (more st fine legal) = (fine, fixed_each (owed - 1) (suc seen) rs legal)

  pub fixed_count : (owed seen : ℕ) (rs : List (List Field)) → Legal (fixed_line h) x owed seen rs → length rs ≡ owed
  fixed_count owed seen rs (stop e) = sym (eqb-true owed 0 e)
  fixed_count owed seen (fs ∷ rs) (more st fine legal) =
      let ne : owed ≡ 0 → ⊥ = eqb-false owed 0 st in
      let ih : length rs ≡ owed - 1 = fixed_count (owed - 1) (suc seen) rs legal in
      omega arith

  pub fixed_legal : (rs : List (List Field)) (seen : ℕ) → Each (Fine (fixed_line h)) rs → Legal (fixed_line h) x (length rs) seen rs
  fixed_legal [] seen e = stop (eq-eqb 0 0 refl)
  fixed_legal (fs ∷ rs) seen e =
      let n : length rs ≡ suc (length rs) - 1 = omega arith in
      more (ne_eqb (suc (length rs)) 0 (λ z. omega arith)) e.0 (subst (λ (k : ℕ). Legal (fixed_line h) x k (suc seen) rs) n (fixed_legal rs (suc seen) e.1))

  -- lines while they come
  pub coming_each : (owed seen : ℕ) (rs : List (List Field)) → Legal (coming_line h) x owed seen rs → Each (Fine (fixed_line h)) rs
  coming_each owed seen rs (stop e) = tt
  coming_each owed seen (fs ∷ rs) (more st fine legal) = (fine, coming_each owed (suc seen) rs legal)

pub coming_legal : (h : Shape) (owed seen : ℕ) (rs : List (List Field)) → Each (Fine (fixed_line h)) rs → Legal (coming_line h) none owed seen rs
coming_legal h owed seen [] e = stop refl
coming_legal h owed seen (fs ∷ rs) e = more refl e.0 (coming_legal h owed (suc seen) rs e.1)

-- ---- one line

pub one_row : (rs : List (List Field)) → length rs ≡ 1 → rs ≡ head_of rs ∷ []
one_row [] e = absurd (omega arith)
one_row (fs ∷ []) e = refl
one_row (fs ∷ gs ∷ rs) e = absurd (omega arith)

pub first_each : (P : List Field → Type 0) (rs : List (List Field)) → length rs ≡ 1 → Each P rs → P (head_of rs)
first_each P [] e h = absurd (omega arith)
first_each P (fs ∷ rs) e h = h.0

pub one_text : (letter : ℕ) (fs : List Field) → lines_text letter (fs ∷ []) ≡ line_text letter fs
unfolding lines_text
one_text letter fs = append-nil (line_text letter fs)

-- a line that is written is read
pub one_read :
    (h : Shape) → Plain (fixed_line h) → (fs : List Field) → Fine (fixed_line h) fs → (post : List ℕ) (line at : ℕ) → at + length (line_text h.letter fs) ≤ most_bytes →
    rows_of (fixed_line h) 1 0 line at (parts 10 (line_text h.letter fs ++ post)) ≡ read (fs ∷ []) (parts 10 post) (line + 1) (at + length (line_text h.letter fs))
one_read h c fs f post line at b =
    let t : lines_text h.letter (fs ∷ []) ≡ line_text h.letter fs = one_text h.letter fs in
    let w : at + length (lines_text h.letter (fs ∷ [])) ≤ most_bytes = rw t b in
    rw t at (run_read (fixed_line h) c 1 0 (fs ∷ []) post (fixed_legal h (first_of h.letter (parts 10 post)) (fs ∷ []) 0 (f, tt)) line at w)

-- ---- the line after the X rows is none of them

other_at : (a b : ℕ) (rest : List ℕ) → eqb b a ≡ false → line_fields a (b ∷ rest) ≡ none
unfolding line_fields
other_at a b [] e = rw e
other_at a b (c ∷ cs) e = rw e

pub other_letter : (a b : ℕ) (fs : List Field) (post : List ℕ) → eqb b a ≡ false → (b ≡ 10 → ⊥) → first_of a (parts 10 (line_text b fs ++ post)) ≡ none
other_letter a b fs post e ne = ap (first_of a) (parts_line b fs ne post) ∙ first_cons a 10 (b ∷ fields_text fs) post ∙ other_at a b (fields_text fs) e
