-- A sheet is turned back by the first wrong line, or else where its lists do not fit; and accepted exactly when neither holds.
use mathlib.Core.Path.{◌≡◌, refl, sym, ◌∙◌}
use mathlib.Core.Logic.{◌⊎◌, inl, inr, ◌↔◌}
use Prim.Native.Nat.{ℕ, zero, suc, ◌+◌, ◌<◌}
use native.Mathlib.Omega.{arith}
use mathlib.Core.List.{List, [], ◌∷◌, tail}
use mathlib.Core.Bool.{Bool, true, false, cond}
use mathlib.Core.Option.{Option}
use lib.Dec.{eqb}
use lib.ListN.{get_or}
use borrow.Author.Tests.{eqb-true, eqb-false, eq-eqb}
use Rattle.text.specs.declared.field.Field.{Field}
use Rattle.text.specs.Text.{parts}
use Rattle.text.specs.Lines.{first_of, next_of}
use Rattle.keys.specs.Adjust.{KeySheet}
use Rattle.keys.specs.Inputs.{JoinSheet}
use Rattle.linekinds.specs.Lines.{Kind, Run, refused, before, line_number, fields_of, at_end}
use Rattle.sheet.specs.KeySheets.{Reading, sheet, turned, ended, key_lists_fit, key_whole, join_whole, stages_of_key, stages_of_input, read_key_sheet, read_join_sheet}
use Rattle.sheet.specs.SheetLines.{in_turn}
use Rattle.sheet.proofs.Chained.{whole_rows, ended_before}
use Rattle.sheet.proofs.ReadExactly.{made_fits}
use Rattle.sheet.proofs.KeyAccepted.{key_in_turn, join_in_turn}
use Rattle.sheet.specs.Refusals.{line_numbers, line_rows, NoLine, FirstLine, TurnedBack, key_kinds, key_numbers, key_sheet_in, join_kinds, join_numbers, join_sheet_in, join_fits}

-- ---- the first number that is not 0

no_line : (n : ℕ) (ns : List ℕ) → n ≡ 0 → NoLine ns → NoLine (n ∷ ns)
no_line n ns e h zero = e
no_line n ns e h (suc i) = h i

all_before : (p n : ℕ) (ns : List ℕ) → n ≡ 0 → ((i : ℕ) → i < p → get_or ns i 0 ≡ 0) → (i : ℕ) → i < suc p → get_or (n ∷ ns) i 0 ≡ 0
all_before p n ns e h zero l = e
all_before p n ns e h (suc i) l = h i (omega arith)

one_more : (line m : ℕ) (ns : List ℕ) (n l : ℕ) → m ≡ 0 → FirstLine (suc line) ns n l → FirstLine line (m ∷ ns) n l
one_more line m ns n l e f = record { past = suc f.past; line = omega (arith, f.line); number = f.number; wrong = f.wrong; first = all_before f.past m ns e f.first }

-- ---- a reading, by the numbers of its lines

module _ {A : Type 0} where
  unfoldable pub judged : ℕ → List ℕ → Reading A → Reading A
  judged line [] r = r
  judged line (n ∷ ns) r = cond (eqb n 0) (judged (suc line) ns r) (turned n line)

  end_at : (t : Bool) (r : Reading A) (line : ℕ) → cond t r (turned 1 line) ≡ cond (eqb (cond t 0 1) 0) r (turned (cond t 0 1) line)
  end_at true r line = refl
  end_at false r line = refl

  line_at_lem :
      (t : Bool) (whole : List (List Field) → Reading A) (fs : List Field) (r : Run) (n line : ℕ) (s : Reading A) →
      ended (λ rs. whole (fs ∷ rs)) r ≡ s → ended whole (cond t (before fs r) (refused n line)) ≡ cond t s (turned n line)
  line_at_lem true whole fs r n line s e = ended_before whole fs r ∙ e
  line_at_lem false whole fs r n line s e = refl

  pub turn_judged :
      (whole : List (List Field) → Reading A) (ks : List Kind) (line at : ℕ) (ls : List (List ℕ)) →
      ended whole (in_turn ks line at ls) ≡ judged line (line_numbers ks at ls) (whole (line_rows ks ls))
  unfolding in_turn judged line_numbers line_rows
  turn_judged whole [] line at ls = end_at (at_end ls) (whole []) line
  turn_judged whole (k ∷ ks) line at ls =
      let x : Option (List Field) = first_of k.letter ls in
      let n : ℕ = line_number k 0 (next_of at ls) x in
      line_at_lem (eqb n 0) whole (fields_of x) (in_turn ks (suc line) (next_of at ls) (tail ls)) n line _ (turn_judged (λ rs. whole (fields_of x ∷ rs)) ks (suc line) (next_of at ls) (tail ls))

  judged_at :
      (t : Bool) (line m : ℕ) (ns : List ℕ) (r : Reading A) (n l : ℕ) → eqb m 0 ≡ t → cond t (judged (suc line) ns r) (turned m line) ≡ turned n l →
      (judged (suc line) ns r ≡ turned n l → FirstLine (suc line) ns n l ⊎ (NoLine ns × (r ≡ turned n l))) → FirstLine line (m ∷ ns) n l ⊎ (NoLine (m ∷ ns) × (r ≡ turned n l))
  judged_at true line m ns r n l t e ih = go (ih e)
    where
      z : m ≡ 0
      z = eqb-true m 0 t

      go : FirstLine (suc line) ns n l ⊎ (NoLine ns × (r ≡ turned n l)) → FirstLine line (m ∷ ns) n l ⊎ (NoLine (m ∷ ns) × (r ≡ turned n l))
      go (inl f) = inl (one_more line m ns n l z f)
      go (inr p) = inr (no_line m ns z p.0, p.1)
  judged_at false line m ns r n l t e ih =
      let a : m ≡ n = cc in
      let b : line ≡ l = cc in
      inl (record { past = 0; line = omega arith; number = a; wrong = λ z. eqb-false m 0 t (a ∙ z); first = λ i h. absurd (omega arith) })

  judged_turned : (line : ℕ) (ns : List ℕ) (r : Reading A) (n l : ℕ) → judged line ns r ≡ turned n l → FirstLine line ns n l ⊎ (NoLine ns × (r ≡ turned n l))
  unfolding judged
  judged_turned line [] r n l e = inr (λ i. refl, e)
  judged_turned line (m ∷ ns) r n l e = judged_at (eqb m 0) line m ns r n l refl e (judged_turned (suc line) ns r n l)

  turned_at :
      (t : Bool) (line m : ℕ) (ns : List ℕ) (r : Reading A) (n l : ℕ) (f : FirstLine line (m ∷ ns) n l) → eqb m 0 ≡ t →
      (FirstLine (suc line) ns n l → judged (suc line) ns r ≡ turned n l) → cond t (judged (suc line) ns r) (turned m line) ≡ turned n l
  turned_at t line m ns r n l f e ih = go t e f.past f.line f.number f.first
    where
      go :
          (t : Bool) → eqb m 0 ≡ t → (p : ℕ) → l ≡ line + p → get_or (m ∷ ns) p 0 ≡ n → ((i : ℕ) → i < p → get_or (m ∷ ns) i 0 ≡ 0) →
          cond t (judged (suc line) ns r) (turned m line) ≡ turned n l
      go true e zero q a h = absurd (f.wrong (sym a ∙ eqb-true m 0 e))
      go true e (suc p) q a h = ih (record { past = p; line = omega arith; number = a; wrong = f.wrong; first = λ i k. h (suc i) (omega arith) })
      go false e zero q a h = let z : line ≡ l = omega arith in rw (a, z)
      go false e (suc p) q a h = absurd (eqb-false m 0 e (h 0 (omega arith)))

  first_judged : (line : ℕ) (ns : List ℕ) (r : Reading A) (n l : ℕ) → FirstLine line ns n l → judged line ns r ≡ turned n l
  unfolding judged
  first_judged line [] r n l f = absurd (f.wrong (sym f.number))
  first_judged line (m ∷ ns) r n l f = turned_at (eqb m 0) line m ns r n l f refl (first_judged (suc line) ns r n l)

  none_judged : (line : ℕ) (ns : List ℕ) (r : Reading A) → NoLine ns → judged line ns r ≡ r
  unfolding judged
  none_judged line [] r h = refl
  none_judged line (m ∷ ns) r h = rw (eq-eqb m 0 (h 0)) (none_judged (suc line) ns r (λ i. h (suc i)))

  sheet_at :
      (t : Bool) (line m : ℕ) (ns : List ℕ) (r : Reading A) (x : A) → eqb m 0 ≡ t → cond t (judged (suc line) ns r) (turned m line) ≡ sheet x →
      (judged (suc line) ns r ≡ sheet x → NoLine ns × (r ≡ sheet x)) → NoLine (m ∷ ns) × (r ≡ sheet x)
  sheet_at true line m ns r x t e ih = let p = ih e in (no_line m ns (eqb-true m 0 t) p.0, p.1)
  sheet_at false line m ns r x t e ih = absurd (cc)

  judged_sheet : (line : ℕ) (ns : List ℕ) (r : Reading A) (x : A) → judged line ns r ≡ sheet x → NoLine ns × (r ≡ sheet x)
  unfolding judged
  judged_sheet line [] r x e = (λ i. refl, e)
  judged_sheet line (m ∷ ns) r x e = sheet_at (eqb m 0) line m ns r x refl e (judged_sheet (suc line) ns r x)

  -- ---- a reading whose rows make a sheet where the lists fit

  module _ (r : Reading A) (ns : List ℕ) (fit : Bool) (y : A) (is : r ≡ judged 1 ns (cond fit (sheet y) (turned 5 0))) where
    unfit_at : (t : Bool) (n l : ℕ) → cond t (sheet y) (turned 5 0) ≡ turned n l → (t ≡ false) × (n ≡ 5) × (l ≡ 0)
    unfit_at true n l e = absurd (cc)
    unfit_at false n l e = (refl, (cc), (cc))

    refused_by_lem : (n l : ℕ) → FirstLine 1 ns n l ⊎ (NoLine ns × (cond fit (sheet y) (turned 5 0) ≡ turned n l)) → TurnedBack ns fit n l
    refused_by_lem n l (inl f) = inl f
    refused_by_lem n l (inr p) = let q = unfit_at fit n l p.1 in inr (record { lines = p.0; unfit = q.0; number = q.1; line = q.2 })

    turned_by : (n l : ℕ) → TurnedBack ns fit n l → r ≡ turned n l
    turned_by n l (inl f) = is ∙ first_judged 1 ns (cond fit (sheet y) (turned 5 0)) n l f
    turned_by n l (inr w) = is ∙ none_judged 1 ns (cond fit (sheet y) (turned 5 0)) w.lines ∙ rw (w.unfit, w.number, w.line)

    pub refused_exactly : (n l : ℕ) → (r ≡ turned n l) ↔ TurnedBack ns fit n l
    refused_exactly n l = (λ e. refused_by_lem n l (judged_turned 1 ns (cond fit (sheet y) (turned 5 0)) n l (sym is ∙ e)), turned_by n l)

    pub accepted_exactly : (x : A) → (r ≡ sheet x) ↔ (NoLine ns × (fit ≡ true) × (y ≡ x))
    accepted_exactly x = (
      λ e. let p = judged_sheet 1 ns (cond fit (sheet y) (turned 5 0)) x (sym is ∙ e) in let q = made_fits fit y x p.1 in (p.0, q.0, q.1),
      λ h. is ∙ none_judged 1 ns (cond fit (sheet y) (turned 5 0)) h.0 ∙ rw (h.1, h.2),
    )

-- ---- K and I sheets

module _ (s : List ℕ) where
  key_judged : read_key_sheet s ≡ judged 1 (key_numbers s) (cond (key_lists_fit (key_sheet_in s)) (sheet (key_sheet_in s)) (turned 5 0))
  key_judged = key_in_turn s ∙ turn_judged (whole_rows stages_of_key key_whole) (key_kinds s) 1 0 (parts 10 s)

  join_judged : read_join_sheet s ≡ judged 1 (join_numbers s) (cond (join_fits s) (sheet (join_sheet_in s)) (turned 5 0))
  join_judged = join_in_turn s ∙ turn_judged (whole_rows stages_of_input join_whole) join_kinds 1 0 (parts 10 s)

  -- refused with a number and a line exactly where the sheet is wrong there
  pub key_refused_exactly : (n l : ℕ) → (read_key_sheet s ≡ turned n l) ↔ TurnedBack (key_numbers s) (key_lists_fit (key_sheet_in s)) n l
  key_refused_exactly = refused_exactly (read_key_sheet s) (key_numbers s) (key_lists_fit (key_sheet_in s)) (key_sheet_in s) key_judged

  pub join_refused_exactly : (n l : ℕ) → (read_join_sheet s ≡ turned n l) ↔ TurnedBack (join_numbers s) (join_fits s) n l
  join_refused_exactly = refused_exactly (read_join_sheet s) (join_numbers s) (join_fits s) (join_sheet_in s) join_judged

  -- accepted exactly where nothing is wrong, and then it is the sheet of its lines
  pub key_accepted_exactly : (x : KeySheet) → (read_key_sheet s ≡ sheet x) ↔ (NoLine (key_numbers s) × (key_lists_fit (key_sheet_in s) ≡ true) × (key_sheet_in s ≡ x))
  key_accepted_exactly = accepted_exactly (read_key_sheet s) (key_numbers s) (key_lists_fit (key_sheet_in s)) (key_sheet_in s) key_judged

  pub join_accepted_exactly : (x : JoinSheet) → (read_join_sheet s ≡ sheet x) ↔ (NoLine (join_numbers s) × (join_fits s ≡ true) × (join_sheet_in s ≡ x))
  join_accepted_exactly = accepted_exactly (read_join_sheet s) (join_numbers s) (join_fits s) (join_sheet_in s) join_judged
