-- Whether the lists of a sheet fit, by their counts as they are held (`key_counts`, `input_used`).
-- Assumes nothing.
use Prim.Native.Nat.{ℕ, suc, ◌-◌, ◌*◌, ◌/◌, ◌%◌, ◌≤◌, ◌<◌}
use mathlib.Core.Path.{◌≡◌, refl, sym, ap, subst, ◌∙◌}
use mathlib.Core.Bool.{Bool, true, false, not, ◌&&◌, ◌||◌}
use mathlib.Core.List.{List, [], ◌∷◌, ◌++◌}
use native.Mathlib.Omega.{arith}
use borrow.Author.Tests.{eqb-true, ne_eqb, lt-leb}
use lib.Dec.{eqb, leb}
use lib.ListN.{length, get_or, take, drop, length-map}
use Rattle.text.specs.declared.field.Field.{Field}
use Rattle.text.specs.Text.{value_of}
use Rattle.keys.specs.Expressions.{expression, expressions, rule, rules}
use Rattle.linekinds.specs.KeyLines.{values}
use Rattle.linekinds.specs.Reading.{packs, Fits}
use Rattle.linekinds.specs.ListLines.{line_codes}
use Rattle.linekinds.specs.declared.kind.Codes.{Codes}
use Rattle.linekinds.specs.declared.kind.Codes.TheVariants as C
use Rattle.linekinds.specs.declared.lists.SheetKind.TheVariants.{Join}
use Rattle.sheet.specs.KeySheets.{mark, serves, unused_keys, key_lists_fit}
use Rattle.sheet.specs.Held.{held_at, pair_rows, held_key_sheet}
use Rattle.sheet.specs.SheetLines.{HeldLine}
use Rattle.sheet.specs.ListFits.{direction_counts, key_counts_fit, input_counts}
use Rattle.keys.specs.Codes.{order_tried}

regrouped : (a b c d r : Bool) → a && (b && (c && (d && r))) ≡ (a && (b && (c && d))) && r
regrouped true true true true r = refl
regrouped true true true false r = refl
regrouped true true false d r = refl
regrouped true false c d r = refl
regrouped false b c d r = refl

pair_length : (ns : List ℕ) → length (pair_rows ns) ≡ length ns / 2
unfolding pair_rows
pair_length [] = refl
pair_length (a ∷ []) = refl
pair_length (a ∷ b ∷ ns) = ap suc (pair_length ns) ∙ omega arith

module _ (lists : List (List ℕ)) (counts : List ℕ) (long : (i : ℕ) → i < 9 → get_or counts i 0 ≡ length (held_at lists counts i)) where
  pub key_counts : key_lists_fit (held_key_sheet lists counts) ≡ key_counts_fit (get_or (held_at lists counts 0) 0 0) (get_or (held_at lists counts 0) 1 0) counts
  unfolding key_lists_fit key_counts_fit held_key_sheet
  key_counts =
      let op : ℕ = get_or (held_at lists counts 0) 0 0 in
      let mode : ℕ = get_or (held_at lists counts 0) 1 0 in
      let e : (i : ℕ) → i < 9 → length (expressions (held_at lists counts i)) ≡ get_or counts i 0 = λ i h. length-map (held_at lists counts i) expression ∙ sym (long i h) in
      let w : length (rules (pair_rows (held_at lists counts 5))) ≡ get_or counts 5 0 / 2
      = length-map (pair_rows (held_at lists counts 5)) rule ∙ pair_length (held_at lists counts 5) ∙ ap (λ (n : ℕ). n / 2) (sym (long 5 (omega arith))) in
      rw (e 2 (omega arith), e 3 (omega arith), ← long 4 (omega arith), w, ← long 6 (omega arith), ← long 7 (omega arith), e 8 (omega arith))
      (regrouped (eqb (get_or counts 2 0) (get_or counts 3 0)) (direction_counts op (get_or counts 4 0) (get_or counts 2 0)) (serves (order_tried op mode) (get_or counts 2 0)) (serves (order_tried op mode) (get_or counts 5 0 / 2))
      (serves (eqb op 3) (get_or counts 6 0) && (serves (eqb op 3) (get_or counts 7 0) && serves (eqb op 4) (get_or counts 8 0))))

-- H and N: a line's mark and keys
packs_length : (ns : List ℕ) → length ns % 3 ≡ 0 → length (packs ns) * 3 ≡ length ns
unfolding packs
packs_length [] h = refl
packs_length (k ∷ []) h = absurd (omega arith)
packs_length (k ∷ n ∷ []) h = absurd (omega arith)
packs_length (k ∷ n ∷ i ∷ rest) h = omega (arith, packs_length rest (omega arith))

used_at : (t : Bool) (m : ℕ) (ns : List ℕ) → length ns % 3 ≡ 0 → not (not t && not (eqb (length ns) 0)) ≡ t || leb (suc (length (packs ns))) 1
unfolding packs
used_at true m ns h = refl
used_at false m [] h = refl
used_at false m (n ∷ ns) h =
    let l = packs_length (n ∷ ns) h in
    rw (ne_eqb (suc (length ns)) 0 (λ z. omega arith), lt-leb (suc (length (packs (n ∷ ns)))) 1 (omega arith))

module _ (lists : List (List ℕ)) (counts : List ℕ) (i : ℕ) (fs : List Field) (e : line_codes Join i ≡ C.Input) (l : HeldLine Join lists counts i fs) where
  packed : held_at lists counts i ≡ take 1 (values fs) ++ packs (drop 1 (values fs))
  packed = l.is ∙ rw e

  fits : (1 ≤ length fs) × (length fs ≤ 97)
  fits = subst (λ (c : Codes). Fits c (length fs)) e l.fits

  thirds : (length fs - 1) % 3 ≡ 0
  thirds = eqb-true ((length fs - 1) % 3) 0 (rw e at l.entries)

  used : (ns : List ℕ) → length ns ≡ length fs → held_at lists counts i ≡ take 1 ns ++ packs (drop 1 ns) →
      not (unused_keys ns) ≡ input_counts (get_or (held_at lists counts i) 0 0) (get_or counts i 0)
  used [] n p = absurd (omega (arith, fits.0))
  used (m ∷ ns) n p =
      let c : get_or counts i 0 ≡ suc (length (packs ns)) = l.long ∙ ap length p in
      let t : length ns % 3 ≡ 0 = ap (λ (k : ℕ). k % 3) (omega arith) ∙ thirds in
      rw (c, p) (used_at (mark m) m ns t)

  pub input_used : not (unused_keys (values fs)) ≡ input_counts (get_or (held_at lists counts i) 0 0) (get_or counts i 0)
  input_used = used (values fs) (length-map fs value_of) packed

  short : (ns : List ℕ) → length ns ≡ length fs → held_at lists counts i ≡ take 1 ns ++ packs (drop 1 ns) → length (held_at lists counts i) ≤ 33
  short [] n p = absurd (omega (arith, fits.0))
  short (m ∷ ns) n p =
      let t : length ns % 3 ≡ 0 = ap (λ (k : ℕ). k % 3) (omega arith) ∙ thirds in
      omega (arith, ap length p, packs_length ns t, fits.1)

  some_at : (ns : List ℕ) → length ns ≡ length fs → held_at lists counts i ≡ take 1 ns ++ packs (drop 1 ns) → 0 < length (held_at lists counts i)
  some_at [] n p = absurd (omega (arith, fits.0))
  some_at (m ∷ ns) n p = omega (arith, ap length p)

  pub input_some : 0 < length (held_at lists counts i)
  input_some = some_at (values fs) (length-map fs value_of) packed

  pub input_short : length (held_at lists counts i) ≤ 33
  input_short = short (values fs) (length-map fs value_of) packed
