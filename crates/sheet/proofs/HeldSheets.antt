-- The sheet that rows make is the one that is held.
-- Assumes nothing.
use Prim.Native.Nat.{ℕ, zero, suc, ◌+◌, ◌≤◌, ◌<◌}
use mathlib.Core.Path.{◌≡◌, refl, sym, ap, subst, ◌∙◌}
use mathlib.Core.Bool.{false, cond}
use mathlib.Core.Option.{some, none}
use mathlib.Core.List.{List, [], ◌∷◌, map}
use native.Mathlib.Omega.{arith}
use borrow.Author.Tests.{ne_eqb}
use lib.Dec.{eqb}
use lib.ListN.{length, get_or, drop, length-map, drop_of_length-le}
use lib.Seq.{get_or-drop, drop-cons, drop-drop}
use Rattle.text.specs.declared.field.Field.{Field}
use Rattle.text.specs.Text.{value_of}
use Rattle.keys.specs.Expressions.{Expression, expression, expressions, rules}
use Rattle.keys.specs.Reorder.{Rule}
use Rattle.keys.specs.InputValues as K
use Rattle.keys.proofs.Packed.{unpacked}
use Rattle.linekinds.specs.KeyLines.{at, values}
use Rattle.linekinds.specs.Reading.{packs, packed_by, Small, Fits}
use Rattle.linekinds.specs.ListLines.{line_codes}
use Rattle.linekinds.specs.declared.kind.Codes.{Codes}
use Rattle.linekinds.specs.declared.kind.Codes.TheVariants as C
use Rattle.linekinds.specs.declared.lists.SheetKind.{SheetKind}
use Rattle.linekinds.specs.declared.lists.SheetKind.TheVariants.{Key, Join}
use Rattle.linekinds.proofs.LineNumbers.{at_value}
use Rattle.sheet.specs.KeySheets.{exprs, rules_of, mark, row, head_of, input_of, key_sheet_of, join_sheet_of}
use Rattle.sheet.specs.Held.{held_at, pair_rows, expr_lists, child_count, held_key_sheet, held_join_sheet}
use Rattle.sheet.specs.SheetLines.{HeldLine}

-- what is packed are the expressions
pub packs_exprs : (ns : List ℕ) → Small ns → expressions (packs ns) ≡ exprs ns
unfolding packs exprs
packs_exprs [] h = refl
packs_exprs (k ∷ []) h = refl
packs_exprs (k ∷ n ∷ []) h = refl
packs_exprs (k ∷ n ∷ i ∷ rest) h = λ j. unpacked k n i h.1.0 h.1.1.0 j ∷ packs_exprs rest h.1.1.1 j

-- two packed numbers are a rule
pair_rules : (ns : List ℕ) → rules (pair_rows ns) ≡ rules_of (expressions ns)
unfolding pair_rows rules_of
pair_rules [] = refl
pair_rules (a ∷ []) = refl
pair_rules (a ∷ b ∷ rest) = ap (λ (rs : List (Rule Expression)). record { from = expression a; to = expression b } ∷ rs) (pair_rules rest)

child_codes : (i : ℕ) → 9 ≤ i → line_codes Key i ≡ C.Exprs
child_codes i h =
    let n : (m : ℕ) → m < 9 → eqb i m ≡ false = λ m e. ne_eqb i m (λ z. omega arith) in
    rw (n 0 (omega arith), n 4 (omega arith), n 5 (omega arith), n 6 (omega arith), n 7 (omega arith))

module _ (k : SheetKind) (lists : List (List ℕ)) (counts : List ℕ) (rs : List (List Field)) (held : (j : ℕ) → j < length rs → HeldLine k lists counts (0 + j) (get_or rs j [])) where
  -- line i, from 1 on, is row i - 1 of the rows after the head
  pub line : (i : ℕ) → i < length rs → HeldLine k lists counts i (get_or rs i [])
  line i h = let z : 0 + i ≡ i = omega arith in rw z at (held i h)

  pub row_is : (i : ℕ) → values (get_or rs (suc i) []) ≡ row (drop 1 rs) i
  row_is i = ap values (sym (get_or-drop 1 rs i [] ∙ ap (λ (m : ℕ). get_or rs m []) (omega arith)))

  packed_as : (c : Codes) (i : ℕ) → i < length rs → line_codes k i ≡ c → held_at lists counts i ≡ packed_by c (values (get_or rs i []))
  packed_as c i h e = (line i h).is ∙ ap (λ (d : Codes). packed_by d (values (get_or rs i []))) e

  exprs_at : (i : ℕ) → i < length rs → line_codes k i ≡ C.Exprs → expressions (held_at lists counts i) ≡ exprs (values (get_or rs i []))
  exprs_at i h e = ap expressions (packed_as C.Exprs i h e) ∙ packs_exprs (values (get_or rs i [])) (line i h).small

  exprs_held : (i : ℕ) → suc i < length rs → line_codes k (suc i) ≡ C.Exprs → expressions (held_at lists counts (suc i)) ≡ exprs (row (drop 1 rs) i)
  exprs_held i h e = exprs_at (suc i) h e ∙ ap exprs (row_is i)

  rules_held : (i : ℕ) → suc i < length rs → line_codes k (suc i) ≡ C.Rules → rules (pair_rows (held_at lists counts (suc i))) ≡ rules_of (exprs (row (drop 1 rs) i))
  rules_held i h e =
      pair_rules (held_at lists counts (suc i))
      ∙ ap rules_of (ap expressions (packed_as C.Rules (suc i) h e) ∙ packs_exprs (values (get_or rs (suc i) [])) (line (suc i) h).small ∙ ap exprs (row_is i))

  numbers_held : (i : ℕ) → suc i < length rs → packed_by (line_codes k (suc i)) (values (get_or rs (suc i) [])) ≡ values (get_or rs (suc i) []) → held_at lists counts (suc i) ≡ row (drop 1 rs) i
  numbers_held i h e = (line (suc i) h).is ∙ e ∙ row_is i

  -- a mark, then expressions
  input_at : (ns : List ℕ) → Small ns → 1 ≤ length ns → K.input_of (packed_by C.Input ns) ≡ input_of ns
  input_at [] s h = absurd (omega arith)
  input_at (m ∷ ns) s h = ap (λ (es : List Expression). cond (mark m) (some es) none) (packs_exprs ns s.1)

  input_held : (i : ℕ) → suc i < length rs → line_codes k (suc i) ≡ C.Input → K.input_of (held_at lists counts (suc i)) ≡ input_of (row (drop 1 rs) i)
  input_held i h e =
      let l = line (suc i) h in
      let f : Fits C.Input (length (get_or rs (suc i) [])) = subst (λ (c : Codes). Fits c (length (get_or rs (suc i) []))) e l.fits in
      ap K.input_of (packed_as C.Input (suc i) h e) ∙ input_at (values (get_or rs (suc i) [])) l.small (rw (length-map (get_or rs (suc i) []) value_of) f.0) ∙ ap input_of (row_is i)

  pub head_held : (i : ℕ) → 0 < length rs → packed_by (line_codes k 0) (values (get_or rs 0 [])) ≡ values (get_or rs 0 []) → get_or (held_at lists counts 0) i 0 ≡ at (head_of rs) i
  head_held i h e = ap (λ (ns : List ℕ). get_or ns i 0) ((line 0 h).is ∙ e) ∙ sym (at_value (head_of rs) i)

-- ---- K sheets

module _ (lists : List (List ℕ)) (counts : List ℕ) (rs : List (List Field)) (held : (j : ℕ) → j < length rs → HeldLine Key lists counts (0 + j) (get_or rs j [])) where
  children_held : (n i : ℕ) → 9 ≤ i → length rs ≡ i + n → expr_lists lists counts i n ≡ map (λ (fs : List Field). exprs (values fs)) (drop i rs)
  children_held zero i g h = rw (drop_of_length-le rs {i = i} (omega arith))
  children_held (suc n) i g h =
      let e : i < length rs = omega arith in
      rw (drop-cons rs i [] e) (λ j. exprs_at Key lists counts rs held i e (child_codes i g) j ∷ children_held n (suc i) (omega arith) (omega arith) j)

  pub key_held : length rs ≡ 9 + at (head_of rs) 6 → held_key_sheet lists counts ≡ key_sheet_of (head_of rs) (drop 1 rs)
  unfolding held_key_sheet
  key_held many =
      let many' : 9 ≤ length rs = omega arith in
      let h : (i : ℕ) → get_or (held_at lists counts 0) i 0 ≡ at (head_of rs) i = λ i. head_held Key lists counts rs held i (omega arith) refl in
      let e : (i : ℕ) → suc i < 9 → line_codes Key (suc i) ≡ C.Exprs → expressions (held_at lists counts (suc i)) ≡ exprs (row (drop 1 rs) i)
      = λ i l c. exprs_held Key lists counts rs held i (omega arith) c in
      let c : expr_lists lists counts 9 (child_count lists counts) ≡ map (λ (fs : List Field). exprs (values fs)) (drop 8 (drop 1 rs))
      = children_held (child_count lists counts) 9 (omega arith) (many ∙ ap (λ (n : ℕ). 9 + n) (sym (h 6))) ∙ ap (map (λ (fs : List Field). exprs (values fs))) (sym (drop-drop 8 1 rs)) in
      λ j. record {
        op = h 0 j;
        mode = h 1 j;
        join = h 2 j;
        columns = h 3 j;
        plain = mark (h 4 j);
        partial = mark (h 5 j);
        required = e 0 (omega arith) refl j;
        left = e 1 (omega arith) refl j;
        right = e 2 (omega arith) refl j;
        directions = numbers_held Key lists counts rs held 3 (omega arith) refl j;
        rewriting = rules_held Key lists counts rs held 4 (omega arith) refl j;
        groups = numbers_held Key lists counts rs held 5 (omega arith) refl j;
        aggregates = numbers_held Key lists counts rs held 6 (omega arith) refl j;
        mapped = e 7 (omega arith) refl j;
        children = c j;
      }

-- ---- I sheets

module _ (lists : List (List ℕ)) (counts : List ℕ) (rs : List (List Field)) (held : (j : ℕ) → j < length rs → HeldLine Join lists counts (0 + j) (get_or rs j [])) where
  pub join_held : length rs ≡ 8 → held_join_sheet lists counts ≡ join_sheet_of (head_of rs) (drop 1 rs)
  unfolding held_join_sheet
  join_held many = λ j. record {
    op = head_held Join lists counts rs held 0 (omega arith) refl j;
    mode = head_held Join lists counts rs held 1 (omega arith) refl j;
    left = exprs_held Join lists counts rs held 0 (omega arith) refl j;
    right = exprs_held Join lists counts rs held 1 (omega arith) refl j;
    directions = numbers_held Join lists counts rs held 2 (omega arith) refl j;
    left_input = input_held Join lists counts rs held 3 (omega arith) refl j;
    right_input = input_held Join lists counts rs held 4 (omega arith) refl j;
    left_rewriting = rules_held Join lists counts rs held 5 (omega arith) refl j;
    right_rewriting = rules_held Join lists counts rs held 6 (omega arith) refl j;
  }
