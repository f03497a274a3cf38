-- The rows of a K or I sheet, made a sheet, are written as they stood.
use mathlib.Core.Path.{◌≡◌, refl, sym, ap, ◌∙◌}
use Prim.Native.Nat.{ℕ, zero, suc, ◌+◌, ◌%◌, ◌≤◌}
use native.Mathlib.Omega.{arith}
use mathlib.Core.List.{List, [], ◌∷◌, ◌++◌, append-nil, map}
use mathlib.Core.Bool.{Bool, true, false}
use lib.Dec.{ltb, leb}
use lib.ListN.{length, take, drop, length-map, length-take, length-drop, replicate}
use borrow.Author.Tests.{eqb-true, leb-true, not-false, ltb-false}
use Rattle.std.proofs.lemmas.Bool.{and_parts, or_parts}
use Rattle.text.specs.declared.field.Field.{Field}
use Rattle.text.specs.declared.field.Field.TheVariants.{Number as number}
use Rattle.text.specs.Text.{value_of}
use Rattle.text.specs.Bounds.{fits}
use Rattle.text.specs.Write.{line_text}
use Rattle.text.proofs.Limits.{fits_length}
use Rattle.linekinds.specs.Lines.{Kind, whole_entries}
use Rattle.linekinds.specs.KeyLines.{at, values, undefined_exprs, list_line, expr_line, rule_line, input_line, key_line, input_head, key_stages, input_stages, defined_mode, defined_join}
use Rattle.sheet.specs.KeySheets.{exprs, rules_of, mark, input_of, unused_keys, key_sheet_of, join_sheet_of, row}
use Rattle.sheet.specs.KeyAnswers.{numbers_line, exprs_line, child_lines}
use Rattle.sheet.specs.KeyTexts.{mark_number, rules_line, input_numbers, key_sheet_text, join_sheet_text}
use Rattle.sheet.specs.Refusals.{kinds_of}
use Rattle.sheet.proofs.InTurn.{rows_text, Fine, FineRows, empty, more}
use Rattle.sheet.proofs.Numbers.{filled, row_numbers_lem, fit_heads, fit_list, spelled, spelled_out, exprs_again, rule_numbers_again, mark_again, input_again}

-- ---- a line

module _ (letter width : ℕ) (undefined : List Field → Bool) (fs : List Field) (fine : Fine (list_line letter width undefined) fs) where
  numbers_row : numbers_line letter (values fs) ≡ line_text letter fs
  unfolding filled
  numbers_row = ap (line_text letter) (row_numbers_lem (list_line letter width undefined) fs fine refl)

values_length : (fs : List Field) → length (values fs) ≡ length fs
values_length fs = length-map fs value_of

exprs_row : (letter : ℕ) (fs : List Field) → Fine (expr_line letter) fs → exprs_line letter (exprs (values fs)) ≡ line_text letter fs
exprs_row letter fs fine =
    let w = eqb-true (length fs % 3) 0 (fit_list (expr_line letter) fs fine).1 in
    ap (numbers_line letter) (exprs_again (values fs) (rw (values_length fs) w)) ∙ numbers_row letter 3 _ fs fine

rules_row : (letter : ℕ) (fs : List Field) → Fine (rule_line letter) fs → rules_line letter (rules_of (exprs (values fs))) ≡ line_text letter fs
rules_row letter fs fine =
    let w = eqb-true (length fs % 6) 0 (fit_list (rule_line letter) fs fine).1 in
    ap (numbers_line letter) (rule_numbers_again (values fs) (rw (values_length fs) w)) ∙ numbers_row letter 6 _ fs fine

children_rows_lem :
    (n : ℕ) (cs : List (List Field)) → FineRows (replicate n (expr_line 67) ++ []) cs →
    child_lines (map (λ fs. exprs (values fs)) cs) ≡ rows_text (replicate n (expr_line 67) ++ []) cs
children_rows_lem zero cs empty = refl
children_rows_lem (suc n) (fs ∷ cs) (more f r) = λ j. exprs_row 67 fs f j ++ children_rows_lem n cs r j
children_rows_lem (suc n) [] z = elim z [ ]

pub children_count : (n : ℕ) (cs : List (List Field)) → FineRows (replicate n (expr_line 67) ++ []) cs → length cs ≡ n
children_count zero cs empty = refl
children_count (suc n) (fs ∷ cs) (more f r) = ap suc (children_count n cs r)
children_count (suc n) [] z = elim z [ ]

-- what the K line's code test says
pub record KeyCodes (fs : List Field) : Type 0 where
  pub op : at fs 0 ≤ 6
  pub mode : defined_mode (at fs 0) (at fs 1) ≡ true
  pub join : defined_join (at fs 0) (at fs 2) ≡ true
  pub plain : at fs 4 ≤ 1
  pub partial : at fs 5 ≤ 1

pub key_codes : (fs : List Field) → Fine key_line fs → KeyCodes fs
key_codes fs fine =
    let a = and_parts (leb (at fs 0) 6) _ (not-false _ fine.defined) in
    let b = and_parts (defined_mode (at fs 0) (at fs 1)) _ a.1 in
    let c = and_parts (defined_join (at fs 0) (at fs 2)) _ b.1 in
    let d = and_parts (leb (at fs 4) 1) (leb (at fs 5) 1) c.1 in
    record {
      op = leb-true (at fs 0) 6 a.0;
      mode = b.0;
      join = c.0;
      plain = leb-true (at fs 4) 1 d.0;
      partial = leb-true (at fs 5) 1 d.1;
    }

-- a line of heads alone
heads_length : (k : Kind) (fs : List Field) → Fine k fs → k.width ≡ 0 → length fs ≡ length k.heads
heads_length k fs fine w =
    let n : ℕ = length k.heads in
    let h : whole_entries 0 (length (drop n fs)) ≡ true = rw w at (fit_list k fs fine).1 in
    omega (arith, fits_length k.heads (take n fs) (fit_heads k fs fine), length-take n fs, length-drop n fs, eqb-true (length (drop n fs)) 0 h)

heads_row :
    (k : Kind) (fs : List Field) → Fine k fs → filled k.heads ≡ true → k.width ≡ 0 →
    numbers_line k.letter (values (spelled (number 0) 0 (length k.heads) fs)) ≡ line_text k.letter fs
heads_row k fs fine o w =
    let n : length fs ≡ 0 + length k.heads = omega (arith, heads_length k fs fine w) in
    ap (λ (gs : List Field). numbers_line k.letter (values gs)) (sym (spelled_out (number 0) (length k.heads) 0 fs n))
    ∙ ap (line_text k.letter) (row_numbers_lem k fs fine o)

key_row :
    (fs : List Field) → Fine key_line fs →
    numbers_line 75 (at fs 0 ∷ at fs 1 ∷ at fs 2 ∷ at fs 3 ∷ mark_number (mark (at fs 4)) ∷ mark_number (mark (at fs 5)) ∷ at fs 6 ∷ []) ≡ line_text 75 fs
unfolding filled
key_row fs fine = let c = key_codes fs fine in rw (mark_again (at fs 4) c.plain, mark_again (at fs 5) c.partial) (heads_row key_line fs fine refl refl)

pub key_text :
    (k : List Field) (rs : List (List Field)) → FineRows (key_line ∷ kinds_of (key_stages (at k 6))) (k ∷ rs) →
    key_sheet_text (key_sheet_of k rs) ≡ rows_text (key_line ∷ kinds_of (key_stages (at k 6))) (k ∷ rs)
unfolding key_sheet_text filled
key_text k rs (more fk (more {fs = r} fr (more {fs = l} fl (more {fs = g} fg (more {fs = s} fs (more {fs = w} fw (more {fs = o} fo (more {fs = a} fa (more {fs = m} {rs = cs} fm fc))))))))) =
    let n : length (map (λ fs. exprs (values fs)) cs) ≡ at k 6 = length-map cs (λ fs. exprs (values fs)) ∙ children_count (at k 6) cs fc in
    rw n (λ j. key_row k fk j ++ (exprs_row 82 r fr j ++ (exprs_row 76 l fl j ++ (exprs_row 71 g fg j ++ (numbers_row 83 1 _ s fs j ++ (rules_row 87 w fw j
    ++ (numbers_row 79 1 _ o fo j ++ (numbers_row 65 1 _ a fa j ++ (exprs_row 77 m fm j ++ children_rows_lem (at k 6) cs fc j)))))))))

-- ---- an I sheet

input_row :
    (letter : ℕ) (fs : List Field) → Fine (input_line letter) fs → unused_keys (values fs) ≡ false →
    numbers_line letter (input_numbers (input_of (values fs))) ≡ line_text letter fs
unfolding fits filled
input_row letter [] fine u = let e = fit_heads (input_line letter) [] fine in absurd (cc)
input_row letter (f ∷ gs) fine u =
    let m : value_of f ≤ 1 = ltb-false 1 (value_of f) (or_parts (ltb 1 (value_of f)) (undefined_exprs (values gs)) fine.defined).0 in
    let w : length gs % 3 ≡ 0 = eqb-true (length gs % 3) 0 (fit_list (input_line letter) (f ∷ gs) fine).1 in
    ap (numbers_line letter) (input_again (value_of f) (values gs) m (rw (values_length gs) w) u)
    ∙ ap (line_text letter) (row_numbers_lem (input_line letter) (f ∷ gs) fine refl)

pub join_text :
    (k : List Field) (rs : List (List Field)) → FineRows (input_head ∷ kinds_of input_stages) (k ∷ rs) → unused_keys (row rs 3) ≡ false → unused_keys (row rs 4) ≡ false →
    join_sheet_text (join_sheet_of k rs) ≡ rows_text (input_head ∷ kinds_of input_stages) (k ∷ rs)
unfolding join_sheet_text filled
join_text k rs (more fk (more {fs = l} fl (more {fs = g} fg (more {fs = s} fs (more {fs = h} fh (more {fs = n} fn (more {fs = w} fw (more {fs = v} fv empty)))))))) uh un =
    (λ j. heads_row input_head k fk refl refl j ++ (exprs_row 76 l fl j ++ (exprs_row 71 g fg j ++ (numbers_row 83 1 _ s fs j ++ (input_row 72 h fh uh j
    ++ (input_row 78 n fn un j ++ (rules_row 87 w fw j ++ rules_row 86 v fv j)))))))
    ∙ rw (append-nil (line_text 86 v))
