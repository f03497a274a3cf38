-- Reading what was written gives the sheet, for every legal K sheet; and what was read is legal (`read_legal`).
-- Assumes nothing.
use mathlib.Core.Path.{◌≡◌, refl, ap, ◌∙◌}
use mathlib.Core.Logic.{◌↔◌}
use Prim.Native.Nat.{ℕ, zero, suc, ◌≤◌}
use native.Mathlib.Omega.{arith}
use mathlib.Core.List.{List, [], ◌∷◌, ◌++◌, map}
use mathlib.Core.Bool.{Bool, true, false, cond}
use lib.Dec.{eqb, leb}
use lib.ListN.{length, take, length-map, replicate}
use lib.Seq.{get_or-take}
use borrow.Author.Tests.{eqb-true, leb-true, le-leb, le-ltb, ltb-false, not-false}
use Rattle.text.specs.declared.field.Field.{Field}
use Rattle.text.specs.declared.field.Field.TheVariants.{Number as number}
use Rattle.text.specs.Bounds.{allows_all}
use Rattle.keys.specs.Expressions.{Expression}
use Rattle.keys.specs.Adjust.{KeySheet}
use Rattle.linekinds.specs.Lines.{most_bytes}
use Rattle.linekinds.specs.KeyLines.{at, values, fit_children, expr_line, key_line, key_stages}
use Rattle.sheet.specs.KeySheets.{sheet, exprs, key_sheet_of, key_lists_fit, stages_of_key, read_key_sheet}
use Rattle.sheet.specs.KeyAnswers.{expr_numbers, exprs_line, child_lines}
use Rattle.sheet.specs.KeyTexts.{mark_number, rule_exprs, key_sheet_text}
use Rattle.sheet.specs.Sizes.{Each}
use Rattle.sheet.specs.Refusals.{kinds_of}
use Rattle.sheet.proofs.InTurn.{rows_text, Fine, FineRows, empty, more}
use Rattle.sheet.specs.LegalSheets.{Small, LegalExprs, LegalKeySheet}
use Rattle.sheet.proofs.Numbers.{fit_heads}
use Rattle.sheet.proofs.KeyRows.{key_codes, children_count}
use Rattle.sheet.proofs.LegalRows.{numbers, allowed_at, small_fits, fits_plain, values_numbers, mark_back, exprs_fine, rules_fine, directions_fine, names_fine, mode_small, expr_back, rule_back, fine_exprs, fine_rules, fine_directions, fine_names}
use Rattle.sheet.proofs.ReadExactly.{read_legal, read_exactly}
use Rattle.sheet.proofs.KeyAccepted.{key_fit, key_counted, key_stages_counted, key_accepted, key_rows_written}

-- ---- codes are small

join_at : (a : Bool) (m : ℕ) → cond a (leb m 9) (eqb m 0) ≡ true → m ≤ 9
join_at true m e = leb-true m 9 e
join_at false m e = omega (arith, eqb-true m 0 e)

mark_small : (b : Bool) → mark_number b ≤ 1
mark_small true = omega arith
mark_small false = omega arith

-- ---- a K sheet's rows

abbrev head_numbers : KeySheet → List ℕ
head_numbers x = x.op ∷ x.mode ∷ x.join ∷ x.columns ∷ mark_number x.plain ∷ mark_number x.partial ∷ length x.children ∷ []

abbrev key_head : KeySheet → List Field
key_head x = numbers (head_numbers x)

abbrev key_rows : KeySheet → List (List Field)
key_rows x =
    numbers (expr_numbers x.required) ∷ numbers (expr_numbers x.left) ∷ numbers (expr_numbers x.right) ∷ numbers x.directions
    ∷ numbers (expr_numbers (rule_exprs x.rewriting)) ∷ numbers x.groups ∷ numbers x.aggregates ∷ numbers (expr_numbers x.mapped)
    ∷ map (λ es. numbers (expr_numbers es)) x.children

head_small : (x : KeySheet) → LegalKeySheet x → Each Small (head_numbers x)
head_small x l =
    let mode : Small x.mode = omega (arith, mode_small x.op x.mode l.mode) in
    let join : Small x.join = omega (arith, join_at (eqb x.op 0) x.join l.join) in
    let mark : (b : Bool) → Small (mark_number b) = λ b. omega (arith, mark_small b) in
    (omega (arith, l.op), (mode, (join, (l.columns, (mark x.plain, (mark x.partial, (omega (arith, l.few), tt)))))))

key_head_fine : (x : KeySheet) → LegalKeySheet x → Fine key_line (key_head x)
unfolding allows_all
key_head_fine x l =
    let mark : (b : Bool) → leb (mark_number b) 1 ≡ true = λ b. le-leb (mark_number b) 1 (mark_small b) in
    record {
      fit = rw (small_fits (head_numbers x) (head_small x l));
      formed = refl;
      few = refl;
      small = le-ltb 8 (length x.children) l.few;
      defined = rw (le-leb x.op 6 l.op, l.mode, l.join, mark x.plain, mark x.partial);
      suited = rw l.suited;
    }

children_fine : (cs : List (List Expression)) → Each LegalExprs cs → FineRows (replicate (length cs) (expr_line 67) ++ []) (map (λ es. numbers (expr_numbers es)) cs)
children_fine [] l = empty
children_fine (c ∷ cs) l = more (exprs_fine 67 c l.0) (children_fine cs l.1)

children_text_lem : (cs : List (List Expression)) → rows_text (replicate (length cs) (expr_line 67) ++ []) (map (λ es. numbers (expr_numbers es)) cs) ≡ child_lines cs
children_text_lem [] = refl
children_text_lem (c ∷ cs) = ap (λ (ys : List ℕ). exprs_line 67 c ++ ys) (children_text_lem cs)

children_back : (cs : List (List Expression)) → map (λ fs. exprs (values fs)) (map (λ es. numbers (expr_numbers es)) cs) ≡ cs
children_back [] = refl
children_back (c ∷ cs) = λ j. expr_back c j ∷ children_back cs j

key_back : (x : KeySheet) → key_sheet_of (key_head x) (key_rows x) ≡ x
key_back x = λ j. record {
  op = x.op;
  mode = x.mode;
  join = x.join;
  columns = x.columns;
  plain = mark_back x.plain j;
  partial = mark_back x.partial j;
  required = expr_back x.required j;
  left = expr_back x.left j;
  right = expr_back x.right j;
  directions = values_numbers x.directions j;
  rewriting = rule_back x.rewriting j;
  groups = values_numbers x.groups j;
  aggregates = values_numbers x.aggregates j;
  mapped = expr_back x.mapped j;
  children = children_back x.children j;
}

pub key_read_again : (x : KeySheet) → LegalKeySheet x → read_key_sheet (key_sheet_text x) ≡ sheet x
unfolding key_sheet_text
key_read_again x l =
    (key_accepted (key_sheet_text x) x).1
    (record {
      head = key_head x;
      rows = key_rows x;
      fine = more (key_head_fine x l) (more (exprs_fine 82 x.required l.required) (more (exprs_fine 76 x.left l.left) (more (exprs_fine 71 x.right l.right)
          (more (directions_fine 83 x.directions l.directions) (more (rules_fine 87 x.rewriting l.rewriting) (more (names_fine 79 x.groups l.groups)
          (more (names_fine 65 x.aggregates l.aggregates) (more (exprs_fine 77 x.mapped l.mapped) (children_fine x.children l.children)))))))));
      text = rw (children_text_lem x.children);
      short = l.bytes;
      is = rw (key_back x, l.fit);
    })

-- ---- what was read is legal

children_legal : (n : ℕ) (cs : List (List Field)) → FineRows (replicate n (expr_line 67) ++ []) cs → Each LegalExprs (map (λ fs. exprs (values fs)) cs)
children_legal zero cs empty = tt
children_legal (suc n) (fs ∷ cs) (more f r) = (fine_exprs 67 fs f, children_legal n cs r)
children_legal (suc n) [] z = elim z [ ]

key_legal :
    (k : List Field) (rs : List (List Field)) → FineRows (key_line ∷ kinds_of (key_stages (at k 6))) (k ∷ rs) → key_lists_fit (key_sheet_of k rs) ≡ true →
    length (key_sheet_text (key_sheet_of k rs)) ≤ most_bytes → LegalKeySheet (key_sheet_of k rs)
key_legal
    k rs
    (more fk (more {fs = r} fr (more {fs = l} fl (more {fs = g} fg (more {fs = s} fs (more {fs = w} fw (more {fs = o} fo (more {fs = a} fa (more {fs = m} {rs = cs} fm fc)))))))))
    fit bytes =
    let n : length (map (λ fs. exprs (values fs)) cs) ≡ at k 6 = length-map cs (λ fs. exprs (values fs)) ∙ children_count (at k 6) cs fc in
    let c = key_codes k fk in
    record {
      op = c.op;
      mode = c.mode;
      join = c.join;
      columns = rw (get_or-take 7 k 3 (number 0) (omega arith)) at (allowed_at (take 7 k) 3 (fits_plain 7 (take 7 k) (fit_heads key_line k fk)));
      required = fine_exprs 82 r fr;
      left = fine_exprs 76 l fl;
      right = fine_exprs 71 g fg;
      directions = fine_directions 83 s fs;
      rewriting = fine_rules 87 w fw;
      groups = fine_names 79 o fo;
      aggregates = fine_names 65 a fa;
      mapped = fine_exprs 77 m fm;
      few = omega (arith, ltb-false 8 (at k 6) fk.small);
      children = children_legal (at k 6) cs fc;
      suited = rw n (not-false (fit_children (at k 0) (at k 6)) fk.suited);
      fit = fit;
      bytes = bytes;
    }

pub key_read_legal : (s : List ℕ) (x : KeySheet) → read_key_sheet s ≡ sheet x → LegalKeySheet x
unfolding read_key_sheet
key_read_legal = read_legal key_line stages_of_key key_sheet_of key_fit key_counted key_stages_counted key_sheet_text key_rows_written LegalKeySheet key_legal

-- so a K sheet is read exactly from the text of a legal one
pub key_read_exactly : (s : List ℕ) (x : KeySheet) → (read_key_sheet s ≡ sheet x) ↔ (LegalKeySheet x × (key_sheet_text x ≡ s))
unfolding read_key_sheet
key_read_exactly = read_exactly key_line stages_of_key key_sheet_of key_fit key_counted key_stages_counted key_sheet_text key_rows_written LegalKeySheet key_legal key_read_again
