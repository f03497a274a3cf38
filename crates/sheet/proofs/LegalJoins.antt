-- Reading what was written gives the sheet, for every legal I sheet; and what was read is legal (`read_legal`).
-- Assumes nothing.
use mathlib.Core.Path.{◌≡◌, refl}
use mathlib.Core.Logic.{◌↔◌}
use Prim.Native.Nat.{ℕ, ◌≤◌}
use native.Mathlib.Omega.{arith}
use mathlib.Core.List.{List, [], ◌∷◌, append-nil}
use mathlib.Core.Bool.{true, false}
use mathlib.Core.Option.{Option}
use lib.Dec.{leb}
use lib.ListN.{length}
use borrow.Author.Tests.{eqb-true, eq-eqb, leb-true, le-leb, not-false}
use Rattle.std.proofs.lemmas.Bool.{and_parts}
use Rattle.text.specs.declared.field.Field.{Field}
use Rattle.text.specs.Bounds.{allows_all, fits}
use Rattle.keys.specs.Expressions.{Expression}
use Rattle.keys.specs.Inputs.{JoinSheet}
use Rattle.linekinds.specs.Lines.{most_bytes}
use Rattle.linekinds.specs.KeyLines.{at, values, defined_mode, input_head, input_stages}
use Rattle.sheet.specs.KeySheets.{sheet, exprs, input_of, unused_keys, join_sheet_of, join_lists_fit, stages_of_input, read_join_sheet}
use Rattle.sheet.specs.KeyAnswers.{expr_numbers}
use Rattle.sheet.specs.KeyTexts.{rule_exprs, rules_line, input_numbers, join_sheet_text}
use Rattle.sheet.specs.Refusals.{kinds_of}
use Rattle.sheet.proofs.InTurn.{Fine, FineRows, empty, more}
use Rattle.sheet.specs.LegalSheets.{LegalJoinSheet}
use Rattle.sheet.proofs.LegalRows.{numbers, small_fits, values_numbers, input_back, used_keys, exprs_fine, rules_fine, directions_fine, input_fine, mode_small, expr_back, rule_back, fine_exprs, fine_rules, fine_directions, fine_input}
use Rattle.sheet.proofs.ReadExactly.{read_legal, read_exactly}
use Rattle.sheet.proofs.KeyAccepted.{head_counted, input_stages_counted, join_accepted, join_fits_lem, join_rows_written}

abbrev join_head : JoinSheet → List Field
join_head x = numbers (x.op ∷ x.mode ∷ [])

abbrev join_rows : JoinSheet → List (List Field)
join_rows x =
    numbers (expr_numbers x.left) ∷ numbers (expr_numbers x.right) ∷ numbers x.directions ∷ numbers (input_numbers x.left_input) ∷ numbers (input_numbers x.right_input)
    ∷ numbers (expr_numbers (rule_exprs x.left_rewriting)) ∷ numbers (expr_numbers (rule_exprs x.right_rewriting)) ∷ []

join_head_fine : (x : JoinSheet) → LegalJoinSheet x → Fine input_head (join_head x)
unfolding fits allows_all
join_head_fine x l = record {
  fit = rw (small_fits (x.op ∷ x.mode ∷ []) (omega (arith, l.op), (omega (arith, mode_small x.op x.mode l.mode), tt)));
  formed = refl;
  few = refl;
  small = refl;
  defined = rw (le-leb x.op 6 l.op, l.mode);
  suited = refl;
}

given_back : (o : Option (List Expression)) → input_of (values (numbers (input_numbers o))) ≡ o
given_back o = rw (values_numbers (input_numbers o)) (input_back o)

join_back : (x : JoinSheet) → join_sheet_of (join_head x) (join_rows x) ≡ x
join_back x = λ j. record {
  op = x.op;
  mode = x.mode;
  left = expr_back x.left j;
  right = expr_back x.right j;
  directions = values_numbers x.directions j;
  left_input = given_back x.left_input j;
  right_input = given_back x.right_input j;
  left_rewriting = rule_back x.left_rewriting j;
  right_rewriting = rule_back x.right_rewriting j;
}

used_row : (o : Option (List Expression)) → unused_keys (values (numbers (input_numbers o))) ≡ false
used_row o = rw (values_numbers (input_numbers o)) (used_keys o)

join_lists_fit_lem : (x : JoinSheet) → LegalJoinSheet x → join_lists_fit x (join_rows x) ≡ true
unfolding join_lists_fit
join_lists_fit_lem x l = rw (eq-eqb (length x.left) (length x.right) l.even, l.directed, used_row x.left_input, used_row x.right_input)

pub join_read_again : (x : JoinSheet) → LegalJoinSheet x → read_join_sheet (join_sheet_text x) ≡ sheet x
unfolding join_sheet_text
join_read_again x l =
    (join_accepted (join_sheet_text x) x).1
    (record {
      head = join_head x;
      rows = join_rows x;
      fine = more (join_head_fine x l) (more (exprs_fine 76 x.left l.left) (more (exprs_fine 71 x.right l.right) (more (directions_fine 83 x.directions l.directions)
          (more (input_fine 72 x.left_input l.left_input) (more (input_fine 78 x.right_input l.right_input) (more (rules_fine 87 x.left_rewriting l.left_rewriting)
          (more (rules_fine 86 x.right_rewriting l.right_rewriting) empty)))))));
      text = rw (append-nil (rules_line 86 x.right_rewriting));
      short = l.bytes;
      is = rw (join_back x, join_lists_fit_lem x l);
    })

join_legal :
    (k : List Field) (rs : List (List Field)) → FineRows (input_head ∷ kinds_of input_stages) (k ∷ rs) → join_lists_fit (join_sheet_of k rs) rs ≡ true →
    length (join_sheet_text (join_sheet_of k rs)) ≤ most_bytes → LegalJoinSheet (join_sheet_of k rs)
join_legal k rs (more fk (more {fs = l} fl (more {fs = g} fg (more {fs = s} fs (more {fs = h} fh (more {fs = n} fn (more {fs = w} fw (more {fs = v} fv empty)))))))) fit bytes =
    let f = join_fits_lem (join_sheet_of k rs) rs fit in
    let c = and_parts (leb (at k 0) 6) (defined_mode (at k 0) (at k 1)) (not-false _ fk.defined) in
    record {
      op = leb-true (at k 0) 6 c.0;
      mode = c.1;
      left = fine_exprs 76 l fl;
      right = fine_exprs 71 g fg;
      directions = fine_directions 83 s fs;
      left_input = fine_input 72 h fh;
      right_input = fine_input 78 n fn;
      left_rewriting = fine_rules 87 w fw;
      right_rewriting = fine_rules 86 v fv;
      even = eqb-true (length (exprs (values l))) (length (exprs (values g))) f.even;
      directed = f.directed;
      bytes = bytes;
    }

pub join_read_legal : (s : List ℕ) (x : JoinSheet) → read_join_sheet s ≡ sheet x → LegalJoinSheet x
unfolding read_join_sheet
join_read_legal = read_legal input_head stages_of_input join_sheet_of join_lists_fit head_counted input_stages_counted join_sheet_text join_rows_written LegalJoinSheet join_legal

-- so an I sheet is read exactly from the text of a legal one
pub join_read_exactly : (s : List ℕ) (x : JoinSheet) → (read_join_sheet s ≡ sheet x) ↔ (LegalJoinSheet x × (join_sheet_text x ≡ s))
unfolding read_join_sheet
join_read_exactly = read_exactly input_head stages_of_input join_sheet_of join_lists_fit head_counted input_stages_counted join_sheet_text join_rows_written LegalJoinSheet join_legal join_read_again
