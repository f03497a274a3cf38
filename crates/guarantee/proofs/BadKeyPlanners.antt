-- Two bad planners of joins: what they write for the printed sheet isn't guaranteed, since its pairs fit once they are swapped, and not as they stand.
--     printed_guaranteed    what `decision` writes for it is
--     sheet_order_fails     pairs in sheet order, with any report and positions
--     unsearched_fails      "impossible" before searching
use Prim.Native.Nat.{ℕ, zero, suc, ◌<◌}
use mathlib.Core.Path.{◌≡◌, refl, subst}
use mathlib.Core.Bool.{Bool, true, false}
use mathlib.Core.List.{List, [], ◌∷◌}
use native.Mathlib.Omega.{arith}
use lib.Dec.{eqb}
use borrow.Author.Tests.{eqb-true, eqb-false}
use Rattle.text.specs.Text.{onto, parts, run, field, fields, line_fields}
use Rattle.text.specs.Lines.{first_of}
use Rattle.text.specs.Bounds.{fits, allows_all}
use Rattle.text.proofs.Examples.{bytes}
use Rattle.keys.specs.Expressions.{same_expr, column, placeholder}
use Rattle.keys.specs.Arrange.{Arrangement, times, Lacks, left, right, left_rewritten, right_rewritten}
use Rattle.keys.specs.Adjust.{KeySheet, joined_by}
use Rattle.keys.specs.Kept.{sheet_pairs, FitsPairs, NothingFits}
use Rattle.keys.proofs.Truths.{true_false}
use Rattle.keys.proofs.Marked.{sort_merge}
use Rattle.linekinds.specs.Lines.{line_number, rows_of, chain}
use Rattle.linekinds.specs.KeyLines.{undefined_exprs, over}
use Rattle.sheet.specs.KeySheets.{sheet, exprs, rules_of, key_lists_fit, read_key_sheet}
use Rattle.sheet.specs.KeyAnswers.{wrote, key_answer_text}
use Rattle.lochkave.specs.Decision.{decision}
use Rattle.guarantee.specs.Conditions.{key_expressions, NoPlaceholder}
use Rattle.guarantee.specs.Guarantee.{KeysKept, Guaranteed}
use Rattle.guarantee.specs.BadPlanners.{as_it_stood, sheet_order_always, unsearched, impossible_unsearched}
use Rattle.guarantee.proofs.SheetsOnce.{not_key_and_join, same_sheet, keys_speak}
use Rattle.guarantee.proofs.KeysGuaranteed.{keys_guaranteed}

-- the printed sheet: a sort-merge join of the pairs (a,x), (b,y), with b,a required
abbrev pub printed_sheet : List ℕ
printed_sheet = bytes "K,2,0,0,0,1,0,2\nR,0,2,1,0,1,0\nL,0,1,0,0,2,1\nG,0,5,0,0,6,1\nS,0,3\nW\nO\nA\nM\nC\nC\n"

abbrev printed : KeySheet
printed = sort_merge (column 2 1 ∷ column 1 0 ∷ []) (column 1 0 ∷ column 2 1 ∷ []) (column 5 0 ∷ column 6 1 ∷ []) (0 ∷ 3 ∷ [])

printed_read : read_key_sheet printed_sheet ≡ sheet printed
unfolding onto parts run field fields line_fields first_of fits allows_all line_number rows_of chain undefined_exprs over exprs rules_of key_lists_fit read_key_sheet
printed_read = refl

-- ---- which arrangements fit

abbrev Fits : List ℕ → Type 0
Fits ps = FitsPairs same_expr [] printed.required (sheet_pairs printed) ps

swapped : Arrangement 2 (1 ∷ 0 ∷ [])
swapped = record { long = refl; within = (omega arith, (omega arith, tt)); once = once }
  where
    once : (k : ℕ) → k < 2 → times k (1 ∷ 0 ∷ []) ≡ 1
    once zero h = refl
    once (suc zero) h = refl
    once (suc (suc k)) h = absurd (omega arith)

swapped_fits : Fits (1 ∷ 0 ∷ [])
swapped_fits = left (record { arrangement = swapped; equal = refl })

stood_fails : Fits (0 ∷ 1 ∷ []) → ⊥
stood_fails (left f) = true_false f.equal refl
stood_fails (right f) = true_false f.equal refl
stood_fails (left_rewritten f) = true_false f.equal refl
stood_fails (right_rewritten f) = true_false f.equal refl

something_fits : NothingFits same_expr [] printed.required (sheet_pairs printed) → ⊥
something_fits n = n (1 ∷ 0 ∷ []) swapped_fits

-- ---- what `decision` writes is guaranteed

no_placeholder : NoPlaceholder printed_sheet
no_placeholder = record {
  keys = λ x e. subst (λ (y : KeySheet). Lacks same_expr placeholder (key_expressions y)) (same_sheet printed_read e) (refl, (refl, (refl, (refl, (refl, (refl, tt))))));
  inputs = λ x e. absurd (not_key_and_join printed_sheet printed x printed_read e);
}

pub printed_guaranteed : (a : List ℕ) → decision printed_sheet ≡ wrote a → Guaranteed printed_sheet a
unfolding decision
printed_guaranteed a e = keys_guaranteed printed_sheet a e no_placeholder

-- ---- what the bad planners write is not

module _ (report : KeySheet → ℕ) (positions : KeySheet → List ℕ) where
  pub sheet_order_writes : sheet_order_always report positions printed_sheet ≡ wrote (key_answer_text (as_it_stood report positions printed))
  unfolding sheet_order_always
  sheet_order_writes = rw printed_read

  stood_not_kept : KeysKept printed (as_it_stood report positions printed) → ⊥
  stood_not_kept k = go (eqb (report printed) 3) refl
    where
      go : (b : Bool) → eqb (report printed) 3 ≡ b → ⊥
      go true e = something_fits ((k.exact.impossible refl).0 (eqb-true (report printed) 3 e))
      go false e = stood_fails (k.exact.fits refl (eqb-false (report printed) 3 e)).out

  pub sheet_order_fails : (a : List ℕ) → sheet_order_always report positions printed_sheet ≡ wrote a → Guaranteed printed_sheet a → ⊥
  sheet_order_fails a e g =
      stood_not_kept (keys_speak printed_sheet a printed (as_it_stood report positions printed) printed_read (cc sheet_order_writes) g)

pub unsearched_writes : impossible_unsearched printed_sheet ≡ wrote (key_answer_text (joined_by printed (unsearched printed)))
unfolding impossible_unsearched
unsearched_writes = rw printed_read

unsearched_not_kept : KeysKept printed (joined_by printed (unsearched printed)) → ⊥
unsearched_not_kept k = something_fits ((k.exact.impossible refl).0 refl)

pub unsearched_fails : (a : List ℕ) → impossible_unsearched printed_sheet ≡ wrote a → Guaranteed printed_sheet a → ⊥
unsearched_fails a e g =
    unsearched_not_kept (keys_speak printed_sheet a printed (joined_by printed (unsearched printed)) printed_read (cc unsearched_writes) g)
