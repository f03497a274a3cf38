-- The decisions on K and I sheets are refused exactly where a line or the sheet is wrong, or a name is missing; and the numbers of lines, line by line.
use mathlib.Core.Path.{◌≡◌, refl, ◌∙◌}
use mathlib.Core.Logic.{◌⊎◌, inl, inr, ◌↔◌}
use Prim.Native.Nat.{ℕ, zero, suc, ◌<◌}
use native.Mathlib.Omega.{arith}
use mathlib.Core.List.{List, [], ◌∷◌, tail}
use mathlib.Core.Bool.{cond}
use lib.ListN.{length, get_or, drop}
use Rattle.text.specs.Lines.{first_of, next_of}
use Rattle.keys.specs.Expressions.{same_expr}
use Rattle.keys.specs.Adjust.{KeySheet, Adjustment, answered, name_not_found, adjust_input_keys_ordering}
use Rattle.keys.specs.Inputs.{JoinSheet}
use Rattle.linekinds.specs.Lines.{Kind, line_number, at_end}
use Rattle.sheet.specs.KeySheets.{Reading, sheet, turned, key_lists_fit, read_key_sheet, read_join_sheet}
use Rattle.sheet.specs.KeyAnswers.{refused, adjusted, key_outcome, join_outcome, adjust_decision, inputs_decision}
use Rattle.sheet.specs.Refusals.{line_numbers, place_after, TurnedBack, key_numbers, key_sheet_in, NameMissing, join_numbers, join_fits}
use Rattle.sheet.proofs.Refused.{key_refused_exactly, join_refused_exactly}

-- ---- the number of line i

pub drop_tail : (i : ℕ) (ls : List (List ℕ)) → drop i (tail ls) ≡ drop (suc i) ls
drop_tail zero [] = refl
drop_tail (suc i) [] = refl
drop_tail i (l ∷ ls) = refl

pub number_at :
    (ks : List Kind) (at : ℕ) (ls : List (List ℕ)) (i : ℕ) (d : Kind) → i < length ks →
    get_or (line_numbers ks at ls) i 0 ≡ line_number (get_or ks i d) 0 (place_after at ls i) (first_of (get_or ks i d).letter (drop i ls))
unfolding line_numbers place_after
number_at [] at ls i d h = absurd (omega arith)
number_at (k ∷ ks) at ls zero d h = refl
number_at (k ∷ ks) at ls (suc i) d h = number_at ks (next_of at ls) (tail ls) i d (omega arith) ∙ rw (drop_tail i ls)

-- after the last
pub number_after : (ks : List Kind) (at : ℕ) (ls : List (List ℕ)) → get_or (line_numbers ks at ls) (length ks) 0 ≡ cond (at_end (drop (length ks) ls)) 0 1
unfolding line_numbers
number_after [] at ls = refl
number_after (k ∷ ks) at ls = number_after ks (next_of at ls) (tail ls) ∙ rw (drop_tail (length ks) ls)

-- ---- decisions

missing_by : (s : List ℕ) (x : KeySheet) (o : Adjustment) (n l : ℕ) → read_key_sheet s ≡ sheet x → adjust_input_keys_ordering same_expr x ≡ o → adjusted o ≡ refused n l → NameMissing s n l
missing_by s x (answered a) n l r q e = absurd (cc)
missing_by s x name_not_found n l r q e = record { is = x; reads = r; missing = q; number = cc; line = cc }

key_refused_by : (s : List ℕ) (r : Reading KeySheet) (n l : ℕ) → read_key_sheet s ≡ r → key_outcome r ≡ refused n l → (read_key_sheet s ≡ turned n l) ⊎ NameMissing s n l
key_refused_by s (turned m k) n l q e = let a : m ≡ n = cc in let b : k ≡ l = cc in inl (q ∙ rw (a, b))
key_refused_by s (sheet x) n l q e = inr (missing_by s x (adjust_input_keys_ordering same_expr x) n l q refl e)

join_refused_by : (s : List ℕ) (r : Reading JoinSheet) (n l : ℕ) → read_join_sheet s ≡ r → join_outcome r ≡ refused n l → read_join_sheet s ≡ turned n l
join_refused_by s (turned m k) n l q e = let a : m ≡ n = cc in let b : k ≡ l = cc in q ∙ rw (a, b)
join_refused_by s (sheet x) n l q e = absurd (cc)

module _ (s : List ℕ) (n l : ℕ) where
  wrong : (read_key_sheet s ≡ turned n l) ⊎ NameMissing s n l → TurnedBack (key_numbers s) (key_lists_fit (key_sheet_in s)) n l ⊎ NameMissing s n l
  wrong (inl e) = inl ((key_refused_exactly s n l).0 e)
  wrong (inr m) = inr m

  refuses : TurnedBack (key_numbers s) (key_lists_fit (key_sheet_in s)) n l ⊎ NameMissing s n l → key_outcome (read_key_sheet s) ≡ refused n l
  refuses (inl t) = rw ((key_refused_exactly s n l).1 t)
  refuses (inr m) = rw (m.reads, m.missing, m.number, m.line)

  pub adjust_refused_exactly : (adjust_decision s ≡ refused n l) ↔ (TurnedBack (key_numbers s) (key_lists_fit (key_sheet_in s)) n l ⊎ NameMissing s n l)
  unfolding adjust_decision
  adjust_refused_exactly = (λ e. wrong (key_refused_by s (read_key_sheet s) n l refl e), refuses)

  pub inputs_refused_exactly : (inputs_decision s ≡ refused n l) ↔ TurnedBack (join_numbers s) (join_fits s) n l
  unfolding inputs_decision
  inputs_refused_exactly = (λ e. (join_refused_exactly s n l).0 (join_refused_by s (read_join_sheet s) n l refl e), λ t. rw ((join_refused_exactly s n l).1 t))
