-- K and I sheets: what is accepted, exactly (`accepted_exactly`); and writing what was read gives the bytes (`written_again`).
use mathlib.Core.Path.{◌≡◌, refl}
use mathlib.Core.Logic.{◌↔◌}
use Prim.Native.Nat.{ℕ}
use native.Mathlib.Omega.{arith}
use mathlib.Core.List.{List, ◌∷◌}
use mathlib.Core.Bool.{Bool, true, false, not}
use lib.Dec.{eqb}
use lib.ListN.{length, drop}
use borrow.Author.Tests.{not-true, eqb-false}
use Rattle.std.proofs.lemmas.Bool.{and_parts}
use Rattle.text.specs.declared.field.Field.{Field}
use Rattle.text.specs.Text.{parts}
use Rattle.keys.specs.Adjust.{KeySheet}
use Rattle.keys.specs.Inputs.{JoinSheet}
use Rattle.linekinds.specs.KeyLines.{list_line, input_line, key_line, input_head, input_stages}
use Rattle.sheet.specs.KeySheets.{sheet, ended, row, directions_fit, unused_keys, key_lists_fit, join_lists_fit, key_sheet_of, join_sheet_of, key_whole, join_whole, stages_of_key, stages_of_input, read_key_sheet, read_join_sheet}
use Rattle.sheet.specs.KeyTexts.{key_sheet_text, join_sheet_text}
use Rattle.sheet.specs.Sizes.{Each}
use Rattle.sheet.specs.SheetLines.{in_turn}
use Rattle.sheet.proofs.InTurn.{readable, Counted, rows_text, FineRows}
use Rattle.sheet.specs.Refusals.{kinds_of, key_kinds, join_kinds}
use Rattle.sheet.proofs.Chained.{whole_rows, head_in_turn}
use Rattle.sheet.proofs.Accepted.{Accepted}
use Rattle.sheet.proofs.ReadExactly.{accepted_exactly, written_again}
use Rattle.sheet.proofs.KeyRows.{key_text, join_text}

-- ---- their kinds are counted

pub list_counted : (letter width : ℕ) (undefined : List Field → Bool) → eqb letter 10 ≡ false → Counted (list_line letter width undefined)
unfolding readable
list_counted letter width undefined ne = record { letter = eqb-false letter 10 ne; heads = refl; stops = λ o x. refl; owes = λ o fs. refl; large = λ n fs. refl }

pub input_counted : (letter : ℕ) → eqb letter 10 ≡ false → Counted (input_line letter)
unfolding readable
input_counted letter ne = record { letter = eqb-false letter 10 ne; heads = refl; stops = λ o x. refl; owes = λ o fs. refl; large = λ n fs. refl }

pub key_counted : Counted key_line
unfolding readable
key_counted = record { letter = λ e. omega arith; heads = refl; stops = λ o x. refl; owes = λ o fs. refl; large = λ n fs. refl }

pub head_counted : Counted input_head
unfolding readable
head_counted = record { letter = λ e. omega arith; heads = refl; stops = λ o x. refl; owes = λ o fs. refl; large = λ n fs. refl }

pub key_stages_counted : (fs : List Field) → Each (λ c. Counted c.kind) (stages_of_key fs)
key_stages_counted fs =
    let lists : Each (λ c. Counted c.kind) (drop 5 (stages_of_key fs)) = (list_counted 79 1 _ refl, (list_counted 65 1 _ refl, (list_counted 77 3 _ refl, (list_counted 67 3 _ refl, tt)))) in
    (list_counted 82 3 _ refl, (list_counted 76 3 _ refl, (list_counted 71 3 _ refl, (list_counted 83 1 _ refl, (list_counted 87 6 _ refl, lists)))))

pub input_stages_counted : (fs : List Field) → Each (λ c. Counted c.kind) (stages_of_input fs)
input_stages_counted fs =
    (list_counted 76 3 _ refl, (list_counted 71 3 _ refl, (list_counted 83 1 _ refl, (input_counted 72 refl, (input_counted 78 refl, (list_counted 87 6 _ refl, (list_counted 86 6 _ refl, tt)))))))

-- ---- what is accepted

-- line by line
module _ (s : List ℕ) where
  pub key_in_turn : read_key_sheet s ≡ ended (whole_rows stages_of_key key_whole) (in_turn (key_kinds s) 1 0 (parts 10 s))
  unfolding read_key_sheet
  key_in_turn = head_in_turn stages_of_key key_whole key_line key_counted key_stages_counted (parts 10 s)

  pub join_in_turn : read_join_sheet s ≡ ended (whole_rows stages_of_input join_whole) (in_turn join_kinds 1 0 (parts 10 s))
  unfolding read_join_sheet
  join_in_turn = head_in_turn stages_of_input join_whole input_head head_counted input_stages_counted (parts 10 s)

-- whatever the rows
abbrev pub key_fit : KeySheet → List (List Field) → Bool
key_fit y rs = key_lists_fit y

abbrev pub KeyAccepted : List ℕ → KeySheet → Type 0
KeyAccepted s x = Accepted key_line stages_of_key key_whole s x

abbrev pub JoinAccepted : List ℕ → JoinSheet → Type 0
JoinAccepted s x = Accepted input_head stages_of_input join_whole s x

pub key_accepted : (s : List ℕ) (x : KeySheet) → (read_key_sheet s ≡ sheet x) ↔ KeyAccepted s x
unfolding read_key_sheet
key_accepted s x = accepted_exactly key_line stages_of_key key_sheet_of key_fit key_counted key_stages_counted s x

pub join_accepted : (s : List ℕ) (x : JoinSheet) → (read_join_sheet s ≡ sheet x) ↔ JoinAccepted s x
unfolding read_join_sheet
join_accepted s x = accepted_exactly input_head stages_of_input join_sheet_of join_lists_fit head_counted input_stages_counted s x

-- ---- a sheet whose lists fit

-- L and G are equally long, S is as long as they are or empty, and H and N have no keys after mark 0
pub record JoinFits (y : JoinSheet) (rs : List (List Field)) : Type 0 where
  pub even : eqb (length y.left) (length y.right) ≡ true
  pub directed : directions_fit y.op y.directions y.left ≡ true
  pub left : unused_keys (row rs 3) ≡ false
  pub right : unused_keys (row rs 4) ≡ false

pub join_fits_lem : (y : JoinSheet) (rs : List (List Field)) → join_lists_fit y rs ≡ true → JoinFits y rs
unfolding join_lists_fit
join_fits_lem y rs e =
    let a = and_parts (eqb (length y.left) (length y.right)) _ e in
    let b = and_parts (directions_fit y.op y.directions y.left) _ a.1 in
    let c = and_parts (not (unused_keys (row rs 3))) (not (unused_keys (row rs 4))) b.1 in
    record { even = a.0; directed = b.0; left = not-true (unused_keys (row rs 3)) c.0; right = not-true (unused_keys (row rs 4)) c.1 }

-- ---- writing what was read gives the bytes

pub key_rows_written :
    (h : List Field) (rs : List (List Field)) → FineRows (key_line ∷ kinds_of (stages_of_key h)) (h ∷ rs) → key_lists_fit (key_sheet_of h rs) ≡ true →
    key_sheet_text (key_sheet_of h rs) ≡ rows_text (key_line ∷ kinds_of (stages_of_key h)) (h ∷ rs)
key_rows_written h rs f e = key_text h rs f

pub join_rows_written :
    (h : List Field) (rs : List (List Field)) → FineRows (input_head ∷ kinds_of input_stages) (h ∷ rs) → join_lists_fit (join_sheet_of h rs) rs ≡ true →
    join_sheet_text (join_sheet_of h rs) ≡ rows_text (input_head ∷ kinds_of input_stages) (h ∷ rs)
join_rows_written h rs f e = let j = join_fits_lem (join_sheet_of h rs) rs e in join_text h rs f j.left j.right

pub key_written_again : (s : List ℕ) (x : KeySheet) → read_key_sheet s ≡ sheet x → key_sheet_text x ≡ s
unfolding read_key_sheet
key_written_again = written_again key_line stages_of_key key_sheet_of key_fit key_counted key_stages_counted key_sheet_text key_rows_written

pub join_written_again : (s : List ℕ) (x : JoinSheet) → read_join_sheet s ≡ sheet x → join_sheet_text x ≡ s
unfolding read_join_sheet
join_written_again = written_again input_head stages_of_input join_sheet_of join_lists_fit head_counted input_stages_counted join_sheet_text join_rows_written
