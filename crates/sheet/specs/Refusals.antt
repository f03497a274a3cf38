-- What is wrong with a K or I sheet: for each line the number that turns it back, for the sheet whether its lists fit;
-- and which of these is the refusal. Renders document 01, "Lowest line first, then lowest number; then Sheet, Work, Write
-- in table order", and "a missing line counts as the line after the last".
use Rattle.std.specs.Prelude.{◌≡◌, ◌⊎◌, ℕ, zero, suc, ◌+◌, ◌<◌, Bool, true, false, cond, not, ◌||◌, ltb, get_or, drop, replicate}
use mathlib.Core.List.{List, [], ◌∷◌, ◌++◌, tail}
use Rattle.std.proofs.Math.Option.{Option, none, some}
use Rattle.text.specs.declared.field.Field.{Field}
use Rattle.text.specs.Text.{parts}
use Rattle.text.specs.Lines.{first_of, next_of}
use Rattle.keys.specs.Expressions.{same_expr}
use Rattle.keys.specs.Adjust.{KeySheet, name_not_found, adjust_input_keys_ordering}
use Rattle.keys.specs.Inputs.{JoinSheet}
use Rattle.linekinds.specs.Lines.{Kind, Stage, most_bytes, fields_fit, too_many_entries, line_number, fields_of, at_end}
use Rattle.linekinds.specs.KeyLines.{at, key_line, input_head, key_stages, input_stages}
use Rattle.sheet.specs.KeySheets.{sheet, read_key_sheet, head_of, key_sheet_of, join_sheet_of, join_lists_fit}

-- ---- a line

-- the conditions of numbers 1 to 6 on a line, `next` the place after it: wrong or missing; malformed field, wrong field count, over the
-- largest number; beyond a size; undefined code, mark, direction or expression; 5 is of no line; child count unfit
abbrev pub conditions : Kind → ℕ → Option (List Field) → List Bool
conditions k next none = true ∷ []
conditions k next (some fs) =
    false ∷ (not (fields_fit k fs) || k.malformed fs) ∷ (ltb most_bytes next || (too_many_entries k fs || k.large 0 fs)) ∷ k.undefined fs ∷ false ∷ k.unfit fs ∷ []

-- n is the lowest number, the first being `from`, whose condition holds
pub record Lowest (from : ℕ) (cs : List Bool) (n : ℕ) : Type 0 where
  pub below : ℕ
  pub number : n ≡ from + below
  pub holds : get_or cs below false ≡ true
  pub lowest : (i : ℕ) → i < below → get_or cs i false ≡ false

abbrev pub NoCondition : List Bool → Type 0
NoCondition cs = (i : ℕ) → get_or cs i false ≡ false

-- ---- the lines of a sheet

-- the kind of each line of a chain
abbrev pub kinds_of : List Stage → List Kind
kinds_of [] = []
kinds_of (c ∷ cs) = replicate c.count c.kind ++ kinds_of cs

-- the lowest number that turns each line back, 0 where none does; at the end that of an extra line
unfoldable pub line_numbers : List Kind → ℕ → List (List ℕ) → List ℕ
line_numbers [] at ls = cond (at_end ls) 0 1 ∷ []
line_numbers (k ∷ ks) at ls = line_number k 0 (next_of at ls) (first_of k.letter ls) ∷ line_numbers ks (next_of at ls) (tail ls)

-- the place after line i of the lines that begin at a place, i from 0
unfoldable pub place_after : ℕ → List (List ℕ) → ℕ → ℕ
place_after at ls zero = next_of at ls
place_after at ls (suc i) = place_after (next_of at ls) (tail ls) i

-- the fields of each line
unfoldable pub line_rows : List Kind → List (List ℕ) → List (List Field)
line_rows [] ls = []
line_rows (k ∷ ks) ls = fields_of (first_of k.letter ls) ∷ line_rows ks (tail ls)

-- no line is turned back
abbrev pub NoLine : List ℕ → Type 0
NoLine ns = (i : ℕ) → get_or ns i 0 ≡ 0

-- line l, where the first is `from`, is the first that is turned back, by the number n
pub record FirstLine (from : ℕ) (ns : List ℕ) (n l : ℕ) : Type 0 where
  pub past : ℕ
  pub line : l ≡ from + past
  pub number : get_or ns past 0 ≡ n
  pub wrong : n ≡ 0 → ⊥
  pub first : (i : ℕ) → i < past → get_or ns i 0 ≡ 0

-- no line is turned back, and the lists do not fit: number 5, line 0
pub record WholeSheet (ns : List ℕ) (fit : Bool) (n l : ℕ) : Type 0 where
  pub lines : NoLine ns
  pub unfit : fit ≡ false
  pub number : n ≡ 5
  pub line : l ≡ 0

-- number n and line l turn the sheet back
abbrev pub TurnedBack : List ℕ → Bool → ℕ → ℕ → Type 0
TurnedBack ns fit n l = FirstLine 1 ns n l ⊎ WholeSheet ns fit n l

abbrev pub join_kinds : List Kind
join_kinds = input_head ∷ kinds_of input_stages

module _ (s : List ℕ) where
  -- the K line, and the lines that it asks for
  abbrev pub key_kinds : List Kind
  key_kinds = key_line ∷ kinds_of (key_stages (at (fields_of (first_of 75 (parts 10 s))) 6))

  -- for each line its number, or 0; and the sheet that its lines make
  abbrev pub key_numbers : List ℕ
  key_numbers = line_numbers key_kinds 0 (parts 10 s)

  abbrev pub key_sheet_in : KeySheet
  key_sheet_in = let rs : List (List Field) = line_rows key_kinds (parts 10 s) in key_sheet_of (head_of rs) (drop 1 rs)

  abbrev pub join_numbers : List ℕ
  join_numbers = line_numbers join_kinds 0 (parts 10 s)

  abbrev pub join_sheet_in : JoinSheet
  join_sheet_in = let rs : List (List Field) = line_rows join_kinds (parts 10 s) in join_sheet_of (head_of rs) (drop 1 rs)

  abbrev pub join_fits : Bool
  join_fits = join_lists_fit join_sheet_in (drop 1 (line_rows join_kinds (parts 10 s)))

  -- a name for J isn't found: number 10, line 0
  pub record NameMissing (n l : ℕ) : Type 0 where
    pub is : KeySheet
    pub reads : read_key_sheet s ≡ sheet is
    pub missing : adjust_input_keys_ordering same_expr is ≡ name_not_found
    pub number : n ≡ 10
    pub line : l ≡ 0
