-- The lines of a K or I sheet read one after the other, and what reading leaves in the rooms lent.
-- Renders document 01, "Lines in order", and "Lowest line first, then lowest number".
use Rattle.std.specs.Prelude.{◌≡◌, ℕ, zero, suc, ◌+◌, ◌-◌, ◌≤◌, ◌<◌, true, cond, eqb, length, get_or, drop, Result, Ok, Err}
use mathlib.Core.List.{List, [], ◌∷◌, tail}
use Rattle.std.proofs.Math.Option.{Option}
use Rattle.text.specs.declared.field.Field.{Field}
use Rattle.text.specs.Text.{parts}
use Rattle.text.specs.Lines.{first_of, next_of}
use Rattle.linekinds.specs.Lines.{Kind, Run, read, refused, before, whole_entries, line_number, fields_of, at_end}
use Rattle.linekinds.specs.KeyLines.{at, values}
use Rattle.linekinds.specs.Reading.{head_count, entry_width, packed_by, Small, Fits}
use Rattle.linekinds.specs.ListLines.{line_codes, line_kind, line_letter}
use Rattle.linekinds.specs.declared.lists.SheetKind.{SheetKind}
use Rattle.linekinds.specs.declared.lists.SheetKind.TheVariants.{Key, Join}
use Rattle.refusals.specs.declared.Refused.{Refused}
use Rattle.refusals.specs.Refusals.{refusal_of}
use Rattle.sheet.specs.Held.{held_at}
use Rattle.sheet.specs.declared.read.LinesRead.{LinesRead}

-- a line of each kind, the first with the number `line` and at the place `at`
unfoldable pub in_turn : List Kind → ℕ → ℕ → List (List ℕ) → Run
in_turn [] line at ls = read [] ls line at
in_turn (k ∷ ks) line at ls =
    let x : Option (List Field) = first_of k.letter ls in
    let next : ℕ = next_of at ls in
    let n : ℕ = line_number k 0 next x in
    let rest : Run = in_turn ks (suc line) next (tail ls) in
    cond (eqb n 0) (before (fields_of x) rest) (refused n line)

-- the kinds of n lines, from line i on
unfoldable pub line_kinds : SheetKind → ℕ → ℕ → List Kind
line_kinds k i zero = []
line_kinds k i (suc n) = line_kind k i ∷ line_kinds k (suc i) n

-- the most lines that a sheet has
abbrev pub most_lists : SheetKind → ℕ
most_lists Key = 17
most_lists Join = 8

-- how many lines a sheet has, by the fields of its head
abbrev pub line_count : SheetKind → List Field → ℕ
line_count Key fs = 9 + at fs 6
line_count Join fs = 8

-- the same, by the head's seventh number
abbrev pub count_by : SheetKind → ℕ → ℕ
count_by Key n = 9 + n
count_by Join n = 8

-- a K line has at most 8 children
abbrev pub FewChildren : SheetKind → ℕ → Type 0
FewChildren Key n = n ≤ 8
FewChildren Join n = Unit {0}

-- the lines from line i on, which begins at a place
abbrev pub lines_from : List ℕ → SheetKind → ℕ → ℕ → ℕ → Run
lines_from s k i n at = in_turn (line_kinds k i n) (suc i) at (parts 10 (drop at s))

-- a refusal by its number, on a line
abbrev pub refused_on : ℕ → ℕ → Refused
refused_on n l = record { refusal = refusal_of n; line = l }

-- all lines were read, with the place after them and the number of the next; or a refusal and its line
abbrev pub lines_by : Run → Result LinesRead Refused
lines_by (read rs ls l p) = Ok (record { next = p; line = l })
lines_by (refused n l) = Err (refused_on n l)

-- the list of line i is held
pub record HeldLine (k : SheetKind) (lists : List (List ℕ)) (counts : List ℕ) (i : ℕ) (fs : List Field) : Type 0 where
  pub fits : Fits (line_codes k i) (length fs)
  pub entries : whole_entries (entry_width (line_codes k i)) (length fs - head_count (line_codes k i)) ≡ true
  pub small : Small (values fs)
  pub room : get_or counts i 0 ≤ 64
  pub long : get_or counts i 0 ≡ length (held_at lists counts i)
  pub is : held_at lists counts i ≡ packed_by (line_codes k i) (values fs)

-- so are those of the lines that were read, from line i on; and what is left of the text are the lines left
abbrev pub HeldLines : List ℕ → SheetKind → ℕ → Run → List (List ℕ) → List ℕ → Type 0
HeldLines s k i (read rs ls l p) lists counts = (ls ≡ parts 10 (drop p s)) × ((j : ℕ) → j < length rs → HeldLine k lists counts (i + j) (get_or rs j []))
HeldLines s k i (refused n l) lists counts = Unit {0}

-- all lines of a sheet
unfoldable pub whole_lines : SheetKind → List ℕ → Run
whole_lines k s = in_turn (line_kinds k 0 (line_count k (fields_of (first_of (line_letter k 0) (parts 10 s))))) 1 0 (parts 10 s)

-- and nothing after them
abbrev pub ended_by : Run → Result LinesRead Refused
ended_by (read rs ls l p) = cond (at_end ls) (Ok (record { next = p; line = l })) (Err (refused_on 1 l))
ended_by (refused n l) = Err (refused_on n l)

-- every list has room for 64 numbers
abbrev pub Full : List (List ℕ) → Type 0
Full lists = (i : ℕ) → i < length lists → length (get_or lists i []) ≡ 64

-- the rooms keep their lengths and their first line
pub record HeadKept (lists₀ : List (List ℕ)) (counts₀ : List ℕ) (lists : List (List ℕ)) (counts : List ℕ) : Type 0 where
  pub lists_long : length lists ≡ length lists₀
  pub counts_long : length counts ≡ length counts₀
  pub list : get_or lists 0 [] ≡ get_or lists₀ 0 []
  pub count : get_or counts 0 0 ≡ get_or counts₀ 0 0
