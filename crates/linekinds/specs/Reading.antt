-- What the reading functions answer, and the line kind that a code and a letter stand for.
-- Renders document 01, "Where a sheet is turned back", numbers 2, 3, 4 and 6.
use Rattle.std.specs.Prelude.{ℕ, ◌≤◌, ◌<◌, ◌-◌, ◌*◌, List, [], ◌∷◌, ◌++◌, map, ◌≡◌, Bool, false, cond, not, ◌&&◌, ◌||◌, eqb, leb, ltb, length, get_or, take, drop}
use Rattle.std.proofs.Math.Option.{Option}
use Rattle.text.specs.declared.field.Field.{Field}
use Rattle.keys.specs.Expressions.{packed}
use Rattle.refusals.specs.Refusals.{refusal_of}
use Rattle.linekinds.specs.Lines.{Kind, most_bytes, most_entries, whole_entries, fields_of}
use Rattle.linekinds.specs.KeyLines.{undefined_exprs, over, defined_mode, defined_join, fit_children, key_line, input_head, expr_line, rule_line, input_line, direction_line, name_line}
use Rattle.linekinds.specs.declared.kind.Codes.{Codes}
use Rattle.linekinds.specs.declared.kind.Codes.TheVariants.{Key, Join, Exprs, Rules, Input, Directions, Names}
use Rattle.linekinds.specs.declared.line.Read.{Read}
use Rattle.linekinds.specs.declared.line.Read.TheVariants.{Line, Refused}

-- the first lines of K and I sheets have letters of their own
abbrev pub kind_of : Codes → ℕ → Kind
kind_of Key letter = key_line
kind_of Join letter = input_head
kind_of Exprs letter = expr_line letter
kind_of Rules letter = rule_line letter
kind_of Input letter = input_line letter
kind_of Directions letter = direction_line letter
kind_of Names letter = name_line letter

abbrev pub head_count : Codes → ℕ
head_count Key = 7
head_count Join = 2
head_count Exprs = 0
head_count Rules = 0
head_count Input = 1
head_count Directions = 0
head_count Names = 0

abbrev pub entry_width : Codes → ℕ
entry_width Key = 0
entry_width Join = 0
entry_width Exprs = 3
entry_width Rules = 6
entry_width Input = 3
entry_width Directions = 1
entry_width Names = 1

-- the codes of a line's numbers that document 01 does not define
abbrev pub undefined_key : List ℕ → Bool
undefined_key ns =
    not (leb (get_or ns 0 0) 6 && (defined_mode (get_or ns 0 0) (get_or ns 1 0) && (defined_join (get_or ns 0 0) (get_or ns 2 0) && (leb (get_or ns 4 0) 1 && leb (get_or ns 5 0) 1))))

abbrev pub undefined_join : List ℕ → Bool
undefined_join ns = not (leb (get_or ns 0 0) 6 && defined_mode (get_or ns 0 0) (get_or ns 1 0))

abbrev pub undefined_input : List ℕ → Bool
undefined_input ns = ltb 1 (get_or ns 0 0) || undefined_exprs (drop 1 ns)

abbrev pub undefined_by : Codes → List ℕ → Bool
undefined_by Key ns = undefined_key ns
undefined_by Join ns = undefined_join ns
undefined_by Exprs ns = undefined_exprs ns
undefined_by Rules ns = undefined_exprs ns
undefined_by Input ns = undefined_input ns
undefined_by Directions ns = over 3 ns
undefined_by Names ns = false

-- more than 8 children
abbrev pub large_by : Codes → List ℕ → Bool
large_by Key ns = ltb 8 (get_or ns 6 0)
large_by Join ns = false
large_by Exprs ns = false
large_by Rules ns = false
large_by Input ns = false
large_by Directions ns = false
large_by Names ns = false

abbrev pub unfit_by : Codes → List ℕ → Bool
unfit_by Key ns = not (fit_children (get_or ns 0 0) (get_or ns 6 0))
unfit_by Join ns = false
unfit_by Exprs ns = false
unfit_by Rules ns = false
unfit_by Input ns = false
unfit_by Directions ns = false
unfit_by Names ns = false

-- the number that a line's numbers give it: 3, 4, 6, or 0
abbrev pub codes_number : Codes → List ℕ → ℕ
codes_number c ns = cond (large_by c ns) 3 (cond (undefined_by c ns) 4 (cond (unfit_by c ns) 6 0))

-- as many fields as a kind has and whole entries, each a number within its bound
abbrev pub counts_right : Codes → ℕ → ℕ → ℕ → Bool
counts_right c count worst largest = leb (head_count c) count && ((leb worst 0 && leb largest 65535) && whole_entries (entry_width c) (count - head_count c))

-- 2 by its count of fields and their largest state and value, or 0
abbrev pub fields_number : Codes → ℕ → ℕ → ℕ → ℕ
fields_number c count worst largest = cond (counts_right c count worst largest) 0 2

-- 3 by its count of fields and the place after it, or 0
abbrev pub size_number : Codes → ℕ → ℕ → ℕ
size_number c count next = cond (ltb most_bytes next || ltb (most_entries * entry_width c) (count - head_count c)) 3 0

-- the number that its counts give it: 2, 3, or 0
abbrev pub counts_number : Codes → ℕ → ℕ → ℕ → ℕ → ℕ
counts_number c count worst largest next = cond (counts_right c count worst largest) (size_number c count next) 2

-- as many fields as a kind has
abbrev pub Whole : Codes → ℕ → Type 0
Whole Key n = n ≡ 7
Whole Join n = n ≡ 2
Whole Exprs n = Unit {0}
Whole Rules n = Unit {0}
Whole Input n = 1 ≤ n
Whole Directions n = Unit {0}
Whole Names n = Unit {0}

-- the numbers of a line's rows
abbrev pub row_value : List ℕ → ℕ
row_value r = get_or r 1 0

abbrev pub row_values : List (List ℕ) → List ℕ
row_values rs = map row_value rs

-- a line with the place after it, or the lowest number that turns it back
abbrev pub read_by : ℕ → ℕ → Option (List Field) → Read
read_by n next x = cond (eqb n 0) (Line (length (fields_of x)) next) (Refused (refusal_of n))

-- every three numbers packed in one
unfoldable pub packs : List ℕ → List ℕ
packs [] = []
packs (k ∷ []) = []
packs (k ∷ n ∷ []) = []
packs (k ∷ n ∷ i ∷ rest) = packed k n i ∷ packs rest

-- a line's list as the decision takes it: expressions packed, a mark before them, or the numbers as they are
abbrev pub packed_by : Codes → List ℕ → List ℕ
packed_by Key ns = ns
packed_by Join ns = ns
packed_by Exprs ns = packs ns
packed_by Rules ns = packs ns
packed_by Input ns = take 1 ns ++ packs (drop 1 ns)
packed_by Directions ns = ns
packed_by Names ns = ns

-- every number is a field's
abbrev pub Small : List ℕ → Type 0
Small [] = Unit {0}
Small (n ∷ ns) = (n < 65536) × Small ns

-- as many fields as a kind has, and no more entries than a list may have
abbrev pub Fits : Codes → ℕ → Type 0
Fits Key n = n ≡ 7
Fits Join n = n ≡ 2
Fits Exprs n = n ≤ 96
Fits Rules n = n ≤ 192
Fits Input n = (1 ≤ n) × (n ≤ 97)
Fits Directions n = n ≤ 32
Fits Names n = n ≤ 32
