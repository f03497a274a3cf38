-- What a quick reading of a line finds: text that stands there, as it would be written. Where it finds something else, nothing is said.
-- Document 01, the paragraph that begins "A sheet is ASCII lines ended by LF".
use Rattle.std.specs.Prelude.{ℕ, ◌+◌, ◌-◌, ◌*◌, ◌%◌, ◌≤◌, ◌<◌, ◌≡◌, true, false, List, [], ◌∷◌, ◌++◌, map, length, get_or, take, drop, set, Option, Some, None}
use Rattle.text.specs.declared.field.Field.TheVariants.{Number as number}
use Rattle.text.specs.Text.{line_at, after}
use Rattle.text.specs.Write.{decimal, fields_text}
use Rattle.keys.specs.Expressions.{packed}
use Rattle.linekinds.specs.KeyLines.{defined_expr, undefined_exprs, over}
use Rattle.linekinds.specs.Lines.{line_number}
use Rattle.linekinds.specs.Reading.{kind_of, packs, Small}
use Rattle.linekinds.specs.ListLines.{packed_list}
use Rattle.linekinds.specs.declared.kind.Codes.{Codes}
use Rattle.linekinds.specs.declared.plain.Number.{Number}
use Rattle.linekinds.specs.declared.plain.Entries.{Entries}

-- a byte at a place of a text
abbrev pub StandsAt : List ℕ → ℕ → ℕ → Type 0
StandsAt s at b = (at < length s) × (get_or s at 0 ≡ b)

abbrev pub DigitAt : List ℕ → ℕ → Type 0
DigitAt s at = (at < length s) × (48 ≤ get_or s at 0) × (get_or s at 0 ≤ 57)

-- a text xs at a place, and the place after it
pub record TextAt (s : List ℕ) (at : ℕ) (xs : List ℕ) (end : ℕ) : Type 0 where
  pub text : drop at s ≡ xs ++ drop end s
  pub place : end ≡ at + length xs

-- the digits of a field's number
abbrev pub DigitsFound : List ℕ → ℕ → Option Number → Type 0
DigitsFound s at (Some r) = TextAt s at (decimal r.value) r.end × (r.value < 65536)
DigitsFound s at None = Unit {0}

-- a comma before each number
abbrev pub numbers_text : List ℕ → List ℕ
numbers_text ns = fields_text (map number ns)

abbrev pub FieldFound : List ℕ → ℕ → Option Number → Type 0
FieldFound s at (Some r) = TextAt s at (numbers_text (r.value ∷ [])) r.end × (r.value < 65536)
FieldFound s at None = Unit {0}

-- an expression's fields, packed to x
pub record EntryAt (s : List ℕ) (at x end : ℕ) : Type 0 where
  pub kind : ℕ
  pub name : ℕ
  pub index : ℕ
  pub text : TextAt s at (numbers_text (kind ∷ name ∷ index ∷ [])) end
  pub small : Small (kind ∷ name ∷ index ∷ [])
  pub defined : defined_expr kind name index ≡ true
  pub packs : x ≡ packed kind name index

abbrev pub EntryFound : List ℕ → ℕ → Option Number → Type 0
EntryFound s at (Some r) = EntryAt s at r.value r.end
EntryFound s at None = Unit {0}

-- numbers of whole entries, packed behind the first ones of a list
pub record EntriesAt (s : List ℕ) (at from count end : ℕ) (list list' : List ℕ) : Type 0 where
  pub ns : List ℕ
  pub text : TextAt s at (numbers_text ns) end
  pub small : Small ns
  pub defined : undefined_exprs ns ≡ false
  pub more : from ≤ count
  pub whole : length ns ≡ (count - from) * 3
  pub packed : take count list' ≡ take from list ++ packs ns

-- an LF, on a line that ends within the bytes that a sheet may have
pub record LineEnd (s : List ℕ) (end next : ℕ) : Type 0 where
  pub ends : StandsAt s end 10
  pub goes : next ≡ end + 1
  pub early : next ≤ 65536

abbrev pub EndFound : List ℕ → ℕ → ℕ → Option Entries → Type 0
EndFound s end n (Some r) = (r.count ≡ n) × LineEnd s end (r.end + 1)
EndFound s end n None = Unit {0}

-- such entries up to the line's end
pub record LineEntries (s : List ℕ) (at from most count next : ℕ) (list list' : List ℕ) : Type 0 where
  pub end : ℕ
  pub entries : EntriesAt s at from count end list list'
  pub few : count ≤ most
  pub close : LineEnd s end next

abbrev pub EntriesFound : List ℕ → ℕ → ℕ → ℕ → List ℕ → Option Entries → List ℕ → Type 0
EntriesFound s at from most list (Some r) list' = LineEntries s at from most r.count (r.end + 1) list list'
EntriesFound s at from most list None list' = Unit {0}

-- numbers up to the largest, at the front of a list
pub record NumbersHeld (s : List ℕ) (at largest count end : ℕ) (list : List ℕ) : Type 0 where
  pub ns : List ℕ
  pub text : TextAt s at (numbers_text ns) end
  pub small : Small ns
  pub within : over largest ns ≡ false
  pub long : length ns ≡ count
  pub held : take count list ≡ ns

-- such numbers up to the line's end
pub record LineNumbers (s : List ℕ) (at largest count next : ℕ) (list : List ℕ) : Type 0 where
  pub end : ℕ
  pub numbers : NumbersHeld s at largest count end list
  pub few : count ≤ 32
  pub close : LineEnd s end next

abbrev pub NumbersFound : List ℕ → ℕ → ℕ → Option Entries → List ℕ → Type 0
NumbersFound s at largest (Some r) list = LineNumbers s at largest r.count (r.end + 1) list
NumbersFound s at largest None list = Unit {0}

abbrev pub RulesFound : List ℕ → ℕ → List ℕ → Option Entries → List ℕ → Type 0
RulesFound s at list (Some r) list' = LineEntries s at 0 64 r.count (r.end + 1) list list' × (r.count % 2 ≡ 0)
RulesFound s at list None list' = Unit {0}

-- a mark, kept as it stands, and entries behind it
pub record MarkedEntries (s : List ℕ) (at count next : ℕ) (list list' : List ℕ) : Type 0 where
  pub mark : ℕ
  pub end : ℕ
  pub text : TextAt s at (numbers_text (mark ∷ [])) end
  pub small : mark ≤ 1
  pub entries : LineEntries s end 1 33 count next (set list 0 mark) list'

abbrev pub InputFound : List ℕ → ℕ → List ℕ → Option Entries → List ℕ → Type 0
InputFound s at list (Some r) list' = MarkedEntries s at r.count (r.end + 1) list list'
InputFound s at list None list' = Unit {0}

-- a line that is accepted, the place after it, and its list at the front of the room
pub record ListAt (c : Codes) (letter : ℕ) (s : List ℕ) (at count next : ℕ) (list : List ℕ) : Type 0 where
  pub zero : line_number (kind_of c letter) 0 (after s at) (line_at letter s at) ≡ 0
  pub goes : next ≡ after s at
  pub early : next ≤ 65536
  pub few : count ≤ 64
  pub held : take count list ≡ packed_list c (line_at letter s at)

abbrev pub ListFound : Codes → ℕ → List ℕ → ℕ → Option Entries → List ℕ → Type 0
ListFound c letter s at (Some r) list = ListAt c letter s at r.count (r.end + 1) list
ListFound c letter s at None list = Unit {0}
