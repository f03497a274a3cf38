-- What the quick reading of a line of numbers finds: text that stands there, as it would be written.
-- Document 01, the paragraph that begins "A sheet is ASCII lines ended by LF".
use Rattle.std.specs.Prelude.{ℕ, ◌+◌, ◌-◌, ◌<◌, ◌≡◌, List, [], ◌∷◌, map, length, get_or, Option, Some, None, Result, Ok, Err}
use Rattle.std.proofs.Math.Option.{some, none}
use Rattle.text.specs.declared.field.Field.{Field}
use Rattle.text.specs.declared.field.Field.TheVariants.{Number as number, Empty as empty}
use Rattle.text.specs.Text.{line_at, after}
use Rattle.text.specs.Write.{decimal}
use Rattle.linekinds.specs.Reading.{Small}
use Rattle.linekinds.specs.PlainText.{StandsAt, TextAt, numbers_text}
use Rattle.linekinds.specs.declared.plain.Number.{Number}
use Rattle.numberlines.specs.declared.row.Unread.{Unread}
use Rattle.numberlines.specs.declared.row.Unread.TheVariants.{Unusual, Other}

-- a text that ends with an LF
abbrev pub Closed : List ℕ → Type 0
Closed s = get_or s (length s - 1) 0 ≡ 10

-- a letter and a comma
abbrev pub Begins : List ℕ → ℕ → ℕ → Type 0
Begins s at letter = StandsAt s at letter × StandsAt s (at + 1) 44

-- the digits of a plain number, and the byte b after them
pub record NumberAt (s : List ℕ) (at n end b : ℕ) : Type 0 where
  pub text : TextAt s at (decimal n) end
  pub small : n < 65536
  pub ends : StandsAt s end b

-- such a number, or none stands there
abbrev pub NumberTo : List ℕ → ℕ → ℕ → Option Number → Type 0
NumberTo s at b (Some r) = NumberAt s at r.value r.end b
NumberTo s at b None = (n end : ℕ) → NumberAt s at n end b → ⊥

-- such numbers one after another, and a comma after them
pub record NumbersAt (s : List ℕ) (at : ℕ) (ns : List ℕ) (end : ℕ) : Type 0 where
  pub text : TextAt s at (numbers_text ns) end
  pub small : Small ns
  pub ends : StandsAt s end 44

-- a line of the letter with the fields, whose LF stands at `end`, within the bytes that a sheet may have
pub record LineOf (letter : ℕ) (s : List ℕ) (at : ℕ) (fs : List Field) (end : ℕ) : Type 0 where
  pub is : line_at letter s at ≡ some fs
  pub goes : after s at ≡ end + 1
  pub early : end < 65536

-- a line's numbers, as the row holds them; where something is unusual, a line of the letter stands there
abbrev pub RowFound : ℕ → List ℕ → ℕ → List ℕ → Result ℕ Unread → List ℕ → Type 0
RowFound letter s at row (Ok end) row' = LineOf letter s at (map number row') end × Small row'
RowFound letter s at row (Err Unusual) row' = line_at letter s at ≡ none → ⊥
RowFound letter s at row (Err Other) row' = row' ≡ row

-- a T line's fields, its limit empty, as the row of an operator holds them; its first place is left alone
pub record OperatorLine (letter : ℕ) (s : List ℕ) (at : ℕ) (row : List ℕ) (end : ℕ) (row' : List ℕ) : Type 0 where
  pub kind : ℕ
  pub count : ℕ
  pub keeps : ℕ
  pub order : ℕ
  pub tracked : ℕ
  pub need : ℕ
  pub children : ℕ
  pub line : LineOf letter s at (number kind ∷ number count ∷ number keeps ∷ empty ∷ number order ∷ number tracked ∷ number need ∷ number children ∷ []) end
  pub small : Small (kind ∷ count ∷ keeps ∷ order ∷ tracked ∷ need ∷ children ∷ [])
  pub held : row' ≡ get_or row 0 0 ∷ kind ∷ count ∷ keeps ∷ 0 ∷ 0 ∷ order ∷ 0 ∷ tracked ∷ need ∷ children ∷ []

-- what is unusual or something else is no such line, the latter in a text that ends with an LF
abbrev pub OperatorFound : ℕ → List ℕ → ℕ → List ℕ → Result ℕ Unread → List ℕ → Type 0
OperatorFound letter s at row (Ok end) row' = OperatorLine letter s at row end row'
OperatorFound letter s at row (Err Unusual) row' = (end : ℕ) (ns : List ℕ) → OperatorLine letter s at row end ns → ⊥
OperatorFound letter s at row (Err Other) row' = (row' ≡ row) × (Closed s → (end : ℕ) (ns : List ℕ) → OperatorLine letter s at row end ns → ⊥)
