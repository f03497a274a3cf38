-- Numbers, fields and lines as text.
-- Document 01, the paragraph that begins "A sheet is ASCII lines ended by LF": answers are lines of the same form.
use Rattle.std.specs.Prelude.{ℕ, zero, suc, ◌+◌, ◌/◌, ◌%◌, ◌≡◌, List, [], ◌∷◌, ◌++◌, cond, ltb, eqb, length, get_or}
use Rattle.std.proofs.lemmas.List.Edits.{sets}
use Rattle.text.specs.declared.field.Field.{Field}
use Rattle.text.specs.declared.field.Field.TheVariants.{Number as number, Empty as empty, Malformed as malformed}

-- the digits of n, with as many steps as k allows
unfoldable pub digits : ℕ → ℕ → List ℕ
digits zero n = (48 + n) ∷ []
digits (suc k) n = let rest : List ℕ = digits k (n / 10) in cond (ltb n 10) ((48 + n) ∷ []) (rest ++ ((48 + n % 10) ∷ []))

-- the decimal digits of n, with no leading zero
unfoldable pub decimal : ℕ → List ℕ
decimal n = digits n n

-- a field that is no number is written as nothing
unfoldable pub field_text : Field → List ℕ
field_text (number n) = decimal n
field_text empty = []
field_text malformed = []

-- a comma before each field
unfoldable pub fields_text : List Field → List ℕ
fields_text [] = []
fields_text (f ∷ fs) = 44 ∷ (field_text f ++ fields_text fs)

-- a line, with its LF
unfoldable pub line_text : ℕ → List Field → List ℕ
line_text letter fs = letter ∷ (fields_text fs ++ (10 ∷ []))

-- the field that a state and a value stand for
abbrev pub field_of : ℕ → ℕ → Field
field_of state value = cond (eqb state 0) (number value) (cond (eqb state 1) empty malformed)

abbrev pub row_field : List ℕ → Field
row_field r = field_of (get_or r 0 0) (get_or r 1 0)

-- the bytes xs were stored from the place at on, and next is the place after them
pub record Wrote (out : List ℕ) (at : ℕ) (xs : List ℕ) (out' : List ℕ) (next : ℕ) : Type 0 where
  pub place : next ≡ at + length xs
  pub stored : out' ≡ sets out at xs
