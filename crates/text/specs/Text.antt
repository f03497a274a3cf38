-- Text as lists of bytes: fields parted by commas, decimal numbers with no leading zero, a line with its letter.
-- Document 01, the paragraph that begins "A sheet is ASCII lines ended by LF".
use Rattle.std.specs.Prelude.{ℕ, suc, ◌+◌, ◌-◌, ◌*◌, max, List, [], ◌∷◌, map, Bool, cond, ◌&&◌, ltb, leb, eqb, length, take, drop}
use Rattle.std.proofs.Math.Option.{Option, none, some}
use Rattle.text.specs.declared.field.Field.{Field}
use Rattle.text.specs.declared.field.Field.TheVariants.{Number as number, Empty as empty, Malformed as malformed}

-- how many bytes stand before the first b, or all of them where there is none
unfoldable pub until : ℕ → List ℕ → ℕ
until b [] = 0
until b (x ∷ xs) = cond (eqb x b) 0 (suc (until b xs))

-- the byte goes in front of the first part
unfoldable pub onto : ℕ → List (List ℕ) → List (List ℕ)
onto x [] = (x ∷ []) ∷ []
onto x (p ∷ ps) = (x ∷ p) ∷ ps

-- the parts between the bytes b: one part at least
unfoldable pub parts : ℕ → List ℕ → List (List ℕ)
parts b [] = [] ∷ []
parts b (x ∷ xs) = cond (eqb x b) ([] ∷ parts b xs) (onto x (parts b xs))

abbrev pub is_digit : ℕ → Bool
is_digit b = leb 48 b && leb b 57

-- digits that follow digits that gave n, up to the largest number m
unfoldable pub run : ℕ → ℕ → List ℕ → Field
run m n [] = number n
run m n (b ∷ bs) = let v : ℕ = n * 10 + (b - 48) in cond (is_digit b && leb v m) (run m v bs) malformed

-- a field up to the largest number m: nothing, a digit alone, or digits that do not begin with 0
unfoldable pub field : ℕ → List ℕ → Field
field m [] = empty
field m (b ∷ []) = run m 0 (b ∷ [])
field m (b ∷ c ∷ cs) = cond (eqb b 48) malformed (run m 0 (b ∷ c ∷ cs))

-- the largest number of 64 bits, up to which fields are read
abbrev pub most : ℕ
most = 18446744073709551615

unfoldable pub fields : List ℕ → List Field
fields s = map (field most) (parts 44 s)

-- the bytes before the first LF
unfoldable pub line : List ℕ → List ℕ
line xs = take (until 10 xs) xs

-- the fields of a line: none where the letter is not all that stands before its first comma
unfoldable pub line_fields : ℕ → List ℕ → Option (List Field)
line_fields letter [] = none
line_fields letter (x ∷ []) = cond (eqb x letter) (some []) none
line_fields letter (x ∷ c ∷ cs) = cond (eqb x letter && eqb c 44) (some (fields cs)) none

-- the line that begins at a place of the text: none where it is not ended by LF, or not of the letter
unfoldable pub line_at : ℕ → List ℕ → ℕ → Option (List Field)
line_at letter s at = let rest : List ℕ = drop at s in cond (ltb (until 10 rest) (length rest)) (line_fields letter (line rest)) none

-- the place after the line that begins at a place
unfoldable pub after : List ℕ → ℕ → ℕ
after s at = at + until 10 (drop at s) + 1

-- a field as two numbers: its state, and its value, 0 where it has none
abbrev pub state_of : Field → ℕ
state_of (number n) = 0
state_of empty = 1
state_of malformed = 2

abbrev pub value_of : Field → ℕ
value_of (number n) = n
value_of empty = 0
value_of malformed = 0

abbrev pub row : Field → List ℕ
row f = state_of f ∷ value_of f ∷ []

-- the largest of n and the numbers
unfoldable pub greatest : ℕ → List ℕ → ℕ
greatest n [] = n
greatest n (x ∷ xs) = greatest (max n x) xs
