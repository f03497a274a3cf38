-- Runs of lines: a line kind is a value, and one recursion over lines reads a run of any kind.
-- Renders document 01, "Where a sheet is turned back": the rows with place Line, lowest line first, then lowest number.
use Rattle.std.specs.Prelude.{ℕ, suc, ◌-◌, ◌*◌, ◌%◌, List, [], ◌∷◌, ◌++◌, Bool, true, false, cond, ◌&&◌, ◌||◌, ltb, eqb, length, take, drop}
use Rattle.std.proofs.Math.Option.{Option, none, some}
use Rattle.text.specs.declared.field.Field.{Field}
use Rattle.text.specs.Lines.{first_of, next_of}
use Rattle.text.specs.Bounds.{Bound, fits, allows_all}

-- the most bytes of a sheet, and the most entries of a list
abbrev pub most_bytes : ℕ
most_bytes = 65536

abbrev pub most_entries : ℕ
most_entries = 32

-- a plain field
abbrev pub plain : Bound
plain = record { optional = false; largest = 65535 }

-- heads: the fields before the list, each with its bound; width: fields to an entry of the list, 0 where there is none;
-- then what further turns the line back, by its fields: number 2, 3 (by how many lines of the run are past), 4 and 6;
-- whether the run ends before a line, while so many are owed; and how many are owed after a line
pub record Kind : Type 0 where
  pub letter : ℕ
  pub heads : List Bound
  pub width : ℕ
  pub malformed : List Field → Bool
  pub large : ℕ → List Field → Bool
  pub undefined : List Field → Bool
  pub unfit : List Field → Bool
  pub stops : ℕ → Option (List Field) → Bool
  pub owes : ℕ → List Field → ℕ

-- whole entries of so many fields
abbrev pub whole_entries : ℕ → ℕ → Bool
whole_entries width n = cond (eqb width 0) (eqb n 0) (eqb (n % width) 0)

-- as many fields as the kind has, each within its bound
abbrev pub fields_fit : Kind → List Field → Bool
fields_fit k fs =
    let n : ℕ = length k.heads in
    fits k.heads (take n fs) && (allows_all plain (drop n fs) && whole_entries k.width (length (drop n fs)))

abbrev pub too_many_entries : Kind → List Field → Bool
too_many_entries k fs = ltb (most_entries * k.width) (length (drop (length k.heads) fs))

-- the lowest number that turns a line back, or 0; `next` is the place after it
unfoldable pub line_number : Kind → ℕ → ℕ → Option (List Field) → ℕ
line_number k seen next none = 1
line_number k seen next (some fs) =
    cond (fields_fit k fs)
    (cond (k.malformed fs) 2
    (cond (ltb most_bytes next || (too_many_entries k fs || k.large seen fs)) 3
    (cond (k.undefined fs) 4
    (cond (k.unfit fs) 6 0))))
    2

-- rows of fields, the lines after them, the number of the first of these and its place; or a refusal and its line
pub data Run : Type 0 where
  read : List (List Field) → List (List ℕ) → ℕ → ℕ → Run
  refused : ℕ → ℕ → Run

-- a row in front
abbrev pub before : List Field → Run → Run
before r (read rs ls l p) = read (r ∷ rs) ls l p
before r (refused n l) = refused n l

-- rows in front
abbrev pub behind : List (List Field) → Run → Run
behind qs (read rs ls l p) = read (qs ++ rs) ls l p
behind qs (refused n l) = refused n l

abbrev pub fields_of : Option (List Field) → List Field
fields_of none = []
fields_of (some fs) = fs

-- a run of lines of a kind, of which `owed` are to come and `seen` are past; the first has the number `line` and begins at the place `at`
unfoldable pub rows_of : Kind → ℕ → ℕ → ℕ → ℕ → List (List ℕ) → Run
rows_of k owed seen line at [] = cond (k.stops owed none) (read [] [] line at) (refused 1 line)
rows_of k owed seen line at (l ∷ ls) =
    let x : Option (List Field) = first_of k.letter (l ∷ ls) in
    let next : ℕ = next_of at (l ∷ ls) in
    let n : ℕ = line_number k seen next x in
    let fs : List Field = fields_of x in
    let rest : Run = rows_of k (k.owes owed fs) (suc seen) (suc line) next ls in
    cond (k.stops owed x) (read [] (l ∷ ls) line at) (cond (eqb n 0) (before fs rest) (refused n line))

-- so many lines of a kind
pub record Stage : Type 0 where
  pub kind : Kind
  pub count : ℕ

-- what follows a run begins where it ended
abbrev pub onward : Run → (ℕ → ℕ → List (List ℕ) → Run) → Run
onward (refused n l) rest = refused n l
onward (read rs ls l p) rest = behind rs (rest l p ls)

-- a chain of runs
unfoldable pub chain : List Stage → ℕ → ℕ → List (List ℕ) → Run
chain [] line at ls = read [] ls line at
chain (c ∷ cs) line at ls = onward (rows_of c.kind c.count 0 line at ls) (λ l p ms. chain cs l p ms)

-- nothing follows: what remains after the last LF is empty, else the line is an extra one
abbrev pub at_end : List (List ℕ) → Bool
at_end [] = true
at_end ([] ∷ []) = true
at_end ([] ∷ m ∷ ms) = false
at_end ((b ∷ bs) ∷ ms) = false

-- a run of a known number of lines
abbrev pub counted : ℕ → Option (List Field) → Bool
counted owed x = eqb owed 0

abbrev pub one_less : ℕ → List Field → ℕ
one_less owed fs = owed - 1

abbrev pub never : List Field → Bool
never fs = false

abbrev pub never_large : ℕ → List Field → Bool
never_large seen fs = false
