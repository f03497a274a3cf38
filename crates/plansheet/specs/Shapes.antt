-- Lines of fixed fields by a table: each field has a bound, and may have a most (number 3) and a last code (number 4);
-- tree lines, and lines while they come.
-- Renders document 01, "Where a sheet is turned back": the rows with place Line; and "T lines in preorder".
use Rattle.std.specs.Prelude.{ℕ, ◌+◌, ◌-◌, List, [], ◌∷◌, Bool, true, false, not, ◌&&◌, ◌||◌, eqb, leb, ltb, length, get_or, replicate}
use Rattle.std.proofs.Math.Option.{Option, none, some}
use Rattle.text.specs.declared.field.Field.{Field}
use Rattle.text.specs.declared.field.Field.TheVariants.{Number as number}
use Rattle.text.specs.Text.{state_of}
use Rattle.text.specs.Bounds.{Bound}
use Rattle.linekinds.specs.Lines.{Kind, plain, counted, one_less, never}
use Rattle.linekinds.specs.KeyLines.{at, values}

-- the letter; a bound for each field; the most of the first fields, and the last codes of the first fields
pub record Shape : Type 0 where
  pub letter : ℕ
  pub heads : List Bound
  pub sizes : List ℕ
  pub codes : List ℕ

-- so many plain fields, of which no most is asked
abbrev pub plain_shape : ℕ → ℕ → List ℕ → Shape
plain_shape letter width codes = record { letter = letter; heads = replicate width plain; sizes = []; codes = codes }

-- some number is over its own largest; numbers past the last largest are not asked
unfoldable pub over_any : List ℕ → List ℕ → Bool
over_any [] ns = false
over_any (m ∷ ms) [] = false
over_any (m ∷ ms) (n ∷ ns) = ltb m n || over_any ms ns

-- a line of the shape, in a run that stops and owes as it is told
abbrev pub shaped_line : Shape → (ℕ → Option (List Field) → Bool) → (ℕ → List Field → ℕ) → Kind
shaped_line h stops owes = record {
  letter = h.letter;
  heads = h.heads;
  width = 0;
  malformed = never;
  large = λ seen fs. over_any h.sizes (values fs);
  undefined = λ fs. over_any h.codes (values fs);
  unfit = never;
  stops = stops;
  owes = owes;
}

-- a known number of lines
abbrev pub fixed_line : Shape → Kind
fixed_line h = shaped_line h counted one_less

abbrev pub is_none : Option (List Field) → Bool
is_none none = true
is_none (some fs) = false

-- as many lines as come: the run ends before the first that is not an ended line of the letter
abbrev pub coming_line : Shape → Kind
coming_line h = shaped_line h (λ owed x. is_none x) (λ owed fs. owed)

-- ---- tree lines

-- the places of a tree line's fields that its rules go by: kind, limit, children
abbrev pub kind_at : List Field → ℕ
kind_at fs = at fs 0

abbrev pub limit_at : List Field → Field
limit_at fs = get_or fs 3 (number 0)

abbrev pub children_at : List Field → ℕ
children_at fs = at fs 7

-- repartitions (3, and 4 of unknown partitioning) have no limit
abbrev pub exchange_limited : ℕ → ℕ → Bool
exchange_limited kind state = not (eqb state 1) && (eqb kind 3 || eqb kind 4)

-- rules: for each kind, the least and the most children
abbrev pub rule_fits : List (List ℕ) → ℕ → ℕ → Bool
rule_fits rules kind n = leb (get_or (get_or rules kind []) 0 0) n && leb n (get_or (get_or rules kind []) 1 0)

-- "8 children a node"
abbrev pub most_children : ℕ
most_children = 8

-- at most so many lines; kinds are those that have a rule; each line owes its children, and the run ends when no tree is owed
abbrev pub tree_line : Shape → List (List ℕ) → ℕ → Kind
tree_line h rules most = record {
  letter = h.letter;
  heads = h.heads;
  width = 0;
  malformed = λ fs. exchange_limited (kind_at fs) (state_of (limit_at fs));
  large = λ seen fs. leb most seen || (ltb most_children (children_at fs) || over_any h.sizes (values fs));
  undefined = λ fs. leb (length rules) (kind_at fs) || over_any h.codes (values fs);
  unfit = λ fs. not (rule_fits rules (kind_at fs) (children_at fs));
  stops = counted;
  owes = λ owed fs. owed - 1 + children_at fs;
}
