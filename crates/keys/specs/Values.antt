-- What the structs and enums of the code stand for.
-- Renders document 01, "Key sheet", the lists, and "Answer: `k,changed,report`", the report.
use Rattle.std.specs.Prelude.{ℕ, List, [], map, take, get_or, Option, Some, None}
use Rattle.std.proofs.Math.Option as maybe
use Rattle.std.proofs.Math.Option.{none, some}
use Rattle.keys.specs.Lists.{permute}
use Rattle.keys.specs.Expressions.{Expression, expressions, gone_number}
use Rattle.keys.specs.Reorder.{Rule, Tried}
use Rattle.keys.specs.declared.expr.Expr.{Expr}
use Rattle.keys.specs.declared.list.KeyList.{KeyList}
use Rattle.keys.specs.declared.list.NumberList.{NumberList}
use Rattle.keys.specs.declared.reorder.Reordered.{Reordered}
use Rattle.keys.specs.declared.reorder.Reordered.TheVariants.{Met, Moved, Impossible}

abbrev pub number_of : Expr → ℕ
number_of e = e.number

-- the entries of a list, packed: the first `count` of its array
abbrev pub packed_keys : KeyList → List ℕ
packed_keys k = take k.count (map number_of k.items)

abbrev pub keys : KeyList → List Expression
keys k = expressions (packed_keys k)

abbrev pub numbers : NumberList → List ℕ
numbers p = take p.count p.items

-- an `Option` of the code
abbrev pub found : Option ℕ → maybe.Option ℕ
found None = none
found (Some p) = some p

abbrev pub positions_of : Option NumberList → maybe.Option (List ℕ)
positions_of None = none
positions_of (Some at) = some (numbers at)

-- a rewriting list on packed numbers
abbrev pub number_rule : List ℕ → Rule ℕ
number_rule row = record { from = get_or row 0 0; to = get_or row 1 0 }

abbrev pub number_rules : List (List ℕ) → List (Rule ℕ)
number_rules rows = map number_rule rows

-- document 01's number for each outcome
abbrev pub report_of : Reordered → ℕ
report_of Met = 1
report_of (Moved at) = 2
report_of Impossible = 3

-- there are positions only where the pairs are moved
abbrev pub positions_in : Reordered → List ℕ
positions_in Met = []
positions_in (Moved at) = numbers at
positions_in Impossible = []

-- what the pairs' move leaves, or what stood
abbrev pub tried_or : {A : Type 0} → Reordered → A → A → A
tried_or Met moved stood = stood
tried_or (Moved at) moved stood = moved
tried_or Impossible moved stood = stood

-- the keys at the positions where they moved, or those that stood
abbrev pub resulting : {A : Type 0} → A → Reordered → List A → List A
resulting gone o ks = tried_or o (permute gone ks (positions_in o)) ks

-- of the pairs l, g
abbrev pub tried_of : List ℕ → List ℕ → Reordered → Tried ℕ
tried_of l g r = record {
  report = report_of r;
  positions = positions_in r;
  left = resulting gone_number r l;
  right = resulting gone_number r g;
}
