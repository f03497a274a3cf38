-- Expressions: three numbers, their equality, the placeholder, and the one number that packs the three.
-- Renders document 01, "An expression is kind,name,index".
use Rattle.std.specs.Prelude.{ℕ, ◌+◌, ◌*◌, ◌/◌, ◌%◌, Bool, ◌&&◌, List, map, eqb, get_or}
use Rattle.keys.specs.Reorder.{Rule}

-- kind 0 a column, 1 another expression, 2 the placeholder
pub record Expression : Type 0 where
  pub kind : ℕ
  pub name : ℕ
  pub index : ℕ

-- all three equal
abbrev pub same_expr : Expression → Expression → Bool
same_expr a b = eqb a.kind b.kind && (eqb a.name b.name && eqb a.index b.index)

abbrev pub column : ℕ → ℕ → Expression
column name index = record { kind = 0; name = name; index = index }

-- `NoOp`
abbrev pub placeholder : Expression
placeholder = record { kind = 2; name = 0; index = 0 }

-- the expression that a number packs: kind × 2^32 + name × 2^16 + index
abbrev pub expression : ℕ → Expression
expression n = record { kind = n / 4294967296; name = n / 65536 % 65536; index = n % 65536 }

abbrev pub packed : ℕ → ℕ → ℕ → ℕ
packed kind name index = kind * 4294967296 + (name * 65536 + index)

-- the placeholder, packed
abbrev pub gone_number : ℕ
gone_number = 8589934592

abbrev pub expressions : List ℕ → List Expression
expressions ns = map expression ns

-- a rewriting entry from a row of two packed numbers
abbrev pub rule : List ℕ → Rule Expression
rule row = record { from = expression (get_or row 0 0); to = expression (get_or row 1 0) }

abbrev pub rules : List (List ℕ) → List (Rule Expression)
rules rows = map rule rows
