-- How large D answers can be: by the largest number m and the largest limit l of a sheet, the bytes w of a number with its comma and v of a limit.
-- Renders document 01, "Fields are 0..65535; row counts and limits are 0..4294967295", "entries of a required order 0..8",
-- and "An output of 65,536 bytes always suffices".
use Rattle.std.specs.Prelude.{ℕ, ◌+◌, ◌*◌, ◌≤◌}
use Rattle.std.proofs.Math.Option.{Option, some, none as absent}
use Rattle.sheet.specs.Sizes.{Each}
use Rattle.exchange.specs.Trees.{node, none, ◌∷ᶠ◌, Operator, Plan, Plans}
use Rattle.exchange.specs.Facts.{ChildFacts, Row, Facts}
use Rattle.exchange.specs.Ensure.{Answer}

-- what holds of every operator of a tree
abbrev mutual
  pub Everywhere : (Operator → Type 0) → Plan → Type 0
  Everywhere P (node o ts) = P o × Everywheres P ts

  pub Everywheres : (Operator → Type 0) → Plans → Type 0
  Everywheres P none = Unit {0}
  Everywheres P (t ∷ᶠ ts) = Everywhere P t × Everywheres P ts

abbrev pub LimitWithin : ℕ → Option ℕ → Type 0
LimitWithin l absent = Unit {0}
LimitWithin l (some x) = x ≤ l

pub record OperatorWithin (m l : ℕ) (o : Operator) : Type 0 where
  pub id : o.id ≤ m
  pub kind : o.kind ≤ m
  pub count : o.count ≤ m
  pub keeps : o.keeps ≤ m
  pub limit : LimitWithin l o.limit
  pub order : o.order ≤ m
  pub mask : o.mask ≤ m
  pub tracked : o.tracked ≤ m

pub record RowWithin (m : ℕ) (x : Row) : Type 0 where
  pub count : x.count ≤ m
  pub order : x.order ≤ m

abbrev pub EntriesWithin : ChildFacts → Type 0
EntriesWithin c = c.entries ≤ 8

-- what of a sheet comes into its answer
pub record SizedFacts (m l : ℕ) (f : Facts) (t : Plan) : Type 0 where
  pub plan : Everywhere (OperatorWithin m l) t
  pub rows : Each (RowWithin m) f.rows
  pub children : Each EntriesWithin f.children

pub record SizedAnswer (m l : ℕ) (a : Answer) : Type 0 where
  pub changed : a.changed ≤ m
  pub window : a.window ≤ m
  pub interleave : a.interleave ≤ m
  pub tracked : a.tracked ≤ m
  pub plan : Everywhere (OperatorWithin m l) a.plan

-- a t line: eight numbers and a limit
abbrev pub operator_most : ℕ → ℕ → ℕ
operator_most w v = 2 + (8 * w + v)

-- the d line, and n t lines
abbrev pub plan_answer_most : ℕ → ℕ → ℕ → ℕ
plan_answer_most w v n = 2 + 4 * w + n * operator_most w v
