-- What is said of a new operator, by its numbers.
-- Renders document 01, "new kinds 12 keyed exchange, 13 round robin, 14 interleave".
use Rattle.std.specs.Prelude.{ℕ, cond, eqb, Option as Limit, Some, None}
use Rattle.std.proofs.Math.Option.{Option, some, none as absent}
use Rattle.exchange.specs.declared.operator.New.{New as Said}
use Rattle.exchange.specs.declared.row.Node.{Node}
use Rattle.exchange.specs.Operators.{New}

-- a limit, as an operator has it
abbrev pub as_limit : Limit ℕ → Option ℕ
as_limit None = absent
as_limit (Some l) = some l

abbrev pub new_of : Said → New
new_of n = record {
  kind = n.kind;
  count = n.count;
  keeps = n.keeps;
  limit = as_limit n.limit;
  order = n.order;
  mask = n.mask;
  tracked = n.tracked;
}

-- the limit of a node's mark and number
abbrev pub limit_for : Node → Limit ℕ
limit_for n = cond (eqb n.limited 0) None (Some n.limit)
