-- What the codes of a K line stand for.
-- Renders document 01, "Key sheet", the K line's op, mode and join.
use Rattle.std.specs.Prelude.{ℕ, Bool, cond, ◌&&◌, ◌||◌, eqb}
use Rattle.keys.specs.declared.codes.Op.{Op}
use Rattle.keys.specs.declared.codes.Op.TheVariants as O
use Rattle.keys.specs.declared.codes.HashMode.{HashMode}
use Rattle.keys.specs.declared.codes.HashMode.TheVariants as H
use Rattle.keys.specs.declared.codes.AggregateMode.{AggregateMode}
use Rattle.keys.specs.declared.codes.AggregateMode.TheVariants as A
use Rattle.keys.specs.declared.codes.Join.{Join}
use Rattle.keys.specs.declared.codes.Join.TheVariants as J

abbrev pub op_of : ℕ → Op
op_of n =
    cond (eqb n 0) O.HashJoin (cond (eqb n 1) O.CrossJoin (cond (eqb n 2) O.SortMergeJoin
    (cond (eqb n 3) O.Aggregate (cond (eqb n 4) O.Projection (cond (eqb n 5) O.Clearing O.Other)))))

abbrev pub hash_mode_of : ℕ → HashMode
hash_mode_of n = cond (eqb n 0) H.Partitioned (cond (eqb n 1) H.CollectLeft H.Auto)

abbrev pub aggregate_mode_of : ℕ → AggregateMode
aggregate_mode_of n = cond (eqb n 0) A.FinalPartitioned A.Other

abbrev pub join_of : ℕ → Join
join_of n =
    cond (eqb n 0) J.Inner (cond (eqb n 2) J.Right (cond (eqb n 5) J.RightSemi (cond (eqb n 7) J.RightAnti (cond (eqb n 9) J.RightMark J.Other))))

-- a sort-merge join, or a Partitioned hash join: the operators whose order is tried
abbrev pub order_tried : ℕ → ℕ → Bool
order_tried op mode = eqb op 2 || (eqb op 0 && eqb mode 0)
