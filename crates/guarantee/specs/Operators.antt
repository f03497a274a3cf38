-- Demand 3, "Exchanges, merges and added sorts set aside, the operators under the worked node are the same, in the same order
-- under the same parents".
use Rattle.std.specs.Prelude.{◌≡◌, ◌⊎◌}
use Rattle.exchange.specs.Trees.{root, Operator, Plan}
use Rattle.exchange.specs.Children.{remove_dist_changing_operators}
use Rattle.exchange.specs.Skeleton.{below, skeletons}
use Rattle.plansheet.specs.PlanSheets.{PlanSheet}

-- the worked node with all below it: the first T line that has a limit or isn't of kinds 1 to 4
abbrev pub worked : PlanSheet → Plan
worked x = remove_dist_changing_operators x.plan

-- the worked node is the same operator; a union may become an interleave
abbrev pub SameKind : Operator → Operator → Type 0
SameKind o p = (p.kind ≡ o.kind) ⊎ ((o.kind ≡ 9) × (p.kind ≡ 14))

-- a worked node on the sheet, and what the answer has in its place
pub record OperatorsKept (before after : Plan) : Type 0 where
  pub id : (root after).id ≡ (root before).id
  pub kind : SameKind (root before) (root after)
  pub under : skeletons (below after) ≡ skeletons (below before)
