-- The operators that `remove_dist_changing_operators` of 000 takes off the top of a tree.
use Rattle.std.specs.Prelude.{cond, List, [], ◌∷◌}
use Rattle.exchange.specs.Trees.{node, none, ◌∷ᶠ◌, Operator, Plan, Plans}
use Rattle.exchange.specs.Children.{is_removed}

-- the operators taken off, from the top
unfoldable mutual
  pub removed : Plan → List Operator
  removed (node o ts) = cond (is_removed o) (removed_from o ts) []

  pub removed_from : Operator → Plans → List Operator
  removed_from o none = []
  removed_from o (t ∷ᶠ ts) = o ∷ removed t
