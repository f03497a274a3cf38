-- What `update_children` reads of the rows of a child: the parts of `changes_distribution`.
-- Renders `update_children` of 000.
use Rattle.std.specs.Prelude.{Bool, ◌&&◌, ◌||◌, eqb}
use Rattle.exchange.specs.Trees.{node, Operator, Plan, Plans}
use Rattle.exchange.specs.Operators.{is_tracked}
use Rattle.exchange.specs.Children.{is_leaf, first_tracked, any_unspecified, changes_distribution}

-- tracked, and nothing is required of it
abbrev pub is_unspecified : Operator → Bool
is_unspecified o = is_tracked o && eqb o.need 0

-- what the children of an operator say of its mark
unfoldable pub marks_below : Plans → Bool
marks_below ts = is_leaf ts || (first_tracked ts || any_unspecified ts)

unfoldable pub marks_child : Plan → Bool
marks_child (node o ts) = changes_distribution o ts
