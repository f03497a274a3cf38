-- `nodes::nodes_put` meets its contract: the function given to `change` leaves the node put.
use Rattle.std.proofs.Common.{rules}
use Rattle.nodes.proofs.nodes_put.Goals as goal

pub returns : goal.returns
returns c = c.change.ensures (λ m. c.args.n) (λ n r h. search rules)
