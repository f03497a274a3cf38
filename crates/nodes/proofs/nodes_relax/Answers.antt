-- `nodes::nodes_relax` meets its contract: the node is changed as the function given to `change` says.
use Rattle.exchange.specs.ReplaceRows.{relaxed_or}
use Rattle.nodes.specs.Nodes.{changed}
use Rattle.nodes.proofs.nodes_relax.Goals as goal

pub returns : goal.returns
returns c = c.change.ensures (changed relaxed_or) (λ n r h. h.1)
