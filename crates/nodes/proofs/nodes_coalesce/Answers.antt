-- `nodes::nodes_coalesce` meets its contract: the node is changed as the function given to `change` says.
use Rattle.exchange.specs.Replace.{coalesced}
use Rattle.nodes.specs.Nodes.{changed}
use Rattle.nodes.proofs.nodes_coalesce.Goals as goal

pub returns : goal.returns
returns c = c.change.ensures (changed coalesced) (λ n r h. h.1)
