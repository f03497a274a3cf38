-- `nodes::nodes_interleave` meets its contract: the node is changed as the function given to `change` says.
use Rattle.exchange.specs.Ensure.{interleaved}
use Rattle.nodes.specs.Nodes.{changed}
use Rattle.nodes.proofs.nodes_interleave.Goals as goal

pub returns : goal.returns
returns c = c.change.ensures (changed interleaved) (λ n r h. h.1)
