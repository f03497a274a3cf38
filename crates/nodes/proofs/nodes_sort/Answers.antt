-- `nodes::nodes_sort` meets its contract: the node is changed as the function given to `change` says.
use Rattle.exchange.specs.ReplaceRows.{merge_sort}
use Rattle.nodes.specs.Nodes.{changed}
use Rattle.nodes.proofs.nodes_sort.Goals as goal

pub returns : goal.returns
returns c = c.change.ensures (changed merge_sort) (λ n r h. h.1)
