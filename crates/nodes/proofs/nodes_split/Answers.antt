-- `nodes::nodes_split` meets its contract: the node is changed as the function given to `change` says.
use Rattle.exchange.specs.Step.{split_operator}
use Rattle.std.proofs.Common.{rules}
use Rattle.nodes.specs.Nodes.{changed, split_row}
use Rattle.nodes.proofs.nodes_split.Goals as goal

pub returns : goal.returns
returns c = c.change.ensures (changed (split_operator (split_row c.args.count c.args.order))) (λ n r h. search rules)
