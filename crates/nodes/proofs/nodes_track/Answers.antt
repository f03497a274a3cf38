-- `nodes::nodes_track` meets its contract: the node is changed as the function given to `change` says.
use Rattle.exchange.specs.Operators.{track}
use Rattle.std.proofs.Common.{rules}
use Rattle.nodes.specs.Nodes.{changed}
use Rattle.nodes.proofs.nodes_track.Goals as goal

pub returns : goal.returns
returns c = c.change.ensures (changed (track c.args.m)) (λ n r h. search rules)
