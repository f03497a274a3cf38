-- `nodes::nodes_track_new` meets its contract: the node is changed as the function given to `change` says.
use Rattle.exchange.specs.Operators.{track}
use Rattle.nodes.specs.Nodes.{changed, new_mark}
use Rattle.nodes.proofs.nodes_track_new.Goals as goal

pub returns : goal.returns
returns c = c.change.ensures (changed (track new_mark)) (λ n r h. h.1)
