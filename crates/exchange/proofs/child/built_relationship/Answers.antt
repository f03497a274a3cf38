-- `exchange::child::built_relationship` meets its contract.
use Rattle.exchange.proofs.BuiltRows.{relationship_built}
use Rattle.exchange.proofs.child.built_relationship.Goals as goal

pub returns : goal.returns
returns c = let a = c.args in relationship_built _ _ _ _ a.root.node _ _ c.row_in.ensures c.under_relationship-under.ensures c.new_exchange.ensures
