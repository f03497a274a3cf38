-- `exchange::child::built_root` meets its contract.
use Rattle.exchange.proofs.BuiltRows.{root_kept, root_split}
use Rattle.exchange.proofs.child.built_root.Goals as goal

pub returns-then-not-is_set : goal.returns-then-not-is_set
returns-then-not-is_set c = let a = c.args in root_kept _ _ _ a.o.node a.o.legal (cc)

pub returns : goal.returns
returns c = let a = c.args in root_split _ _ _ a.o.node _ _ (cc) c.row_in.ensures c.split_operator.ensures
