-- `exchange::ordered::put_given_up` meets its contract.
use Rattle.exchange.specs.Replace.{replace_order_preserving_variants}
use Rattle.exchange.specs.Handling.{given_up}
use Rattle.exchange.proofs.OrderWritten.{ready_as, maps_as, given_replaced, given_kept}
use Rattle.exchange.proofs.ordered.put_given_up.Goals as goal

pub replace_order_preserving_variants-requires : goal.replace_order_preserving_variants-requires
replace_order_preserving_variants-requires c = let a = c.args in ready_as replace_order_preserving_variants (given_up a.replaced) (given_replaced a.replaced c.if-replaced.true) _ _ _ _ c.requires

pub returns-then-replaced : goal.returns-then-replaced
returns-then-replaced c = let a = c.args in maps_as replace_order_preserving_variants (given_up a.replaced) (given_replaced a.replaced c.if-replaced.true) _ _ _ _ _ _ c.replace_order_preserving_variants.ensures

pub copy_tree-requires : goal.copy_tree-requires
copy_tree-requires c = let a = c.args in ready_as (λ t. t) (given_up a.replaced) (given_kept a.replaced c.if-replaced.false) _ _ _ _ c.requires

pub returns : goal.returns
returns c = let a = c.args in maps_as (λ t. t) (given_up a.replaced) (given_kept a.replaced c.if-replaced.false) _ _ _ _ _ _ c.copy_tree.ensures
