-- Each one's measure is what is left of the rows, twice: the list function at a place calls the node function at the same place, so it has one more.
use Prim.Native.Nat.{◌+◌, ◌-◌}
use lib.ListN.{length}
use Rattle.exchange.proofs.replace.+replace_children_replace_order_preserving_variants.Given as goal

abbrev pub decreases-replace_children : goal.decreases-replace_children
decreases-replace_children l = (length l.src.now - l.at) + (length l.src.now - l.at) + 1

abbrev pub decreases-replace_order_preserving_variants : goal.decreases-replace_order_preserving_variants
decreases-replace_order_preserving_variants l = (length l.src.now - l.at) + (length l.src.now - l.at)
