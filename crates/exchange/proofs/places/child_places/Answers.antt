-- `exchange::places::child_places` meets its contract: the places so far, and where the trees that are left stand (`Upto`).
use mathlib.Core.Path.{◌≡◌, sym, ◌∙◌}
use native.Mathlib.Omega.{arith}
use lib.ListN.{length}
use Rattle.exchange.proofs.PlacesRead.{upto_stands, upto_turn, upto_end}
use Rattle.exchange.proofs.places.child_places.Goals as goal

pub past_tree-next-requires : goal.past_tree-next-requires
past_tree-next-requires c = let q = c.requires in
    upto_stands _ _ q.below q.rest _ _ _ (omega (arith, q.counted, c.loop-place-test.true)) (c.loop-place.invariant q.below q.rest q.counted q.stands)

pub loop-place-preserved : goal.loop-place-preserved
loop-place-preserved c = λ ts rest m h.
    upto_turn _ _ ts rest _ _ _ _ (omega (arith, m, c.loop-place-test.true)) (omega arith) c.past_tree-next.ensures (c.loop-place.invariant ts rest m h)

pub returns : goal.returns
returns c = λ ts rest m h.
    let same : c.loop-place.place-index ≡ length c.args.places.now = omega arith in
    upto_end _ _ ts rest _ _ _ (m ∙ sym same) (omega arith) (c.loop-place.invariant ts rest m h)
