-- The room filled so far, with what is left of the keys, is all the keys (`fill_turn`).
use mathlib.Core.Path.{◌≡◌, sym, ◌∙◌}
use mathlib.Core.List.{map}
use native.Mathlib.Omega.{arith}
use lib.ListN.{length, length-set, length-map, get_or-map, take}
use lib.Seq.{length-take-le}
use Rattle.std.specs.List.{take-map}
use Rattle.keys.specs.Values.{number_of}
use Rattle.keys.proofs.Turns.{fill_turn, fill_end}
use Rattle.moves.proofs.moved.moved_side.Goals as goal
use Rattle.moves.proofs.moved.moved_side.Goals.{After-keys-key-items}

few : (c : After-keys-key-items) → length c.keys-key-items.result.now ≡ length c.args.at.list.now
few c = let k = c.moved-moved in rw c.keys-key-items.ensures (length-take-le k.result.count k.result.items (omega (arith, k.result.full, k.result.within)) ∙ k.ensures.count)

pub loop-i-preserved : goal.loop-i-preserved
loop-i-preserved c = let ks = c.keys-key-items.result.now in let v = c.loop-i.invariant in (
  simp length-set v.0,
  fill_turn (map number_of ks) c.loop-i.out c.loop-i.i v.1 _ 0 (rw (length-map ks number_of) c.loop-i-test.true) (omega (arith, v.0, few (goal.at.loop-i-preserved c).After-keys-key-items))
      (sym (get_or-map number_of ks c.loop-i.i (record { number = 0 }))),
)

pub returns : goal.returns
returns c = let ks = c.keys-key-items.result.now in let k = c.moved-moved in let v = c.loop-i.invariant in
    let e : length c.args.at.list.now ≡ c.loop-i.i = omega (arith, few (goal.at.returns c).After-keys-key-items, c.loop-i.auto.i-end) in
    let same : map number_of ks ≡ take k.result.count (map number_of k.result.items) = rw c.keys-key-items.ensures (sym (take-map number_of k.result.count k.result.items)) in
    rw e (fill_end (map number_of ks) c.loop-i.out c.loop-i.i v.1 (rw (length-map ks number_of) c.loop-i-test.false) ∙ same ∙ k.ensures.keys)
