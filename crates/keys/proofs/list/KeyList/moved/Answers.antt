-- The array filled so far, with what is left, is the keys at the positions (`key_turn`).
use mathlib.Core.Path.{sym, ◌∙◌}
use native.Mathlib.Omega.{arith}
use lib.ListN.{get_or, length-set, length-map, get_or-map}
use Rattle.keys.specs.Lists.{permute}
use Rattle.keys.specs.Expressions.{gone_number}
use Rattle.keys.proofs.Turns.{key_turn}
use Rattle.keys.proofs.list.KeyList.moved.Goals as goal

pub loop-i-preserved : goal.loop-i-preserved
loop-i-preserved c = let k = c.args.keys.now in let ps = c.args.at.list.now in let i = c.loop-i.i in (
  simp length-set c.loop-i.invariant.0,
  key_turn (permute gone_number k ps) c.loop-i.list.0 i c.loop-i.invariant.1 c.entry.result (get_or k 0 gone_number)
      (rw (length-map ps) c.loop-i-test.true)
      (omega (arith, c.loop-i.invariant.0))
      (c.entry.ensures ∙ sym (get_or-map (λ p. get_or k p gone_number) ps i 0)),
)
