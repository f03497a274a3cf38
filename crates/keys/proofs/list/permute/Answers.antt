-- The array filled so far, with what is left, is what stands at the positions (`fill_turn`).
use mathlib.Core.Path.{sym, ◌∙◌}
use native.Mathlib.Omega.{arith}
use lib.ListN.{get_or, length-set, length-map, get_or-map}
use Rattle.keys.specs.Lists.{permute}
use Rattle.keys.proofs.Turns.{fill_turn}
use Rattle.keys.proofs.list.permute.Goals as goal

pub loop-i-preserved : goal.loop-i-preserved
loop-i-preserved c = let k = c.args.all.now in let ps = c.args.at.list.now in let gone = c.args.gone in let i = c.loop-i.i in (
  simp length-set c.loop-i.invariant.0,
  fill_turn (permute gone k ps) c.loop-i.out i c.loop-i.invariant.1 c.entry.result (get_or k 0 gone)
      (rw (length-map ps) c.loop-i-test.true)
      (omega (arith, c.loop-i.invariant.0))
      (c.entry.ensures ∙ sym (get_or-map (λ p. get_or k p gone) ps i 0)),
)
