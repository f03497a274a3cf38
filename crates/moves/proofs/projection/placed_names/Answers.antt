-- The numbers so far, before those of the names that are left, are all (`placed_turn`), until none is left or no place (`names_over`, `places_over`).
use mathlib.Core.Path.{◌≡◌, ap}
use mathlib.Core.Logic.{⊎_elim}
use native.Mathlib.Omega.{arith}
use lib.ListN.{length, length-set}
use Rattle.moves.proofs.Projections.{placed_turn, names_over, places_over}
use Rattle.moves.proofs.projection.placed_names.Goals as goal

pub loop-i-preserved : goal.loop-i-preserved
loop-i-preserved c = let v = c.loop-i.invariant in let s = c.in-Some.ensures.steps in (
  simp length-set v.0,
  rw (s.1, s.2, c.from.ensures) (placed_turn c.loop-i.out _ c.loop-i.i-iterator.count _ _ _ _ (rw (s.0.0, s.0.1) at v.1) (omega (arith, v.0, v.2, ap length s.0.0, c.requires))),
  omega (arith, v.2, s.2, ap length s.0.0),
  omega (arith, v.3, s.2, ap length s.0.1),
)

pub returns : goal.returns
returns c = let v = c.loop-i.invariant in let i = c.loop-i.i-iterator.count in
    ⊎_elim (λ h. let e : c.min.result ≡ i = omega (arith, c.min.ensures, v.2, v.3, h.1.0) in rw e (omega (arith, c.requires, v.2), names_over c.loop-i.out _ i _ _ h.1.0 v.1))
    (λ h. let e : c.min.result ≡ i = omega (arith, c.min.ensures, v.2, v.3, h.1.0) in rw e (omega (arith, c.requires, v.2), places_over c.loop-i.out _ i _ _ h.1.0 v.1)) c.in-None.ensures.steps.0
