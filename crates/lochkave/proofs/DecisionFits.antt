-- What is decided of a sheet has at most 65,536 bytes, whatever its kind, so a room of as many is never too small.
use Prim.Native.Nat.{ℕ, ◌≤◌}
use mathlib.Core.Path.{◌≡◌}
use mathlib.Core.List.{List}
use lib.Dec.{eqb}
use lib.ListN.{get_or}
use Rattle.keys.proofs.Truths.{by_test}
use Rattle.linekinds.specs.Lines.{most_bytes}
use Rattle.sheet.proofs.AnswersFit.{Fits, adjust_fits, inputs_fits}
use Rattle.plananswer.proofs.PlanAnswersFit.{room_suffices}
use Rattle.plantheorems.proofs.PlanDecided.{plan_fits}
use Rattle.lochkave.specs.Decision.{decision}
use Rattle.lochkave.specs.Entry.{outcome}

pub decision_fits : (s : List ℕ) → Fits (decision s)
unfolding decision
decision_fits s =
    by_test Fits (eqb (get_or s 0 0) 75) (λ t. adjust_fits s)
    (λ t. by_test Fits (eqb (get_or s 0 0) 73) (λ u. inputs_fits s) (λ u. plan_fits s))

pub decision_room : (s : List ℕ) (room : ℕ) → most_bytes ≤ room → outcome s room ≡ decision s
decision_room s room h = room_suffices room (decision s) h (decision_fits s)
