-- `numberlines::number::longer_to` meets its contract. Each further digit goes behind those so far (`next_digit`), and is not the text's last byte.
use Prim.Native.Nat.{ℕ, ◌-◌, ◌<◌}
use lib.ListN.{length}
use Rattle.text.specs.Write.{decimal}
use Rattle.linekinds.specs.PlainText.{TextAt}
use Rattle.numberlines.proofs.number.longer_to.Given as goal

abbrev pub invariant-loop-at : goal.invariant-loop-at
invariant-loop-at l = (l.p < length l.s) × (l.n < 65536) × ((from : ℕ) → TextAt l.s from (decimal l.begun) l.at → TextAt l.s from (decimal l.n) l.p)

abbrev pub decreases-loop-at : goal.decreases-loop-at
decreases-loop-at l = length l.s - l.p
