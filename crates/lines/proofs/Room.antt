-- What a writer answers of a text, and leaves in the output lent, by the room for it.
-- Assumes nothing.
use Prim.Native.Nat.{ℕ, ◌+◌, ◌≤◌}
use mathlib.Core.Path.{◌≡◌, ap, ◌∙◌}
use mathlib.Core.List.{List, ◌++◌}
use native.Mathlib.Omega.{arith}
use borrow.Author.Tests.{le-ltb}
use lib.ListN.{length, drop}
use lib.Seq.{sets-eq}
use Rattle.std.specs.Prelude.{Result, Ok}
use Rattle.text.specs.Write.{Wrote}
use Rattle.refusals.specs.declared.Refused.{Refused}
use Rattle.sheet.specs.KeyAnswers.{wrote}
use Rattle.sheet.specs.Outcomes.{within, Writes}

module _ (out text : List ℕ) where
  -- the outcome, where there is so much room
  abbrev Answered : Result ℕ Refused → List ℕ → Type 0
  Answered r out' = Writes (within (length out) (wrote text)) r out out'

  -- the text is stored from the start on
  pub room_written : length text ≤ length out → (n : ℕ) (out' : List ℕ) → Wrote out 0 text out' n → Answered (Ok n) out'
  room_written h n out' w =
      let z : 0 + length text ≡ length text = omega arith in
      rw (le-ltb (length out) (length text) h)
      (ap Ok (w.place ∙ z), w.stored ∙ sets-eq text out 0 (omega arith) ∙ ap (λ (k : ℕ). text ++ drop k out) z)
