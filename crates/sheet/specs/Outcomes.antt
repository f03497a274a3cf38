-- What an entry point returns and leaves in the output lent, by the outcome.
-- Renders document 01, "A refusal returns number and line; output keeps its bytes", and refusal 12.
use Rattle.std.specs.Prelude.{ℕ, ◌≡◌, ◌+◌, ◌*◌, ◌≤◌, List, ◌++◌, cond, ltb, length, drop, Result, Ok, Err}
use Rattle.refusals.specs.declared.Refused.{Refused}
use Rattle.sheet.specs.KeyAnswers.{Outcome, refused, wrote}
use Rattle.sheet.specs.SheetLines.{refused_on}

-- the number returned: refusal × 2^32 + line, or how many bytes were written
abbrev pub answer : Outcome → ℕ
answer (refused n line) = n * 4294967296 + line
answer (wrote bytes) = length bytes

-- the same as a writer answers it: a refusal and its line, or how many bytes were written
abbrev pub written_by : Outcome → Result ℕ Refused
written_by (refused n line) = Err (refused_on n line)
written_by (wrote bytes) = Ok (length bytes)

-- the output at exit, from its bytes at entry
abbrev pub after : Outcome → List ℕ → List ℕ
after (refused n line) out = out
after (wrote bytes) out = bytes ++ drop (length bytes) out

-- 12 where the answer is longer than the room
abbrev pub within : ℕ → Outcome → Outcome
within room (refused n line) = refused n line
within room (wrote bytes) = cond (ltb room (length bytes)) (refused 12 0) (wrote bytes)

-- what is written, if anything, has room
abbrev pub FitsIn : ℕ → Outcome → Type 0
FitsIn room (refused n line) = Unit {0}
FitsIn room (wrote bytes) = length bytes ≤ room

-- a writer answers by the outcome, and leaves the output by it
abbrev pub Writes : Outcome → Result ℕ Refused → List ℕ → List ℕ → Type 0
Writes o r before left = (r ≡ written_by o) × (left ≡ after o before)
