-- Cited only by the contracts of private functions: what reading a line from comma to comma finds.
-- Document 01, the paragraph that begins "A sheet is ASCII lines ended by LF".
use Rattle.std.specs.Prelude.{ℕ, ◌+◌, ◌<◌, ◌≡◌, List, length, Result, Ok, Err}
use Rattle.linekinds.specs.PlainText.{StandsAt}
use Rattle.numberlines.specs.NumberLines.{Closed, Begins, NumberAt, NumbersAt}
use Rattle.numberlines.specs.declared.comma.Comma.{Comma}
use Rattle.numberlines.specs.declared.row.Unread.{Unread}
use Rattle.numberlines.specs.declared.row.Unread.TheVariants.{Unusual, Other}

-- a comma of the text, at a place
abbrev pub CommaAt : List ℕ → ℕ → Comma → Type 0
CommaAt s at c = (c.s.now ≡ s) × (c.at ≡ at)

-- the comma after a letter; or no letter and comma stand there, in a text that ends with an LF
abbrev pub BegunTo : List ℕ → ℕ → ℕ → Result Comma Unread → Type 0
BegunTo s at letter (Ok c) = CommaAt s (at + 1) c × Begins s at letter × (letter ≡ 10 → ⊥)
BegunTo s at letter (Err u) = (u ≡ Other) × (Closed s → (letter ≡ 10 → ⊥) → Begins s at letter → ⊥)

-- numbers, and the comma after them; or so many don't stand there
abbrev pub NumbersTo : Comma → Result Comma Unread → List ℕ → Type 0
NumbersTo from (Ok c) ns = (c.s.now ≡ from.s.now) × NumbersAt from.s.now from.at ns c.at
NumbersTo from (Err u) ns = (u ≡ Unusual) × ((ms : List ℕ) (end : ℕ) → length ms ≡ length ns → NumbersAt from.s.now from.at ms end → ⊥)

-- the next comma, with nothing between them; or no comma stands there
abbrev pub EmptyTo : Comma → Result Comma Unread → Type 0
EmptyTo from (Ok c) = CommaAt from.s.now (from.at + 1) c
EmptyTo from (Err u) = (u ≡ Unusual) × (StandsAt from.s.now (from.at + 1) 44 → ⊥)

-- the last number, and the LF after it; or none stands there
abbrev pub LastTo : Comma → Result ℕ Unread → ℕ → Type 0
LastTo from (Ok end) last = NumberAt from.s.now (from.at + 1) last end 10 × (end < 65536)
LastTo from (Err u) last = (u ≡ Unusual) × ((n end : ℕ) → NumberAt from.s.now (from.at + 1) n end 10 → end < 65536 → ⊥)
