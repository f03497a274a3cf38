-- `numberlines::row::numbers_to` meets its contract. What was stored so far stands on the line so far (`numbers_more`).
use lib.ListN.{take}
use Rattle.numberlines.specs.NumberLines.{NumbersAt}
use Rattle.numberlines.proofs.row.numbers_to.Given as goal

abbrev pub invariant-loop-place : goal.invariant-loop-place
invariant-loop-place l = NumbersAt l.s l.initial.at (take l.place-index l.row) l.at
