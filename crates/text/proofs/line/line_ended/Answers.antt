-- `line_ended` meets its contract: the place is past the text, or holds the byte that is compared.
use mathlib.Core.Path.{sym}
use native.Mathlib.Omega.{arith}
use borrow.Author.Tests.{le-leb}
use Rattle.text.proofs.Scanning.{ends_out, ends_at}
use Rattle.text.proofs.line.line_ended.Goals as goal

pub returns-then-s-at : goal.returns-then-s-at
returns-then-s-at c = rw (le-leb _ _ c.if-s-at.true) (sym (ends_out _ _ c.if-s-at.true))

pub returns-else-s-at : goal.returns-else-s-at
returns-else-s-at c = sym (ends_at c.args.s.now c.args.at (omega arith))
