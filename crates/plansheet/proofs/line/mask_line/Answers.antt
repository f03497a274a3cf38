-- `plansheet::line::mask_line` meets its contract: a Y line is a line of plain fields, two to the number of children, of which none has a code.
use native.Mathlib.Omega.{arith}
use Rattle.plansheet.proofs.FineLines.{two_small}
use Rattle.plansheet.proofs.line.mask_line.Goals as goal

pub plain_line-requires : goal.plain_line-requires
plain_line-requires c = omega (arith, c.requires.1, c.sets_of.ensures, two_small c.args.n c.requires.0)

pub returns-clause-answer : goal.returns-clause-answer
returns-clause-answer c = λ seen. rw (← c.sets_of.ensures) (c.plain_line.ensures.answer seen)
