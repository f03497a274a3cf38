-- The word of what the function for the sheet's kind answers.
use mathlib.Core.Path.{◌≡◌, ◌∙◌}
use lib.ListN.{length}
use Rattle.std.proofs.Common.{rules}
use Rattle.sheet.specs.Outcomes.{written_by}
use Rattle.lochkave.specs.Entry.{rewriting, rewrite_outcome}
use Rattle.lochkave.proofs.Worded.{worded, lined, within_worded, rewriting_worded}
use Rattle.lochkave.proofs.lochkave_rewrite.Goals as goal
use Rattle.lochkave.proofs.lochkave_rewrite.Goals.{in-75, in-73, in_default, Joined-first_byte}

written : (c : Joined-first_byte) → c.match-first_byte.word ≡ written_by (rewrite_outcome c.args.sheet.now (length c.args.out.now))
unfolding rewriting
written c = elim c.match-first_byte.branch [ in-75 w ↦ search rules | in-73 w ↦ search rules | in_default w ↦ search rules ]

pub word-requires : goal.word-requires
word-requires c = lined _ _ (within_worded _ _ (rewriting_worded c.args.sheet.now)) (written c)

pub returns-clause-result : goal.returns-clause-result
returns-clause-result c = c.word.ensures ∙ worded _ _ (within_worded _ _ (rewriting_worded c.args.sheet.now)) (written (goal.at.returns-clause-result c).Joined-first_byte)
