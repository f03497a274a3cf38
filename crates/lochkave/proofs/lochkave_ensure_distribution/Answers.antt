-- The word of what `distribute` answers.
use mathlib.Core.Path.{◌∙◌}
use Rattle.lochkave.proofs.Worded.{worded, lined, within_worded, distribution_worded}
use Rattle.lochkave.proofs.lochkave_ensure_distribution.Goals as goal

pub word-requires : goal.word-requires
word-requires c = lined _ _ (within_worded _ _ (distribution_worded c.args.sheet.now)) c.distribute.ensures.0

pub returns-clause-result : goal.returns-clause-result
returns-clause-result c = c.word.ensures ∙ worded _ _ (within_worded _ _ (distribution_worded c.args.sheet.now)) c.distribute.ensures.0
