-- The word of what `decide_lists` answers.
use mathlib.Core.Path.{◌∙◌}
use Rattle.lochkave.proofs.Worded.{worded, lined, within_worded, adjust_worded}
use Rattle.lochkave.proofs.lochkave_adjust_input_keys_ordering.Goals as goal

pub word-requires : goal.word-requires
word-requires c = lined _ _ (within_worded _ _ (adjust_worded c.args.sheet.now)) c.decide_lists.ensures.0

pub returns-clause-result : goal.returns-clause-result
returns-clause-result c = c.word.ensures ∙ worded _ _ (within_worded _ _ (adjust_worded c.args.sheet.now)) c.decide_lists.ensures.0
