-- The word of what `decide_lists` answers.
use mathlib.Core.Path.{◌∙◌}
use Rattle.lochkave.proofs.Worded.{worded, lined, within_worded, inputs_worded}
use Rattle.lochkave.proofs.lochkave_reorder_join_keys_to_inputs.Goals as goal

pub word-requires : goal.word-requires
word-requires c = lined _ _ (within_worded _ _ (inputs_worded c.args.sheet.now)) c.decide_lists.ensures.0

pub returns-clause-result : goal.returns-clause-result
returns-clause-result c = c.word.ensures ∙ worded _ _ (within_worded _ _ (inputs_worded c.args.sheet.now)) c.decide_lists.ensures.0
