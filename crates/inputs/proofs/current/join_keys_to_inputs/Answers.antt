-- The tests on op and mode choose between `order_tried_lem` and `order_untried`.
use mathlib.Core.Path.{sym, ◌∙◌}
use Rattle.keys.proofs.InputTurns.{order_tried_lem, order_untried}
use Rattle.inputs.specs.Sheets.{sheet_of}
use Rattle.inputs.proofs.current.join_keys_to_inputs.Goals as goal

pub returns-then-not-order_tried : goal.returns-then-not-order_tried
returns-then-not-order_tried c = λ s. order_untried (sheet_of c.args.sheet s) (sym c.order_tried.ensures ∙ c.if-not-order_tried.true)

pub returns : goal.returns
returns c = λ s. order_tried_lem (sheet_of c.args.sheet s) _ (sym c.order_tried.ensures ∙ c.if-not-order_tried.false) (c.reorder_current_join_keys.ensures c.args.sheet.op c.args.sheet.mode s)
