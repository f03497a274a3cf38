-- `side_followed` and `side_failed` turn what `try_reorder` ensures into one side's answer.
use mathlib.Core.Path.{◌≡◌, sym, ◌∙◌}
use mathlib.Core.Option.{some}
use Rattle.keys.specs.Expressions.{expressions}
use Rattle.keys.specs.InputValues.{input_of}
use Rattle.keys.proofs.InputMarks.{part_input}
use Rattle.keys.proofs.InputTurns.{side_failed, side_followed}
use Rattle.inputs.proofs.current.try_side.Goals as goal

pub returns-in-Impossible : goal.returns-in-Impossible
returns-in-Impossible c = let a = c.args in let k = c.keys in
    let tried : input_of a.input.list.now ≡ some (expressions k.result.now) = part_input a.input.list k.result k.ensures (sym c.is_hashed.ensures ∙ c.if-not-is_hashed.false) in
    λ s impossible untried. side_failed s a.sheet.left.now a.sheet.right.now a.rewriting.now a.side impossible untried a.input.list.now k.result.now c.try_reorder.result tried c.try_reorder.ensures c.in-Impossible.is

pub returns-in_default : goal.returns-in_default
returns-in_default c = let a = c.args in let k = c.keys in
    let tried : input_of a.input.list.now ≡ some (expressions k.result.now) = part_input a.input.list k.result k.ensures (sym c.is_hashed.ensures ∙ c.if-not-is_hashed.false) in
    λ s impossible untried. side_followed s a.sheet.left.now a.sheet.right.now a.rewriting.now a.side impossible untried a.input.list.now k.result.now c.try_reorder.result tried c.try_reorder.ensures c.in_default.not-Impossible
