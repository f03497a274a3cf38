-- `operator_length` meets its contract: nine fields, nine commas, a letter and an LF.
use mathlib.Core.Path.{◌≡◌, ap}
use native.Mathlib.Omega.{arith}
use lib.ListN.{length, get_or}
use Rattle.text.specs.declared.field.Field.{Field}
use Rattle.text.specs.Write.{field_text}
use Rattle.exchange.specs.Rows.{limit_of, unpacked, children_of, operator_of}
use Rattle.plananswer.specs.PlanTexts.{limit_field}
use Rattle.plananswer.specs.RowTexts.{row_line}
use Rattle.plananswer.proofs.RowLines.{operator_long}
use Rattle.plananswer.proofs.line.operator_length.Goals as goal

pub returns-clause-exact : goal.returns-clause-exact
unfolding row_line
returns-clause-exact c =
    let l : c.field_length.result ≡ length (field_text c.limit_field-limit.result) = c.field_length.ensures.exact in
    let f : length (field_text c.limit_field-limit.result) ≡ length (field_text (limit_field (limit_of (get_or c.args.x 4 0) (get_or c.args.x 5 0)))) = ap (λ (f : Field). length (field_text f)) c.limit_field-limit.ensures in
    let x = c.args.x in
    omega (
      arith,
      l,
      f,
      operator_long (operator_of (unpacked x)) (children_of x),
      c.number_length.ensures.exact,
      c.number_length-2.ensures.exact,
      c.number_length-3.ensures.exact,
      c.number_length-4.ensures.exact,
      c.number_length-5.ensures.exact,
      c.number_length-6.ensures.exact,
      c.number_length-7.ensures.exact,
      c.number_length-8.ensures.exact,
    )
