-- The rule that the mode stands for (`mode_chosen`).
use mathlib.Core.Path.{ap, ◌∙◌}
use Rattle.std.specs.Prelude.{Some}
use Rattle.keys.specs.Expressions.{same_expr}
use Rattle.keys.specs.Answers.{adjusted_of}
use Rattle.keys.proofs.ByCode.{by_mode, mode_chosen}
use Rattle.adjust.specs.Sheets.{sheet_of}
use Rattle.adjust.proofs.adjust.hash_join.Goals as goal

pub returns-in-Auto : goal.returns-in-Auto
returns-in-Auto c = λ s cs. let t = sheet_of c.args.sheet.now s cs in ap (λ a. adjusted_of t (Some a)) c.cleared.ensures ∙ ap (by_mode same_expr t) c.in-Auto.ensures ∙ mode_chosen same_expr t
