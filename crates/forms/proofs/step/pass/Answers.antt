-- `forms::step::pass` meets its contract: the form is left where its row is found (`passed_some`).
use mathlib.Core.Path.{sym, ap, ◌∙◌}
use Rattle.exchange.specs.Found.{found_of}
use Rattle.forms.proofs.Formed.{passed_none, passed_some}
use Rattle.forms.proofs.step.pass.Goals as goal

pub returns-in_default : goal.returns-in_default
returns-in_default c = passed_none _ _ _ (ap found_of (sym c.in_default.is) ∙ c.fact_row.ensures)

pub returns : goal.returns
returns c = passed_some _ _ _ c.in-Row.place (ap found_of (sym c.in-Row.is) ∙ c.fact_row.ensures)
