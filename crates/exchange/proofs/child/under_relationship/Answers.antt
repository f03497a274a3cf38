-- `exchange::child::under_relationship` meets its contract.
use mathlib.Core.Path.{sym, ◌∙◌}
use Rattle.exchange.proofs.BuiltRows.{under_kept, under_built}
use Rattle.exchange.proofs.child.under_relationship.Goals as goal

pub returns-then-top_of-eq-TOP_NONE : goal.returns-then-top_of-eq-TOP_NONE
returns-then-top_of-eq-TOP_NONE c = let a = c.args in under_kept _ _ _ a.root.node a.root.legal (sym c.top_of.ensures ∙ c.if-top_of-eq-TOP_NONE.true)

pub returns : goal.returns
returns c = let a = c.args in under_built _ _ _ a.root.node _ (λ e. c.if-top_of-eq-TOP_NONE.false (c.top_of.ensures ∙ e)) c.built_top.ensures
