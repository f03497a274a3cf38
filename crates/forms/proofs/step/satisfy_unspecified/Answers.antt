-- `forms::step::satisfy_unspecified` meets its contract: by whether a round robin is wanted.
use mathlib.Core.Path.{sym, ◌∙◌}
use Rattle.forms.proofs.Formed.{formed_kept, formed_taken, formed_left}
use Rattle.forms.proofs.step.satisfy_unspecified.Goals as goal

pub returns-then-add_roundrobin : goal.returns-then-add_roundrobin
returns-then-add_roundrobin c = formed_taken _ _ _ _ (sym (c.add_roundrobin.ensures c.args.c.number) ∙ c.if-add_roundrobin.true) c.add_roundrobin_on_top.ensures

pub returns : goal.returns
returns c = formed_left _ _ _ _ (sym (c.add_roundrobin.ensures c.args.c.number) ∙ c.if-add_roundrobin.false) (formed_kept _ c.args.c.within.2)
