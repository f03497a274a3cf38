-- `field_length` meets its contract: what is no number is written as nothing.
use mathlib.Core.Logic.{inl, inr}
use Rattle.text.specs.Write.{field_text}
use Rattle.text.proofs.write.field_length.Goals as goal

pub returns-in-Number-clause-exact : goal.returns-in-Number-clause-exact
unfolding field_text
returns-in-Number-clause-exact c = rw c.in-Number.is c.number_length.ensures.exact

pub returns-in-Empty-clause-exact : goal.returns-in-Empty-clause-exact
unfolding field_text
returns-in-Empty-clause-exact c = elim c.in-Empty.is [ inl e ↦ rw e | inr e ↦ rw e ]
