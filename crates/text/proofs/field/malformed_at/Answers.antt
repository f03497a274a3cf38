-- `malformed_at` meets its contract, from that of `field_end`.
use mathlib.Core.Path.{ap}
use Rattle.text.specs.declared.field.Field.TheVariants.{Malformed as malformed}
use Rattle.text.specs.Read.{field_to}
use Rattle.text.proofs.field.malformed_at.Goals as goal

pub returns : goal.returns
returns c = ap (λ (n : _). field_to n malformed) c.field_end.ensures.place
