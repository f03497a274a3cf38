-- The first numbers of a list, so many as its count says.
use Rattle.sheet.specs.Held.{held_at}
use Rattle.std.proofs.Common.{rules}
use Rattle.sheet.proofs.held.Lists.list.Goals as goal

pub returns : goal.returns
unfolding held_at
returns c = search rules
