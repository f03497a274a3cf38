-- `store` meets its contract: past the end, to store changes nothing.
use mathlib.Core.Path.{sym}
use lib.Seq.{set_out}
use Rattle.text.proofs.store.store.Goals as goal

pub returns-else-i-out : goal.returns-else-i-out
returns-else-i-out g c = sym (set_out _ _ _ c.if-i-out.false)
