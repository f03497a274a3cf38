-- A line that is held has at most 64 numbers (`held_short`).
use native.Mathlib.Omega.{arith}
use Rattle.moves.proofs.HeldRoom.{held_short}
use Rattle.moves.proofs.held_key.HeldKey.list.Goals as goal

pub returns-clause-few : goal.returns-clause-few
returns-clause-few c = let x = c.args.self in rw c.list.ensures (held_short x.held.lists.now x.held.counts.now c.args.i (x.bounds.room c.args.i (omega arith)))
