-- Group and aggregate names are at most 32 (`key_lines`).
use Rattle.moves.proofs.HeldKeys.{key_lines}
use Rattle.answers.proofs.key.answer_pairs.Goals as goal

pub projected_by-n-requires : goal.projected_by-n-requires
projected_by-n-requires c = let x = c.args.sheet in let lines = key_lines x.held.lists.now x.held.counts.now x.bounds in
    (rw c.list.ensures.line lines.3, rw c.list-2.ensures.line lines.4)
