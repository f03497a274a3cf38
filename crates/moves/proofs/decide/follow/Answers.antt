-- The slices are the sheet's lines, and what is decided of them is decided of the sheet (`join_decided`).
use Prim.Native.Nat.{ℕ}
use mathlib.Core.Path.{ap, ◌∙◌}
use mathlib.Core.List.{List}
use lib.ListN.{get_or}
use Rattle.sheet.specs.Held.{pair_rows}
use Rattle.moves.proofs.HeldJoins.{join_suited, join_decided}
use Rattle.moves.proofs.decide.follow.Goals as goal

pub invariant_of-reorder_join_keys_to_inputs : goal.invariant_of-reorder_join_keys_to_inputs
invariant_of-reorder_join_keys_to_inputs c = let x = c.args.sheet in
    let s = join_suited x.held.lists.now x.held.counts.now x.bounds c.list.ensures.line c.list-2.ensures.line c.list-5.ensures.line c.list-6.ensures.line in
    record { few = s.0; even = s.1; few_of_left = s.2; few_of_right = s.3 }

pub returns : goal.returns
returns c = let x = c.args.sheet in let d = c.reorder_join_keys_to_inputs-ordered in let e = c.list-head.ensures.line in
    join_decided x.held.lists.now x.held.counts.now d.result.attempt (ap (λ (l : List ℕ). get_or l 0 0) e) (ap (λ (l : List ℕ). get_or l 1 0) e)
    c.list.ensures.line c.list-2.ensures.line c.list-5.ensures.line c.list-6.ensures.line
    (c.rule_rows.ensures ∙ ap pair_rows c.list-3.ensures.line) (c.rule_rows-2.ensures ∙ ap pair_rows c.list-4.ensures.line) d.ensures.ordered
