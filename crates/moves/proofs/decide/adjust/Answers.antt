-- The slices are the sheet's lines, and what is decided of them is decided of the sheet (`key_decided`).
use mathlib.Core.Path.{ap, ◌∙◌}
use Rattle.sheet.specs.Held.{operator_of, pair_rows}
use Rattle.moves.proofs.HeldKeys.{key_suited, key_decided}
use Rattle.moves.proofs.decide.adjust.Goals as goal

pub invariant_of-adjust_input_keys_ordering : goal.invariant_of-adjust_input_keys_ordering
invariant_of-adjust_input_keys_ordering c = let x = c.args.sheet in
    let s = key_suited x.held.lists.now x.held.counts.now x.bounds c.list-2.ensures.line c.list-3.ensures.line c.list-4.ensures.line c.list-6.ensures.line c.list-7.ensures.line in
    record { few_required = s.0; few_pairs = s.1; even = s.2; few_groups = s.3; few_aggregates = s.4; named = s.5 }

pub returns : goal.returns
returns c = let x = c.args.sheet in let d = c.adjust_input_keys_ordering in
    key_decided x.held.lists.now x.held.counts.now d.result (c.operator.ensures ∙ ap operator_of c.list.ensures.line)
    c.list-2.ensures.line c.list-3.ensures.line c.list-4.ensures.line (c.rule_rows.ensures ∙ ap pair_rows c.list-5.ensures.line)
    c.list-6.ensures.line c.list-7.ensures.line c.list-8.ensures.line d.ensures
