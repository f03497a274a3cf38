-- What is promised for all lists, of the sheet's.
use Rattle.adjust.proofs.adjust.join_keys.Goals as goal

pub returns : goal.returns
returns c = let x = c.args.sheet.now in
    λ s cs. c.reorder_partitioned_join_keys.ensures x.operator s x.groups.now x.aggregates.now x.mapped.now cs
