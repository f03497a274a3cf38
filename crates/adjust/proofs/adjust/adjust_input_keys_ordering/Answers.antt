-- The rule that the op stands for (`op_chosen`).
use mathlib.Core.Path.{ap, ◌∙◌}
use Rattle.std.specs.Prelude.{Some}
use Rattle.keys.specs.Expressions.{same_expr}
use Rattle.keys.specs.Answers.{adjusted_of}
use Rattle.keys.proofs.ByCode.{by_op, op_chosen}
use Rattle.adjust.specs.Sheets.{sheet_of}
use Rattle.adjust.proofs.adjust.adjust_input_keys_ordering.Goals as goal

pub returns-in-HashJoin : goal.returns-in-HashJoin
returns-in-HashJoin c = λ s cs. let t = sheet_of c.args.sheet.now s cs in c.hash_join.ensures s cs ∙ ap (by_op same_expr t) c.in-HashJoin.ensures ∙ op_chosen same_expr t

pub returns-in-CrossJoin : goal.returns-in-CrossJoin
returns-in-CrossJoin c = λ s cs. let t = sheet_of c.args.sheet.now s cs in c.cross_join.ensures s cs ∙ ap (by_op same_expr t) c.in-CrossJoin.ensures ∙ op_chosen same_expr t

pub returns-in-SortMergeJoin : goal.returns-in-SortMergeJoin
returns-in-SortMergeJoin c = λ s cs. let t = sheet_of c.args.sheet.now s cs in c.join_keys.ensures s cs ∙ ap (by_op same_expr t) c.in-SortMergeJoin.ensures ∙ op_chosen same_expr t

pub returns-in-Aggregate : goal.returns-in-Aggregate
returns-in-Aggregate c = λ s cs. let t = sheet_of c.args.sheet.now s cs in (let x = c.args.sheet.now in c.aggregate.ensures x.left.now x.right.now s x.rewriting.now x.mapped.now cs) ∙ ap (by_op same_expr t) c.in-Aggregate.ensures ∙ op_chosen same_expr t

pub returns-in-Projection : goal.returns-in-Projection
returns-in-Projection c = λ s cs. let t = sheet_of c.args.sheet.now s cs in c.projection.ensures s cs ∙ ap (by_op same_expr t) c.in-Projection.ensures ∙ op_chosen same_expr t

pub returns-in-Other : goal.returns-in-Other
returns-in-Other c = λ s cs. let t = sheet_of c.args.sheet.now s cs in c.other.ensures s cs ∙ ap (by_op same_expr t) c.in-Other.ensures ∙ op_chosen same_expr t

pub returns-in-Clearing : goal.returns-in-Clearing
returns-in-Clearing c = λ s cs. let t = sheet_of c.args.sheet.now s cs in ap (λ a. adjusted_of t (Some a)) c.cleared.ensures ∙ ap (by_op same_expr t) c.in-Clearing.ensures ∙ op_chosen same_expr t
