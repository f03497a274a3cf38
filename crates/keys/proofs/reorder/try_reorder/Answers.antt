-- One law of `try_reorder` for each way out.
use mathlib.Core.Path.{◌≡◌, sym, ap, ◌∙◌}
use mathlib.Core.List.{List}
use Prim.Native.Nat.{ℕ}
use Rattle.std.proofs.lemmas.List.{nil_from_length}
use Rattle.std.proofs.Common.{rules, tests}
use lib.Dec.{eqb}
use lib.ListN.{length}
use Rattle.keys.specs.Reorder.{moved_by, try_reorder}
use Rattle.keys.specs.Expressions.{gone_number}
use Rattle.keys.specs.Values.{number_rules}
use Rattle.keys.proofs.Tries.{try_unequal, try_met, try_raw, try_searched}
use Rattle.keys.proofs.reorder.try_reorder.Goals as goal

pub returns-then-x : goal.returns-then-x
returns-then-x c = try_unequal eqb gone_number (number_rules c.args.w.now) c.args.x.required.now c.args.x.left.now c.args.x.right.now c.if-x.true

pub returns-then-meets : goal.returns-then-meets
returns-then-meets c = try_met eqb gone_number (number_rules c.args.w.now) c.args.x.required.now c.args.x.left.now c.args.x.right.now c.if-x.false (sym c.meets.ensures ∙ c.if-meets.true)

pub returns-then-is_empty : goal.returns-then-is_empty
returns-then-is_empty c = let r = c.args.x.required.now in let l = c.args.x.left.now in let g = c.args.x.right.now in
    let empty : length c.args.w.now ≡ 0 = search (rules, tests) in
    c.moved_by.ensures l g ∙ ap (moved_by gone_number l g) c.either_side.ensures
    ∙ try_raw eqb gone_number r l g c.if-x.false (sym c.meets.ensures ∙ c.if-meets.false)
    ∙ ap (λ (w : List (List ℕ)). try_reorder eqb gone_number (number_rules w) r l g) (sym (nil_from_length c.args.w.now empty))

pub returns : goal.returns
returns c = c.try_rewritten.ensures ∙ try_searched eqb gone_number (number_rules c.args.w.now) c.args.x.required.now c.args.x.left.now c.args.x.right.now c.if-x.false (sym c.meets.ensures ∙ c.if-meets.false)
