-- The rules from the next on rewrite the key as all the rules do (`rule_fits`, `rule_passes`).
use mathlib.Core.Path.{◌≡◌, sym, ◌∙◌}
use mathlib.Core.List.{List, []}
use Prim.Native.Nat.{ℕ, ◌<◌}
use borrow.Author.Tests.{eq-eqb, ne_eqb}
use lib.Dec.{eqb}
use lib.ListN.{length, get_or, length-map, get_or-map}
use Rattle.keys.specs.Values.{number_rule, number_rules}
use Rattle.keys.proofs.Tries.{rule_fits, rule_passes}
use Rattle.keys.proofs.reorder.rewrite_one.Goals as goal

-- the rule at a place
at : (w : List (List ℕ)) (i : ℕ) → get_or (number_rules w) i (number_rule []) ≡ number_rule (get_or w i [])
at w i = get_or-map number_rule w i []

pub returns-then-rule-x : goal.returns-then-rule-x
returns-then-rule-x c = let w = c.args.w.now in let i = c.loop-rule.rule-index in let h : i < length (number_rules w) = rw (length-map w number_rule) c.loop-rule-test.true in
    sym (c.loop-rule.invariant ∙ rule_fits eqb (number_rules w) c.args.x i (number_rule []) h (rw (at w i) (eq-eqb _ _ c.if-rule-x.true)) ∙ rw (at w i))

pub loop-rule-preserved : goal.loop-rule-preserved
loop-rule-preserved c = let w = c.args.w.now in let i = c.loop-rule.rule-index in let h : i < length (number_rules w) = rw (length-map w number_rule) c.loop-rule-test.true in
    c.loop-rule.invariant ∙ rule_passes eqb (number_rules w) c.args.x i (number_rule []) h (rw (at w i) (ne_eqb _ _ c.if-rule-x.false))
