-- `ensure::update::any_unspecified` meets its contract: the trees that are left say what all of them say (`unspecified_later`).
use mathlib.Core.Path.{◌≡◌, sym, ap, ◌∙◌}
use Prim.Native.Nat.{◌+◌, ◌-◌}
use native.Mathlib.Omega.{arith}
use Rattle.exchange.specs.declared.row.Node.{Node}
use Rattle.exchange.specs.Rows.{operator_of}
use Rattle.exchange.specs.Update.{is_unspecified}
use Rattle.exchange.proofs.Marking.{stands_in, all_first, all_others, unspecified_none, unspecified_first, unspecified_later}
use Rattle.ensure.proofs.update.any_unspecified.Goals as goal

pub node_at-requires : goal.node_at-requires
node_at-requires c = stands_in _ _ (all_first _ _ _ (λ z. omega (arith, c.loop-test.true)) c.loop.invariant.0)

pub returns-then-unspecified : goal.returns-then-unspecified
returns-then-unspecified c = c.loop.invariant.1 _ (unspecified_first c.args.rows.now c.loop.child _ (λ z. omega (arith, c.loop-test.true))
    (sym (ap (λ (n : Node). is_unspecified (operator_of n)) c.node_at.ensures) ∙ sym c.unspecified.ensures ∙ c.if-unspecified.true))

pub past_tree-child-requires : goal.past_tree-child-requires
past_tree-child-requires c = all_first _ _ _ (λ z. omega (arith, c.loop-test.true)) c.loop.invariant.0

pub loop-preserved : goal.loop-preserved
loop-preserved c = let a = c.args in let l = c.loop in
    let later : a.left - (l.counter + 1) ≡ a.left - l.counter - 1 = omega arith in (
      rw later (all_others _ _ _ (λ z. omega (arith, c.loop-test.true)) l.invariant.0 _ c.past_tree-child.ensures),
      λ r s. l.invariant.1 r
          (unspecified_later _ _ _ (λ z. omega (arith, c.loop-test.true)) _ _
          (sym (ap (λ (n : Node). is_unspecified (operator_of n)) c.node_at.ensures) ∙ sym c.unspecified.ensures ∙ c.if-unspecified.false)
          c.past_tree-child.ensures (rw later at s)),
    )

pub returns : goal.returns
returns c = c.loop.invariant.1 _ (unspecified_none c.args.rows.now c.loop.child _ (omega (arith, c.loop-test.false)))
