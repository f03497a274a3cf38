-- `worked_forms` meets its contract: what is asked is of the children that stand there, so the forms are those of their states (`told_worked`).
use mathlib.Core.Path.{◌≡◌, refl, ap, ◌∙◌}
use lib.ListN.{length}
use lib.Seq.{length-take-le}
use native.Mathlib.Omega.{arith}
use Rattle.exchange.specs.declared.row.Node.{Node}
use Rattle.ensure.proofs.Forming.{stood_in, stood_below, told_worked}
use Rattle.ensure.proofs.worked.worked_forms.Goals as goal

pub overflow_add-src : goal.overflow_add-src
overflow_add-src c = omega (arith, stood_in c.args.src.rows.now c.args.src.at _ c.requires.stood)

pub node_at-requires : goal.node_at-requires
node_at-requires c = stood_in c.args.src.rows.now c.args.src.at _ c.requires.stood

pub asked_children-requires : goal.asked_children-requires
asked_children-requires c = record { stand = stood_below c.args.src.rows.now c.args.src.at _ c.requires.stood; as_many = length-take-le _ _ c.args.f.few }

pub invariant_of-child_forms : goal.invariant_of-child_forms
invariant_of-child_forms c = let a = c.args in
    let long : length c.asked_children.new.asks ≡ length a.f.children.now = c.asked_children.auto.asks ∙ length-take-le _ _ a.f.few in
    omega (arith, long, a.f.few)

pub returns : goal.returns
returns c = let a = c.args in
    told_worked a.s a.f.node a.f.children.now a.f.xs.rows.now a.f.masks.now a.src.rows.now a.src.at (record { kind = c.node_at.result.kind; facts = a.f.node }) (ap (λ (x : Node). x.kind) c.node_at.ensures) refl c.requires.stood c.asked_children.new.asks c.asked_children.ensures _ _ c.child_forms.ensures
