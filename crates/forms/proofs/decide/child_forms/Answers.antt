-- `forms::decide::child_forms` meets its contract: the steps leave states that stand by their forms, and the rounds go on from them.
use mathlib.Core.Path.{refl, sym, ◌∙◌}
use mathlib.Core.List.{[], map}
use native.Mathlib.Omega.{arith}
use lib.ListN.{length, length-map}
use lib.Seq.{take_all}
use Rattle.exchange.specs.Status.{needs_alignment, get_repartition_requirement_status}
use Rattle.exchange.specs.Step.{ensure_children}
use Rattle.exchange.specs.FactRows.{fact_row, children_for}
use Rattle.exchange.specs.Standings.{worked_for, node_for, asked_needs}
use Rattle.forms.proofs.Standing.{children_stand}
use Rattle.forms.proofs.Rounds.{round_done, ok_or_done}
use Rattle.forms.proofs.Decided.{same_by, steps_small, steps_go_on}
use Rattle.forms.proofs.decide.child_forms.Goals as goal

pub enforce_distribution_relationships-requires-clause-small : goal.enforce_distribution_relationships-requires-clause-small
enforce_distribution_relationships-requires-clause-small c = let a = c.args in let ks = children_for 1 a.asks.list.now in let long = c.ensure_children.auto.forms ∙ c.requires in
    let whole = take_all (length a.asks.list.now) c.ensure_children.new.forms (omega (arith, long)) in
    steps_small a.s (record { node = node_for a.w; children = []; rows = map fact_row a.xs.rows.now; masks = a.masks.now }) (asked_needs a.asks.list.now) _
    (ensure_children a.s (worked_for a.w) (node_for a.w) (map fact_row a.xs.rows.now) (get_repartition_requirement_status a.s ks))
    (round_done _ _ _ _ (ok_or_done _ _ _ (sym c.ok_or.ensures.value ∙ c.in_ok-ok_or.was)) (rw whole at (c.ensure_children.ensures (worked_for a.w) (node_for a.w) ks (record { kind = refl; facts = refl }) (same_by 1 a.asks.list.now))))
    (λ cs e. children_stand a.s (worked_for a.w) (node_for a.w) (map fact_row a.xs.rows.now) (needs_alignment a.s ks) 1 a.asks.list.now ks (same_by 1 a.asks.list.now) cs e)
    (long ∙ sym (length-map a.asks.list.now _))

pub returns : goal.returns
returns c = let a = c.args in λ o b ks sn sc.
    let whole = take_all (length a.asks.list.now) c.ensure_children.new.forms (omega (arith, c.ensure_children.auto.forms, c.requires)) in
    steps_go_on a.s (record { node = b; children = []; rows = map fact_row a.xs.rows.now; masks = a.masks.now }) (asked_needs a.asks.list.now) _ _ (ensure_children a.s o b (map fact_row a.xs.rows.now) (get_repartition_requirement_status a.s ks))
    (round_done _ _ _ _ (ok_or_done _ _ _ (sym c.ok_or.ensures.value ∙ c.in_ok-ok_or.was)) (rw whole at (c.ensure_children.ensures o b ks sn sc)))
    (λ cs e. children_stand a.s o b (map fact_row a.xs.rows.now) (needs_alignment a.s ks) 1 a.asks.list.now ks sc cs e) c.enforce_distribution_relationships.ensures
