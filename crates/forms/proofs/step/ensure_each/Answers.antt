-- `forms::step::ensure_each` meets its contract: the forms before i stand before those of the children from i on (`each_turn`).
use mathlib.Core.Path.{◌≡◌, refl, sym, ap, ◌∙◌}
use mathlib.Core.List.{map}
use native.Mathlib.Omega.{arith}
use lib.ListN.{length, take, drop, get_or, length-set}
use lib.Seq.{take_all}
use Rattle.std.specs.Prelude.{Option as Answer}
use Rattle.exchange.specs.declared.settings.Settings.{Settings}
use Rattle.exchange.specs.declared.status.Asked.{Asked}
use Rattle.exchange.specs.declared.partitioning.Worked.{Worked}
use Rattle.exchange.specs.States.{Child}
use Rattle.exchange.specs.Step.{ensure_child}
use Rattle.exchange.specs.Status.{status_of}
use Rattle.exchange.specs.FactRows.{fact_row, child_at, child_for, children_for}
use Rattle.exchange.specs.Standings.{no_child, worked_for, node_for, formed, with_forms, each_form}
use mathlib.Core.Bool.{Bool}
use mathlib.Core.List.{List}
use Prim.Native.Nat.{ℕ, ◌+◌, ◌<◌}
use Rattle.forms.proofs.Each.{prepend, each_turn, each_missing, each_end, each_cons, each_nil, children_long, at_place}
use Rattle.forms.proofs.step.ensure_each.Goals as goal

abbrev stepped : Settings → Worked → Bool → List (List ℕ) → Child → Answer ℕ
stepped s w aligned rows k = formed (ensure_child s (worked_for w) (node_for w) (map fact_row rows) (status_of s aligned k))

-- the step of the child at a place, and those of the others
cons : (go : Child → Answer ℕ) (asks : List Asked) (i : ℕ) → i < length asks → each_form go (drop i (children_for 1 asks))
    ≡ with_forms (go (child_at (i + 1) (get_or asks i no_child))) (each_form go (drop (i + 1) (children_for 1 asks)))
cons go asks i h =
    each_cons go (children_for 1 asks) i (child_for no_child) (omega (arith, h, children_long 1 asks))
    ∙ ap (λ (k : Child). with_forms (go k) (each_form go (drop (i + 1) (children_for 1 asks)))) (at_place 1 (i + 1) asks i (child_for no_child) h refl)

pub returns-in_err-forms : goal.returns-in_err-forms
returns-in_err-forms c = let a = c.args in let l = c.loop-i in
    let go = stepped a.w.settings a.w.worked a.w.aligned a.w.xs.rows.now in
    let rest = each_form go (drop (l.i + 1) (children_for 1 a.asks.list.now)) in
    let e = c.ensure_child.ensures (worked_for a.w.worked) (node_for a.w.worked) (child_at (l.i + 1) (get_or a.asks.list.now l.i no_child)) (record { kind = refl; facts = refl }) (record { number = refl; need = refl; count = refl; facts = refl }) in
    rw c.from_residual.ensures (each_missing _ (take l.i l.forms) rest
    (l.invariant.1 ∙ ap (prepend (take l.i l.forms)) (cons go a.asks.list.now l.i c.loop-i-test.true)
    ∙ ap (λ (o : Answer ℕ). prepend (take l.i l.forms) (with_forms o rest)) (sym e ∙ c.in_err-forms.was)))

pub loop-i-preserved : goal.loop-i-preserved
loop-i-preserved c = let a = c.args in let l = c.loop-i in
    let go = stepped a.w.settings a.w.worked a.w.aligned a.w.xs.rows.now in
    let rest = each_form go (drop (l.i + 1) (children_for 1 a.asks.list.now)) in
    let e = c.ensure_child.ensures (worked_for a.w.worked) (node_for a.w.worked) (child_at (l.i + 1) (get_or a.asks.list.now l.i no_child)) (record { kind = refl; facts = refl }) (record { number = refl; need = refl; count = refl; facts = refl }) in (
      simp length-set l.invariant.0,
      each_turn _ l.forms l.i c.in_ok-forms.field-0 (omega (arith, l.invariant.0, c.requires)) rest
          (l.invariant.1 ∙ ap (prepend (take l.i l.forms)) (cons go a.asks.list.now l.i c.loop-i-test.true)
          ∙ ap (λ (o : Answer ℕ). prepend (take l.i l.forms) (with_forms o rest)) (sym e ∙ c.in_ok-forms.was)),
    )

pub returns : goal.returns
returns c = let a = c.args in let l = c.loop-i in
    let all : take l.i l.forms ≡ l.forms = take_all l.i l.forms (omega (arith, l.invariant.0, c.requires, c.loop-i-test.false)) in
    rw all at (each_end _ (take l.i l.forms) (l.invariant.1
    ∙ ap (prepend (take l.i l.forms)) (each_nil (stepped a.w.settings a.w.worked a.w.aligned a.w.xs.rows.now) (children_for 1 a.asks.list.now) l.i (omega (arith, children_long 1 a.asks.list.now, c.loop-i-test.false)))))
