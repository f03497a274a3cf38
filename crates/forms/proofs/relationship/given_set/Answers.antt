-- `forms::relationship::given_set` meets its contract: the set of the forms that were taken from the end; with at most eight forms it stays small (`set_small`).
use mathlib.Core.Path.{◌≡◌, ap, ◌∙◌}
use Prim.Native.Nat.{ℕ}
use native.Mathlib.Omega.{arith}
use Rattle.std.proofs.Common.{Iter}
use Rattle.std.specs.declared.iter.Rev.{Rev}
use Rattle.exchange.proofs.FromEnd.{none_taken, whole_again}
use Rattle.forms.proofs.Turns.{set_begins, set_turn, set_small}
use Rattle.forms.proofs.relationship.given_set.Goals as goal

pub loop-form-init : goal.loop-form-init
loop-form-init c = let left : c.into_iter-form-iterator.result.iter.rest.now ≡ c.args.forms.list.now =
    ap (λ (i : Rev (Iter ℕ)). i.iter.rest.now) c.into_iter-form-iterator.ensures.into_iter_gives ∙ ap (λ (i : Iter ℕ). i.rest.now) c.rev-form-items.ensures.source ∙ c.iter.ensures.rest in
    ((none_taken _ _ left).1, set_begins _ _ left)

pub overflow_mul-set : goal.overflow_mul-set
overflow_mul-set c = let a = c.args in let v = c.loop-form.invariant in omega (arith, v.1, set_small a.forms.list.now _ _ _ v.0 c.in-Some.ensures.steps a.forms.few a.forms.small)

pub overflow_add-set : goal.overflow_add-set
overflow_add-set c = let a = c.args in let v = c.loop-form.invariant in omega (arith, v.1, c.relationship_of.ensures, set_small a.forms.list.now _ _ _ v.0 c.in-Some.ensures.steps a.forms.few a.forms.small)

pub loop-form-preserved : goal.loop-form-preserved
loop-form-preserved c = let a = c.args in let v = c.loop-form.invariant in (
  whole_again a.forms.list.now _ _ _ v.0 c.in-Some.ensures.steps,
  omega (arith, v.1, c.relationship_of.ensures, set_turn a.forms.list.now _ _ _ v.0 c.in-Some.ensures.steps),
)
