-- The answer has the operators of the sheet, in the same order under the same parents: every step changes or adds only what is set aside.
use Prim.Native.Nat.{ℕ}
use mathlib.Core.Path.{◌≡◌, refl, ap, ap₂, ◌∙◌}
use mathlib.Core.Bool.{Bool, true, false, cond}
use mathlib.Core.Option.{none as nothing}
use borrow.Author.Tests.{eqb-true}
use Rattle.exchange.specs.Trees.{Forest, node, none, ◌∷ᶠ◌, ◌++ᶠ◌, root, Operator, Plan, Plans}
use Rattle.exchange.specs.declared.settings.Settings.{Settings}
use Rattle.exchange.specs.Facts.{NodeFacts, Row}
use Rattle.exchange.specs.Operators.{is_sort_preserving_merge, has_order, has_limit, is_tracked, track_root, above, new_merge, limited_sort}
use Rattle.exchange.specs.States.{ChildState}
use Rattle.exchange.specs.Step.{split_plan}
use Rattle.exchange.specs.Replace.{coalesced, replace_merge, replace_operator, replace_order_preserving_variants, replace_tracked}
use Rattle.exchange.specs.Order.{handle_order}
use Rattle.exchange.specs.Skeleton.{is_aside, outline, skeleton, skeletons}
use Rattle.exchange.proofs.Growing.{Grows}
use Rattle.exchange.proofs.Handling.{measure_either, measure_operator, measure_handled}

pub append_none : {A : Type 0} (ts : Forest A) → ts ++ᶠ none ≡ ts
append_none none = refl
append_none (t ∷ᶠ ts) = ap (λ us. t ∷ᶠ us) (append_none ts)

-- an operator that is set aside adds nothing
skeleton_above : (o : Operator) (t : Plan) → is_aside o ≡ true → skeleton (above o t) ≡ skeleton t
unfolding skeleton
skeleton_above o t e = rw e (append_none (skeleton t))

skeleton_split : (x : Row) (t : Plan) → skeleton (split_plan x t) ≡ skeleton t
unfolding skeleton
skeleton_split x (node o ts) = refl

skeleton_track : (m : ℕ) (t : Plan) → skeleton (track_root m t) ≡ skeleton t
unfolding skeleton
skeleton_track m (node o ts) = refl

merge_aside : (x : Row) (u : Operator) → is_aside (new_merge x u) ≡ true
merge_aside x u = go (has_order u)
  where
    go : (b : Bool) → is_aside (record { id = 0; kind = cond b 1 2; count = x.count; keeps = 0; limit = nothing; order = x.order; mask = 0; tracked = 1; need = u.need }) ≡ true
    go true = refl
    go false = refl

-- each child's tree keeps its skeleton on the way
pub skeleton_grows : Grows (λ t u. skeleton u ≡ skeleton t)
skeleton_grows = record {
  same = λ t. refl;
  split = λ t u x p. skeleton_split x u ∙ p;
  merged = λ t u x p. skeleton_above (new_merge x (root u)) u (merge_aside x (root u)) ∙ p;
  keyed = λ t u x p. skeleton_above _ u refl ∙ p;
  dealt = λ t u x p. skeleton_above _ u refl ∙ p;
}

-- ---- the replacement

aside_merge : (o : Operator) → is_sort_preserving_merge o ≡ true → is_aside o ≡ true
aside_merge o e = rw (eqb-true o.kind 1 e)

skeleton_replaced : (o : Operator) (ts : Plans) → skeleton (replace_operator o ts) ≡ outline o (skeletons ts)
unfolding skeleton
skeleton_replaced o ts = measure_operator skeleton o ts (outline o (skeletons ts)) merged refl refl
  where
    merged : is_sort_preserving_merge o ≡ true → skeleton (replace_merge o ts) ≡ outline o (skeletons ts)
    merged e =
        measure_either skeleton (has_limit o) (above (limited_sort o.limit o.order (coalesced o)) (node (coalesced o) ts)) (node (coalesced o) ts) (outline o (skeletons ts))
        (rw (aside_merge o e) (append_none (skeletons ts))) (rw (aside_merge o e))

mutual
  unfolding skeleton replace_order_preserving_variants

  pub skeleton_replace : (t : Plan) → skeleton (replace_order_preserving_variants t) ≡ skeleton t
  skeleton_replace (node o ts) = skeleton_replaced o (replace_tracked ts) ∙ ap (outline o) (skeletons_replace ts)

  pub skeletons_replace : (ts : Plans) → skeletons (replace_tracked ts) ≡ skeletons ts
  skeletons_replace none = refl
  skeletons_replace (t ∷ᶠ ts) =
      ap₂ ◌++ᶠ◌ (measure_either skeleton (is_tracked (root t)) (replace_order_preserving_variants t) t (skeleton t) (skeleton_replace t) refl) (skeletons_replace ts)

-- ---- order handling

pub skeleton_handled : (s : Settings) (b : NodeFacts) (w : Operator) (n : ℕ) (c : ChildState) → skeleton (handle_order s b w n c) ≡ skeleton c.plan
skeleton_handled s b w n c = measure_handled skeleton c (skeleton_replace c.plan) (λ entries limit t e. skeleton_above _ t refl) skeleton_track s b w n
