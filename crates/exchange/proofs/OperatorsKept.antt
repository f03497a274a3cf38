-- Demand 3, operators: exchanges, merges and added sorts set aside, those under the worked node are the same, in the same order under the same parents.
use Prim.Native.Nat.{ℕ, suc}
use mathlib.Core.Path.{◌≡◌, refl, ap, ap₂, ◌∙◌}
use mathlib.Core.Bool.{Bool, true, false, cond}
use mathlib.Core.Logic.{◌⊎◌, inl, inr}
use mathlib.Core.List.{List, [], ◌∷◌}
use lib.ListN.{length}
use Rattle.keys.proofs.Truths.{true_false}
use Rattle.exchange.specs.Trees.{node, none, ◌∷ᶠ◌, ◌++ᶠ◌, Operator, Plan, Plans}
use Rattle.exchange.specs.declared.settings.Settings.{Settings}
use Rattle.exchange.specs.Facts.{ChildFacts, Facts}
use Rattle.exchange.specs.Children.{update_child, update_each, update_children, is_removed, remove_dist_changing_operators}
use Rattle.exchange.specs.States.{ChildState, children_from}
use Rattle.exchange.specs.Ensure.{Answer, Ensured, answered, handled, finished, ensured}
use Rattle.exchange.specs.Skeleton.{below, skeleton, skeletons}
use Rattle.exchange.proofs.Remarked.{Remarked, remarked}
use Rattle.exchange.proofs.Passing.{HoldsEnsured, Alls}
use Rattle.exchange.proofs.Growing.{OfPlans, grown_steps, grown_relates}
use Rattle.exchange.proofs.Answered.{Finished, Came, leaf, worked, came_always}
use Rattle.exchange.proofs.SkeletonKept.{skeleton_grows, skeleton_handled}

-- what an answer is, of the answer that was given
pub of_answer : (P : Answer → Type 0) (e : Ensured) (a : Answer) → e ≡ answered a → HoldsEnsured P e → P a
of_answer P e a q h = rw q at h

-- ---- the marks change nothing under the worked node

skeleton_updated : (t : Plan) → skeleton (update_child t) ≡ skeleton t
unfolding skeleton
skeleton_updated (node o ts) = refl

skeletons_updated : (ts : Plans) → skeletons (update_each ts) ≡ skeletons ts
unfolding skeletons update_each
skeletons_updated none = refl
skeletons_updated (t ∷ᶠ ts) = ap₂ ◌++ᶠ◌ (skeleton_updated t) (skeletons_updated ts)

below_remarked : (u v : Plan) → Remarked u v → skeletons (below v) ≡ skeletons (below u)
below_remarked u v h = go h.under
  where
    go : (below v ≡ below u) ⊎ (below v ≡ update_each (below u)) → skeletons (below v) ≡ skeletons (below u)
    go (inl e) = ap skeletons e
    go (inr e) = ap skeletons e ∙ skeletons_updated (below u)

-- ---- the children of an answer

module _ (s : Settings) (f : Facts) (w : Operator) (n : ℕ) where
  skeletons_handled : (k : ℕ) (ts : Plans) (fs : List ChildFacts) (cs : List ChildState)
      → Alls (OfPlans (λ t u. skeleton u ≡ skeleton t)) (children_from k ts fs) cs → skeletons (handled s f w n cs) ≡ skeletons ts
  unfolding skeletons handled children_from
  skeletons_handled k none fs [] h = refl
  skeletons_handled k none fs (c ∷ cs) h = absurd h
  skeletons_handled k (t ∷ᶠ ts) [] [] h = absurd h
  skeletons_handled k (t ∷ᶠ ts) [] (c ∷ cs) h =
      ap₂ ◌++ᶠ◌ (skeleton_handled s f.node w n c ∙ h.0) (skeletons_handled (suc k) ts [] cs h.1)
  skeletons_handled k (t ∷ᶠ ts) (g ∷ fs) [] h = absurd h
  skeletons_handled k (t ∷ᶠ ts) (g ∷ fs) (c ∷ cs) h =
      ap₂ ◌++ᶠ◌ (skeleton_handled s f.node w n c ∙ h.0) (skeletons_handled (suc k) ts fs cs h.1)

module _ (s : Settings) (f : Facts) where
  skeletons_finished : (w : Operator) (ts : Plans) (a : Answer)
      → Finished s f (OfPlans (λ t u. skeleton u ≡ skeleton t)) w ts a → skeletons (below a.plan) ≡ skeletons ts
  unfolding finished
  skeletons_finished w ts a h =
      ap (λ (x : Answer). skeletons (below x.plan)) h.is ∙ skeletons_handled s f w (length h.states) 1 ts f.children h.states h.each

  skeletons_came : (t : Plan) (a : Answer)
      → Came s f (OfPlans (λ t u. skeleton u ≡ skeleton t)) t a → skeletons (below a.plan) ≡ skeletons (below (remove_dist_changing_operators t))
  unfolding remove_dist_changing_operators update_each
  skeletons_came t a (worked h) = skeletons_finished _ _ a h ∙ below_remarked (remove_dist_changing_operators t) (remove_dist_changing_operators (update_children t)) (remarked t)
  skeletons_came (node o none) a (leaf e h) = ap (λ (x : Plan). skeletons (below x)) h ∙ go (is_removed o)
    where
      go : (b : Bool) → skeletons none ≡ skeletons (below (cond b (node o none) (node o none)))
      go true = refl
      go false = refl
  skeletons_came (node o (t ∷ᶠ ts)) a (leaf e h) = absurd (true_false e refl)

  pub operators_kept : (t : Plan) (a : Answer) → ensured s f t ≡ answered a → skeletons (below a.plan) ≡ skeletons (below (remove_dist_changing_operators t))
  operators_kept t a e =
      skeletons_came t a
      (of_answer (Came s f (OfPlans (λ t u. skeleton u ≡ skeleton t)) t) (ensured s f t) a e
      (came_always s f (OfPlans (λ t u. skeleton u ≡ skeleton t)) (λ w. grown_steps _ skeleton_grows s w f.node f.rows)
      (λ w. grown_relates _ skeleton_grows s w f.node f.rows) t))
