-- Demand 3, limits: every limit of the tree under and at the worked node is in the answer, with its owner, in the same order, and no other;
-- and nothing above the worked node had one (`removed_unlimited`).
use Prim.Native.Nat.{ℕ, suc}
use mathlib.Core.Path.{◌≡◌, refl, sym, ap, ap₂, ◌∙◌, subst}
use mathlib.Core.Bool.{Bool, true, false, cond}
use mathlib.Core.Logic.{◌⊎◌, inl, inr}
use mathlib.Core.List.{List, [], ◌∷◌, ◌++◌}
use lib.ListN.{length}
use borrow.Author.Tests.{eqb-true}
use Rattle.keys.proofs.Truths.{true_false, and_first}
use Rattle.exchange.specs.Trees.{node, none, ◌∷ᶠ◌, root, Operator, Plan, Plans}
use Rattle.exchange.specs.declared.settings.Settings.{Settings}
use Rattle.exchange.specs.Facts.{ChildFacts, Facts}
use Rattle.exchange.specs.Operators.{is_sort_preserving_merge, is_union, track}
use Rattle.exchange.specs.Children.{update_child, update_each, update_children, is_removed, remove_dist_changing_operators, remove_above}
use Rattle.exchange.specs.States.{ChildState, children_from}
use Rattle.exchange.specs.Ensure.{Answer, answered, becomes_interleave, interleaved, handled, finished, ensured}
use Rattle.exchange.specs.Skeleton.{below}
use Rattle.exchange.specs.Limits.{limit_of, own_limit, limits, limitss, OwnsLimit, Owned, Owneds}
use Rattle.exchange.proofs.Remarked.{Remarked, remarked}
use Rattle.exchange.proofs.Passing.{Alls}
use Rattle.exchange.proofs.Growing.{OfPlans, grown_steps, grown_relates}
use Rattle.exchange.proofs.Answered.{Finished, Came, leaf, worked, came_always}
use Rattle.exchange.proofs.OperatorsKept.{of_answer}
use Rattle.exchange.proofs.LimitsKept.{own_owned, SameLimits, limits_grow, limits_handled}

-- ---- the marks, and what is taken off

limits_updated : (t : Plan) → limits (update_child t) ≡ limits t
unfolding limits
limits_updated (node o ts) = refl

limitss_updated : (ts : Plans) → limitss (update_each ts) ≡ limitss ts
unfolding limitss update_each
limitss_updated none = refl
limitss_updated (t ∷ᶠ ts) = ap₂ ◌++◌ (limits_updated t) (limitss_updated ts)

owned_updated : (t : Plan) → Owned t → Owned (update_child t)
owned_updated (node o ts) h = h

owneds_updated : (ts : Plans) → Owneds ts → Owneds (update_each ts)
unfolding update_each
owneds_updated none h = tt
owneds_updated (t ∷ᶠ ts) h = (owned_updated t h.0, owneds_updated ts h.1)

mutual
  unfolding remove_dist_changing_operators

  owned_removed : (t : Plan) → Owned t → Owned (remove_dist_changing_operators t)
  owned_removed (node o ts) h = go (is_removed o) (owned_above (node o ts) h ts h.1)
    where
      go : (b : Bool) → Owned (remove_above (node o ts) ts) → Owned (cond b (remove_above (node o ts) ts) (node o ts))
      go true k = k
      go false k = h

  owned_above : (t : Plan) → Owned t → (ts : Plans) → Owneds ts → Owned (remove_above t ts)
  owned_above t h none k = h
  owned_above t h (u ∷ᶠ us) k = owned_removed u k.0

-- a tree and the same with other marks: the worked node under each has the same limits, and owns them
pub record Alike (t u : Plan) : Type 0 where
  pub same : limits u ≡ limits t
  pub owned : Owned u

alike_remarked : (u v : Plan) → Remarked u v → Owned u → Alike u v
unfolding limits
alike_remarked (node o ts) (node p us) h k = go h.rooted h.under
  where
    same_root : p ≡ track h.mark o → own_limit p us ≡ own_limit o ts
    same_root e = ap (λ (q : Operator). own_limit q us) e ∙ own_owned (track h.mark o) us k.0 ∙ sym (own_owned o ts k.0)

    owns : p ≡ track h.mark o → OwnsLimit p
    owns e = subst OwnsLimit (sym e) k.0

    go : p ≡ track h.mark o → (us ≡ ts) ⊎ (us ≡ update_each ts) → Alike (node o ts) (node p us)
    go e (inl f) = record { same = ap₂ ◌++◌ (same_root e) (ap limitss f); owned = (owns e, subst Owneds (sym f) k.1) }
    go e (inr f) = record { same = ap₂ ◌++◌ (same_root e) (ap limitss f ∙ limitss_updated ts); owned = (owns e, subst Owneds (sym f) (owneds_updated ts k.1)) }

alike_updated : (t : Plan) → Owned t → Alike (remove_dist_changing_operators t) (remove_dist_changing_operators (update_children t))
alike_updated t h = alike_remarked (remove_dist_changing_operators t) (remove_dist_changing_operators (update_children t)) (remarked t) (owned_removed t h)

-- ---- the children of an answer

module _ (s : Settings) (f : Facts) where
  limitss_handled : (w : Operator) (n k : ℕ) (ts : Plans) (fs : List ChildFacts) (cs : List ChildState)
      → Owneds ts → Alls (OfPlans SameLimits) (children_from k ts fs) cs → limitss (handled s f w n cs) ≡ limitss ts
  unfolding limitss handled children_from
  limitss_handled w n k none fs [] o h = refl
  limitss_handled w n k none fs (c ∷ cs) o h = absurd h
  limitss_handled w n k (t ∷ᶠ ts) [] [] o h = absurd h
  limitss_handled w n k (t ∷ᶠ ts) [] (c ∷ cs) o h =
      ap₂ ◌++◌ (limits_handled s f.node w n c (h.0 o.0).1 ∙ (h.0 o.0).0) (limitss_handled w n (suc k) ts [] cs o.1 h.1)
  limitss_handled w n k (t ∷ᶠ ts) (g ∷ fs) [] o h = absurd h
  limitss_handled w n k (t ∷ᶠ ts) (g ∷ fs) (c ∷ cs) o h =
      ap₂ ◌++◌ (limits_handled s f.node w n c (h.0 o.0).1 ∙ (h.0 o.0).0) (limitss_handled w n (suc k) ts fs cs o.1 h.1)

  -- a union is no merge
  own_worked : (b : Bool) (w : Operator) (ts us : Plans)
      → (b ≡ true → is_union w ≡ true) → OwnsLimit w → own_limit (cond b (interleaved w) w) ts ≡ own_limit w us
  own_worked true w ts us u h =
      let other : is_sort_preserving_merge w ≡ false = rw (eqb-true w.kind 9 (u refl)) in
      ap (λ m. limit_of w.id m w.limit) (sym other) ∙ sym (own_owned w us h)
  own_worked false w ts us u h = own_owned w ts h ∙ sym (own_owned w us h)

  limits_finished : (u : Plan) (a : Answer) → Owned u → Finished s f (OfPlans SameLimits) (root u) (below u) a → limits a.plan ≡ limits u
  unfolding finished limits
  limits_finished (node w ts) a o h =
      ap (λ (x : Answer). limits x.plan) h.is
      ∙ ap₂ ◌++◌ (own_worked (becomes_interleave s w h.states) w (handled s f w (length h.states) h.states) ts (and_first (is_union w) _) o.0)
      (limitss_handled w (length h.states) 1 ts f.children h.states o.1 h.each)

  limits_came : (t : Plan) (a : Answer) → Owned t → Came s f (OfPlans SameLimits) t a → limits a.plan ≡ limits (remove_dist_changing_operators t)
  unfolding remove_dist_changing_operators update_each limits
  limits_came t a o (worked h) =
      let k : Alike (remove_dist_changing_operators t) (remove_dist_changing_operators (update_children t)) = alike_updated t o in
      limits_finished (remove_dist_changing_operators (update_children t)) a k.owned h ∙ k.same
  limits_came (node w none) a o (leaf e h) = ap limits h ∙ go (is_removed w)
    where
      go : (b : Bool) → limits (node (track 0 w) none) ≡ limits (cond b (node w none) (node w none))
      go true = refl
      go false = refl
  limits_came (node w (t ∷ᶠ ts)) a o (leaf e h) = absurd (true_false e refl)

  pub limits_kept : (t : Plan) (a : Answer) → Owned t → ensured s f t ≡ answered a → limits a.plan ≡ limits (remove_dist_changing_operators t)
  limits_kept t a o e =
      limits_came t a o
      (of_answer (Came s f (OfPlans SameLimits) t) (ensured s f t) a e
      (came_always s f (OfPlans SameLimits) (λ w. grown_steps SameLimits limits_grow s w f.node f.rows)
      (λ w. grown_relates SameLimits limits_grow s w f.node f.rows) t))
