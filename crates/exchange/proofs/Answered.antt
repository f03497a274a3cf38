-- What an answer is made of: the worked node over the handled trees of states of which P holds.
use mathlib.Core.Path.{◌≡◌, refl}
use mathlib.Core.Bool.{true}
use mathlib.Core.Option.{Option, some, none as nothing}
use mathlib.Core.List.{List}
use lib.ListN.{length}
use Rattle.exchange.specs.Trees.{node, none, ◌∷ᶠ◌, root, Operator, Plan, Plans}
use Rattle.exchange.specs.declared.settings.Settings.{Settings}
use Rattle.exchange.specs.Facts.{Facts}
use Rattle.exchange.specs.Children.{is_leaf, update_each, update_children, remove_dist_changing_operators}
use Rattle.exchange.specs.States.{Child, ChildState, children_from}
use Rattle.exchange.specs.Status.{needs_alignment, get_repartition_requirement_status}
use Rattle.exchange.specs.Step.{ensure_children}
use Rattle.exchange.specs.Relationships.{Enforced, row_missing, stuck, enforced}
use Rattle.exchange.specs.Ensure.{Answer, Ensured, relate, child_states, finished, ensured_by, ensure_worked, ensured}
use Rattle.exchange.specs.Skeleton.{below}
use Rattle.exchange.proofs.Passing.{Holds, HoldsEnforced, HoldsEnsured, Alls, Steps, EachSteps, each_steps, Relates, each_step, all_rounds}

module _ (s : Settings) (f : Facts) (P : Child → ChildState → Type 0) where
  -- the answer of a worked node whose children came to states of which P holds
  pub record Finished (w : Operator) (ts : Plans) (a : Answer) : Type 0 where
    pub states : List ChildState
    pub reached : child_states s f (node w ts) ≡ enforced states
    pub each : Alls P (children_from 1 ts f.children) states
    pub is : a ≡ finished s f w states

  pub data Came (t : Plan) (a : Answer) : Type 0 where
    leaf : is_leaf (below t) ≡ true → a.plan ≡ update_children t → Came t a
    worked : Finished (root (remove_dist_changing_operators (update_children t))) (below (remove_dist_changing_operators (update_children t))) a → Came t a

  came_enforced : (w : Operator) (ts : Plans) (e : Enforced) → child_states s f (node w ts) ≡ e
      → HoldsEnforced (Alls P (children_from 1 ts f.children)) e → HoldsEnsured (Finished w ts) (ensured_by s f w e)
  came_enforced w ts row_missing q h = tt
  came_enforced w ts stuck q h = tt
  came_enforced w ts (enforced cs) q h = record { states = cs; reached = q; each = h; is = refl }

  came_related : (w : Operator) (ts : Plans) (o : Option (List ChildState)) → Relates s w f.node f.rows P
      → Holds (Alls P (children_from 1 ts f.children)) o → HoldsEnforced (Alls P (children_from 1 ts f.children)) (relate s f o)
  came_related w ts nothing r h = tt
  came_related w ts (some cs) r h =
      all_rounds s w f.node f.rows P r f.masks (length cs) (children_from 1 ts f.children) cs h

  -- the step of each child under a worked node gives P
  abbrev pub StepsOf : Plan → Type 0
  StepsOf u =
      EachSteps s (root u) f.node f.rows P (needs_alignment s (children_from 1 (below u) f.children)) (children_from 1 (below u) f.children)

  came_worked : (u : Plan) → StepsOf u → Relates s (root u) f.node f.rows P → HoldsEnsured (Finished (root u) (below u)) (ensure_worked s f u)
  unfolding child_states
  came_worked (node w ts) h r =
      came_enforced w ts (child_states s f (node w ts)) refl
      (came_related w ts (ensure_children s w f.node f.rows (get_repartition_requirement_status s (children_from 1 ts f.children))) r
      (each_step s w f.node f.rows P (needs_alignment s (children_from 1 ts f.children)) (children_from 1 ts f.children) h))

  more : (t : Plan) (e : Ensured)
      → HoldsEnsured (Finished (root (remove_dist_changing_operators (update_children t))) (below (remove_dist_changing_operators (update_children t)))) e
      → HoldsEnsured (Came t) e
  more t Ensured.missing_row h = tt
  more t Ensured.unenforceable h = tt
  more t (Ensured.answered a) h = worked h

  pub came : (t : Plan)
      → StepsOf (remove_dist_changing_operators (update_children t))
      → Relates s (root (remove_dist_changing_operators (update_children t))) f.node f.rows P
      → HoldsEnsured (Came t) (ensured s f t)
  unfolding ensured update_each
  came (node o none) h r = leaf refl refl
  came (node o (t ∷ᶠ ts)) h r =
      let u : Plan = remove_dist_changing_operators (update_children (node o (t ∷ᶠ ts))) in
      more (node o (t ∷ᶠ ts)) (ensure_worked s f u) (came_worked u h r)

  -- the same where every step gives P
  pub came_always : ((w : Operator) → Steps s w f.node f.rows P) → ((w : Operator) → Relates s w f.node f.rows P)
      → (t : Plan) → HoldsEnsured (Came t) (ensured s f t)
  came_always h r t =
      let u : Plan = remove_dist_changing_operators (update_children t) in
      let cs : List Child = children_from 1 (below u) f.children in
      came t (each_steps s (root u) f.node f.rows P (h (root u)) (needs_alignment s cs) cs) (r (root u))
