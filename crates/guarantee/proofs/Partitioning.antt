-- Sentence 5: each child of an answer has what it needs, in order.
use Prim.Native.Nat.{ℕ}
use mathlib.Core.Path.{◌≡◌, refl}
use mathlib.Core.Bool.{Bool, true, false, cond}
use mathlib.Core.List.{List, [], ◌∷◌}
use lib.ListN.{length}
use Rattle.std.proofs.lemmas.Bool.{and_from}
use Rattle.exchange.specs.Trees.{node, none, ◌∷ᶠ◌, root, Operator, Plan}
use Rattle.exchange.specs.Operators.{track}
use Rattle.exchange.specs.Children.{is_leaf, update_each, update_children, is_removed, remove_dist_changing_operators}
use Rattle.exchange.specs.States.{Child, ChildState, children_from}
use Rattle.exchange.specs.Ensure.{Answer, handled, finished}
use Rattle.exchange.specs.Skeleton.{below}
use Rattle.exchange.specs.Partitioning.{worked_of, children_of, EachHas}
use Rattle.exchange.proofs.Passing.{Alls}
use Rattle.plansheet.specs.PlanSheets.{PlanSheet}
use Rattle.guarantee.specs.Operators.{worked}
use Rattle.guarantee.specs.Partitioning.{children, need_had, needs_had, PartitioningHad}
use Rattle.guarantee.proofs.ChildForms.{Formed}
use Rattle.guarantee.proofs.ChildNeeds.{need_had_lem}
use Rattle.guarantee.proofs.SameChildren as marks
use Rattle.exchange.proofs.Remarked.{Remarked, remarked}
use Rattle.guarantee.proofs.SameChildren.{SameChildren, same_children}
use Rattle.guarantee.proofs.PlanAnswered.{Answered, only, over}

module _ (x : PlanSheet) (w : Operator) (m n : ℕ) (marked : w ≡ track m (root (worked x))) where
  each_had : (cs ks : List Child) (ds : List ChildState) → SameChildren cs ks → EachHas x.settings x.facts w n ks ds
      → Alls (Formed x.settings w x.facts.node x.facts.rows) ks ds → needs_had x cs (handled x.settings x.facts w n ds) ≡ true
  unfolding needs_had handled
  each_had cs ks [] marks.over h f = refl
  each_had cs ks (d ∷ ds) marks.over h f = absurd h
  each_had cs ks [] (marks.beside s r) h f = absurd h
  each_had cs ks (d ∷ ds) (marks.beside {c = c} {d = k} {cs = cs'} {ds = ks'} s r) h f =
      and_from (need_had x c _) _ (need_had_lem x w m n marked c k s d f.0 h.0) (each_had cs' ks' ds r h.1 f.1)

-- an only line has no children
only_had : (x : PlanSheet) → is_leaf (below x.plan) ≡ true → PartitioningHad x (update_children x.plan)
unfolding remove_dist_changing_operators update_each children_from needs_had
only_had x = go x.plan
  where
    by : (o : Operator) (b : Bool) → needs_had x (children_from 1 (below (cond b (node o none) (node o none))) x.facts.children) none ≡ true
    by o true = refl
    by o false = refl

    go : (t : Plan) → is_leaf (below t) ≡ true → needs_had x (children_from 1 (below (remove_dist_changing_operators t)) x.facts.children) (below (update_children t)) ≡ true
    go (node o none) l = by o (is_removed o)
    go (node o (t ∷ᶠ ts)) l = absurd (cc)

pub plan_partitioning_had : (x : PlanSheet) (r : Answer) → Answered x r → PartitioningHad x r.plan
unfolding finished
plan_partitioning_had x r (only l h) = rw h (only_had x l)
plan_partitioning_had x r (over l w) =
    let k : Remarked (worked x) (worked_of x.plan) = remarked x.plan in
    rw w.is
    (each_had x (root (worked_of x.plan)) k.mark (length w.states) k.rooted (children x) (children_of x.facts x.plan) w.states
    (same_children (worked x) (worked_of x.plan) x.facts.children k) w.has w.formed)
