-- Sentence 3, by the equation of `exchange` on skeletons; and the worked node itself.
use Prim.Native.Nat.{ℕ}
use mathlib.Core.Path.{◌≡◌, refl}
use mathlib.Core.Bool.{Bool, true, false, cond}
use mathlib.Core.Logic.{inl, inr}
use borrow.Author.Tests.{eqb-true}
use Rattle.keys.proofs.Truths.{and_first}
use Rattle.exchange.specs.Trees.{node, none, ◌∷ᶠ◌, root, Operator, Plan}
use Rattle.exchange.specs.Operators.{is_union, track}
use Rattle.exchange.specs.Children.{is_leaf, update_children, is_removed, remove_dist_changing_operators}
use Rattle.exchange.specs.Ensure.{Answer, answered, becomes_interleave, interleaved, finished, ensured}
use Rattle.exchange.specs.Skeleton.{below}
use Rattle.exchange.specs.Partitioning.{worked_of}
use Rattle.exchange.proofs.OperatorsKept.{operators_kept}
use Rattle.plansheet.specs.PlanSheets.{PlanSheet}
use Rattle.guarantee.specs.Operators.{worked as worked_node, SameKind, OperatorsKept}
use Rattle.exchange.proofs.Remarked.{Remarked, remarked}
use Rattle.guarantee.proofs.PlanAnswered.{Answered, only, over}

-- an operator that is the same but for its mark, and for an interleave in the place of a union
record SameRoot (o p : Operator) : Type 0 where
  id : p.id ≡ o.id
  kind : SameKind o p

same_union : (o : Operator) (m : ℕ) (b : Bool) → (b ≡ true → is_union o ≡ true) → SameRoot o (cond b (interleaved (track m o)) (track m o))
same_union o m true h = record { id = refl; kind = inr (eqb-true o.kind 9 (h refl), refl) }
same_union o m false h = record { id = refl; kind = inl refl }

-- the root of a tree of one line is its worked node
leaf_root : (t : Plan) → is_leaf (below t) ≡ true → root (update_children t) ≡ track 0 (root (remove_dist_changing_operators t))
unfolding remove_dist_changing_operators
leaf_root (node o none) l = go (is_removed o)
  where
    go : (b : Bool) → track 0 o ≡ track 0 (root (cond b (node o none) (node o none)))
    go true = refl
    go false = refl
leaf_root (node o (t ∷ᶠ ts)) l = absurd (cc)

same_root : (x : PlanSheet) (r : Answer) → Answered x r → SameRoot (root (worked_node x)) (root r.plan)
unfolding finished
same_root x r (only l h) = rw (h, leaf_root x.plan l) (record { id = refl; kind = inl refl })
same_root x r (over l w) =
    let k : Remarked (worked_node x) (worked_of x.plan) = remarked x.plan in
    rw (w.is, k.rooted)
    (same_union (root (worked_node x)) k.mark (becomes_interleave x.settings (track k.mark (root (worked_node x))) w.states) (and_first (is_union (root (worked_node x))) _))

pub plan_operators_kept : (x : PlanSheet) (r : Answer) → ensured x.settings x.facts x.plan ≡ answered r → Answered x r → OperatorsKept (worked_node x) r.plan
plan_operators_kept x r e a =
    let s : SameRoot (root (worked_node x)) (root r.plan) = same_root x r a in
    record { id = s.id; kind = s.kind; under = operators_kept x.settings x.facts x.plan r e }
