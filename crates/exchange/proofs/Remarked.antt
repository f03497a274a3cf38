-- The worked node with the marks that `update_children` sets, beside the worked node on the sheet: only marks differ, its own and its children's.
use Prim.Native.Nat.{ℕ}
use mathlib.Core.Path.{◌≡◌, refl}
use mathlib.Core.Bool.{Bool, true, false, cond}
use mathlib.Core.Logic.{◌⊎◌, inl, inr}
use Rattle.exchange.specs.Trees.{node, none, ◌∷ᶠ◌, root, Operator, Plan}
use Rattle.exchange.specs.Operators.{mark, track}
use Rattle.exchange.specs.Children.{changes_distribution, update_each, is_removed, remove_dist_changing_operators}
use Rattle.exchange.specs.Skeleton.{below}
use Rattle.exchange.specs.Partitioning.{worked_of}

pub record Remarked (u v : Plan) : Type 0 where
  pub mark : ℕ
  pub rooted : root v ≡ track mark (root u)
  pub under : (below v ≡ below u) ⊎ (below v ≡ update_each (below u))

remarked_same : (u : Plan) → Remarked u u
remarked_same u = record { mark = (root u).tracked; rooted = refl; under = inl refl }

remarked_tracked : (m : ℕ) (t : Plan) → Remarked (remove_dist_changing_operators t) (remove_dist_changing_operators (node (track m (root t)) (below t)))
unfolding remove_dist_changing_operators
remarked_tracked m (node o none) = go (is_removed o)
  where
    go : (b : Bool) → Remarked (cond b (node o none) (node o none)) (cond b (node (track m o) none) (node (track m o) none))
    go true = record { mark = m; rooted = refl; under = inl refl }
    go false = record { mark = m; rooted = refl; under = inl refl }
remarked_tracked m (node o (t ∷ᶠ ts)) = go (is_removed o)
  where
    go : (b : Bool) → Remarked (cond b (remove_dist_changing_operators t) (node o (t ∷ᶠ ts))) (cond b (remove_dist_changing_operators t) (node (track m o) (t ∷ᶠ ts)))
    go true = remarked_same (remove_dist_changing_operators t)
    go false = record { mark = m; rooted = refl; under = inl refl }

pub remarked : (t : Plan) → Remarked (remove_dist_changing_operators t) (worked_of t)
unfolding remove_dist_changing_operators update_each
remarked (node o none) = go (is_removed o)
  where
    go : (b : Bool) → Remarked (cond b (node o none) (node o none)) (cond b (node (track 0 o) none) (node (track 0 o) none))
    go true = record { mark = 0; rooted = refl; under = inl refl }
    go false = record { mark = 0; rooted = refl; under = inl refl }
remarked (node o (node p us ∷ᶠ ts)) = go (is_removed o)
  where
    q : Operator
    q = track (mark (changes_distribution p us)) p

    go : (b : Bool)
        → Remarked (cond b (remove_dist_changing_operators (node p us)) (node o (node p us ∷ᶠ ts)))
        (cond b (remove_dist_changing_operators (node q us)) (node (track 0 o) (node q us ∷ᶠ update_each ts)))
    go true = remarked_tracked (mark (changes_distribution p us)) (node p us)
    go false = record { mark = 0; rooted = refl; under = inr refl }
