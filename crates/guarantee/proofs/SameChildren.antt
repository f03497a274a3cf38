-- The worked node's children on the sheet, beside those with the marks that `update_children` sets: all that is asked of them is the same.
use Prim.Native.Nat.{ℕ, suc}
use mathlib.Core.Path.{◌≡◌, refl}
use mathlib.Core.Logic.{◌⊎◌, inl, inr}
use mathlib.Core.List.{List, [], ◌∷◌}
use Rattle.exchange.specs.Trees.{node, none, ◌∷ᶠ◌, Plan, Plans}
use Rattle.exchange.specs.Facts.{ChildFacts}
use Rattle.exchange.specs.Children.{update_each}
use Rattle.exchange.specs.States.{Child, children_from, need_of, count_of}
use Rattle.exchange.specs.Skeleton.{below}
use Rattle.exchange.proofs.Remarked.{Remarked}

-- all but the tree's marks
pub record SameChild (c d : Child) : Type 0 where
  pub number : d.number ≡ c.number
  pub facts : d.facts ≡ c.facts
  pub need : need_of d ≡ need_of c
  pub count : count_of d ≡ count_of c

pub data SameChildren : List Child → List Child → Type 0 where
  over : SameChildren [] []
  beside : {c d : Child} {cs ds : List Child} → SameChild c d → SameChildren cs ds → SameChildren (c ∷ cs) (d ∷ ds)

same_itself : (cs : List Child) → SameChildren cs cs
same_itself [] = over
same_itself (c ∷ cs) = beside (record { number = refl; facts = refl; need = refl; count = refl }) (same_itself cs)

same_updated : (n : ℕ) (ts : Plans) (fs : List ChildFacts) → SameChildren (children_from n ts fs) (children_from n (update_each ts) fs)
unfolding children_from update_each
same_updated n none fs = over
same_updated n (node o us ∷ᶠ ts) [] = beside (record { number = refl; facts = refl; need = refl; count = refl }) (same_updated (suc n) ts [])
same_updated n (node o us ∷ᶠ ts) (f ∷ fs) = beside (record { number = refl; facts = refl; need = refl; count = refl }) (same_updated (suc n) ts fs)

pub same_children : (u v : Plan) (fs : List ChildFacts) → Remarked u v → SameChildren (children_from 1 (below u) fs) (children_from 1 (below v) fs)
same_children u v fs h = go h.under
  where
    go : (below v ≡ below u) ⊎ (below v ≡ update_each (below u)) → SameChildren (children_from 1 (below u) fs) (children_from 1 (below v) fs)
    go (inl e) = rw e (same_itself (children_from 1 (below u) fs))
    go (inr e) = rw e (same_updated 1 (below u) fs)
