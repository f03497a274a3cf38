-- A place that is found is marked as taken, and the search for the next entry goes on behind it: by the definition of the search.
-- Assumes nothing.
use Prim.Native.Nat.{ℕ, suc, ◌+◌, ◌<◌}
use mathlib.Core.Path.{◌≡◌, refl, ap}
use mathlib.Core.Bool.{Bool}
use mathlib.Core.Option.{Option, none, some}
use mathlib.Core.List.{List, [], ◌∷◌, ◌++◌, append_assoc}
use native.Mathlib.Numerals.{add-one}
use lib.ListN.{length, get_or, drop, set}
use lib.Seq.{drop-cons}
use Rattle.keys.specs.Lists.{also, place_of, take_places}
use Rattle.keys.proofs.Lists.{behind}

behind_also : (ps : List ℕ) (p : ℕ) (o : Option (List ℕ)) → behind ps (also p o) ≡ behind (ps ++ (p ∷ [])) o
behind_also ps p none = refl
behind_also ps p (some qs) = ap {B = Option (List ℕ)} some (rw append_assoc refl)

module _ {A : Type 0} (same : A → A → Bool) (gone : A) (ps : List ℕ) (current expected : List A) (i : ℕ) where
  pub take_one :
      (d : A) (p : ℕ) → i < length expected → place_of same (get_or expected i d) current ≡ some p →
      behind ps (take_places same gone current (drop i expected))
      ≡ behind (ps ++ (p ∷ [])) (take_places same gone (set current p gone) (drop (i + 1) expected))
  take_one d p h e = rw (drop-cons expected i d h, e, add-one) (behind_also ps p (take_places same gone (set current p gone) (drop (suc i) expected)))
