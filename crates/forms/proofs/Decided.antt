-- The children's steps and then the rounds, on forms: what the steps leave stands, and the rounds go on from there.
-- Assumes nothing.
use Prim.Native.Nat.{ℕ, suc, ◌≤◌, ◌<◌}
use mathlib.Core.Path.{◌≡◌, refl, subst}
use mathlib.Core.Option.{Option, some, none as nothing}
use mathlib.Core.List.{List, [], ◌∷◌}
use native.Mathlib.Omega.{arith}
use lib.ListN.{length, get_or}
use Rattle.exchange.specs.declared.settings.Settings.{Settings}
use Rattle.exchange.specs.declared.status.Asked.{Asked}
use Rattle.exchange.specs.Facts.{Facts}
use Rattle.exchange.specs.States.{ChildState}
use Rattle.exchange.specs.Relationships.{enforce_distribution_relationships}
use Rattle.exchange.specs.Ensure.{relate}
use Rattle.exchange.specs.FactRows.{child_at, children_for}
use Rattle.exchange.specs.Standings.{SameChildren, done, also, form_numbers, form_list}
use Rattle.exchange.specs.Turns.{Stand, Told, told}
use Rattle.exchange.proofs.FormsSmall.{stand_small}

-- the children by their numbers have them
pub same_by : (n : ℕ) (asks : List Asked) → SameChildren n asks (children_for n asks)
unfolding children_for
same_by n [] = done
same_by n (a ∷ asks) = also {a = a} {k = child_at n a} (record { number = refl; need = refl; count = refl; facts = refl }) (same_by (suc n) asks)

module _ (s : Settings) (f : Facts) where
  module _ (needs fs : List ℕ) where
    abbrev Stood : Option (List ChildState) → Type 0
    Stood x = (cs : List ChildState) → x ≡ some cs → Stand f.rows 1 needs (form_numbers cs) cs

    pub steps_small : (x : Option (List ChildState)) → some fs ≡ form_list x → Stood x → length fs ≡ length needs → (k : ℕ) → k < length fs → get_or fs k 0 ≤ 15
    steps_small nothing e h m k l = absurd (cc)
    steps_small (some cs) e h m k l =
        let same : form_numbers cs ≡ fs = cc in
        subst (λ (gs : List ℕ). get_or gs k 0 ≤ 15) same (stand_small f.rows (h cs refl) k (omega arith))

    pub steps_go_on : (t : Told) (x : Option (List ChildState)) → some fs ≡ form_list x → Stood x
        → ((cs : List ChildState) → Stand f.rows 1 needs fs cs → t ≡ told (enforce_distribution_relationships f.rows f.masks cs)) → t ≡ told (relate s f x)
    steps_go_on t nothing e h g = absurd (cc)
    steps_go_on t (some cs) e h g = g cs (subst (λ (gs : List ℕ). Stand f.rows 1 needs gs cs) (cc) (h cs refl))
