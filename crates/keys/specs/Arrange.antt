-- Arrangements: the places of a list, each named once; and when one makes a list equal to another.
-- Renders document 01, "In demand 3 an arrangement names every place of L and G once; it fits a side ..".
use Rattle.std.specs.Prelude.{ℕ, ◌+◌, ◌<◌, ◌≡◌, Bool, true, false, cond, List, [], ◌∷◌, eqb, length}
use Rattle.std.proofs.Math.Option.{Option, none, some}
use Rattle.keys.specs.Lists.{same_list, permute}
use Rattle.keys.specs.Reorder.{Rule, rewrite}

-- every place is below n
abbrev pub Below : ℕ → List ℕ → Type 0
Below n [] = Unit {0}
Below n (p ∷ ps) = (p < n) × Below n ps

-- every place that is found is below n
abbrev pub AllBelow : ℕ → Option (List ℕ) → Type 0
AllBelow n none = Unit {0}
AllBelow n (some ps) = Below n ps

-- how often k stands in a list
abbrev pub times : ℕ → List ℕ → ℕ
times k [] = 0
times k (p ∷ ps) = cond (eqb k p) 1 0 + times k ps

-- ps names each place below n once, and nothing else
pub record Arrangement (n : ℕ) (ps : List ℕ) : Type 0 where
  pub long : length ps ≡ n
  pub within : Below n ps
  pub once : (k : ℕ) → k < n → times k ps ≡ 1

-- a test that is an equivalence
pub record Equivalence {A : Type 0} (same : A → A → Bool) : Type 0 where
  pub reflexive : (x : A) → same x x ≡ true
  pub symmetric : (x y : A) → same x y ≡ true → same y x ≡ true
  pub transitive : (x y z : A) → same x y ≡ true → same y z ≡ true → same x z ≡ true

module _ {A : Type 0} (same : A → A → Bool) (gone : A) where
  -- no entry equals the placeholder
  abbrev pub Lacks : List A → Type 0
  Lacks [] = Unit {0}
  Lacks (x ∷ xs) = (same gone x ≡ false) × Lacks xs

  -- current, taken in the order ps, is expected
  pub record Fits (current expected : List A) (ps : List ℕ) : Type 0 where
    pub arrangement : Arrangement (length current) ps
    pub equal : same_list same (permute gone current ps) expected ≡ true

  -- an arrangement of the places of l and g makes one of them the requirement, both raw or both rewritten
  pub data FitsSide (w : List (Rule A)) (r l g : List A) (ps : List ℕ) : Type 0 where
    left : Fits l r ps → FitsSide w r l g ps
    right : Fits g r ps → FitsSide w r l g ps
    left_rewritten : Fits (rewrite same w l) (rewrite same w r) ps → FitsSide w r l g ps
    right_rewritten : Fits (rewrite same w g) (rewrite same w r) ps → FitsSide w r l g ps
