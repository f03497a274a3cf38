-- What holds of every operator of a tree and the number of its children; ids in preorder.
-- Renders document 01, "T lines in preorder" and "id the T line's place from 1".
use Rattle.std.specs.Prelude.{ℕ, zero, suc, List, [], ◌∷◌, ◌++◌}
use Rattle.exchange.specs.Trees.{node, none, ◌∷ᶠ◌, trees, Operator, Plan, Plans}

abbrev mutual
  pub Every : (Operator → ℕ → Type 0) → Plan → Type 0
  Every P (node o ts) = P o (trees ts) × Everys P ts

  pub Everys : (Operator → ℕ → Type 0) → Plans → Type 0
  Everys P none = Unit {0}
  Everys P (t ∷ᶠ ts) = Every P t × Everys P ts

unfoldable mutual
  pub ids : Plan → List ℕ
  ids (node o ts) = o.id ∷ idss ts

  pub idss : Plans → List ℕ
  idss none = []
  idss (t ∷ᶠ ts) = ids t ++ idss ts

-- so many places, the first of them n
unfoldable pub places_from : ℕ → ℕ → List ℕ
places_from n zero = []
places_from n (suc k) = n ∷ places_from (suc n) k
