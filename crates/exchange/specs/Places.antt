-- The children of an operator as lists: the place of each one's row, its need and its count.
-- Renders document 01, "T lines in preorder".
use Rattle.std.specs.Prelude.{List, [], ◌∷◌, ℕ, ◌+◌, length}
use Rattle.exchange.specs.Trees.{none, ◌∷ᶠ◌, root, Plans}
use Rattle.exchange.specs.Rows.{flatten}

-- the first at `at`, each of the others past the one before
unfoldable pub places_of : ℕ → Plans → List ℕ
places_of at none = []
places_of at (t ∷ᶠ ts) = at ∷ places_of (at + length (flatten t)) ts

unfoldable pub needs_of : Plans → List ℕ
needs_of none = []
needs_of (t ∷ᶠ ts) = (root t).need ∷ needs_of ts

unfoldable pub counts_of : Plans → List ℕ
counts_of none = []
counts_of (t ∷ᶠ ts) = (root t).count ∷ counts_of ts
