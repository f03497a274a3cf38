-- Bounds that a sheet keeps have one proof at most: asked where `Sheet` declares its ghost fields, so it stands here.
use Rattle.std.specs.Prelude.{ℕ, List, [], ◌∷◌}
use Rattle.std.specs.Coded.{×_prop, Unit-prop, le_prop}
use Rattle.keys.specs.Arrange.{Below}

pub below_prop : (n : ℕ) (ps : List ℕ) → IsProp (Below n ps)
below_prop n [] = Unit-prop
below_prop n (p ∷ ps) = ×_prop le_prop (below_prop n ps)
