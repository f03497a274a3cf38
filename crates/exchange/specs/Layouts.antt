-- Whether a union becomes an interleave, by the forms of its children.
-- Renders `can_interleave` and the end of `ensure_distribution` of 000; document 01, "interleave".
use Rattle.std.specs.Prelude.{ℕ, suc, Bool, true, false, not, ◌&&◌, List, [], ◌∷◌, eqb}
use Rattle.exchange.specs.Forms.{form_of}
use Rattle.exchange.specs.Facts.{Row}
use Rattle.exchange.specs.Built.{row_in}

-- the layouts of the children from a number on, each by the row of its form
unfoldable pub layouts_by : List Row → ℕ → List ℕ → List ℕ
layouts_by rows n [] = []
layouts_by rows n (f ∷ fs) = (row_in rows n (form_of f)).layout ∷ layouts_by rows (suc n) fs

unfoldable pub same_layouts : ℕ → List ℕ → Bool
same_layouts layout [] = true
same_layouts layout (l ∷ ls) = eqb l layout && same_layouts layout ls

-- there are children, hashed alike
unfoldable pub hashed_alike : List ℕ → Bool
hashed_alike [] = false
hashed_alike (l ∷ ls) = not (eqb l 0) && same_layouts l ls
