-- The layouts of the children, one after the other, against that of the first; states that stand by their forms interleave as the forms say.
-- Assumes nothing.
use Prim.Native.Nat.{ℕ, suc, ◌+◌, ◌≤◌, ◌<◌}
use mathlib.Core.Path.{◌≡◌, refl, sym, ap, ap₂, ◌∙◌}
use mathlib.Core.Bool.{Bool, true, false, not, ◌&&◌}
use mathlib.Core.Option.{some}
use mathlib.Core.List.{List, [], ◌∷◌}
use native.Mathlib.Numerals.{add-one}
use native.Mathlib.Omega.{arith}
use lib.Dec.{eqb}
use lib.ListN.{length, drop, get_or, drop_of_length-le}
use lib.Seq.{drop-cons}
use borrow.Author.Tests.{eq-eqb, ne_eqb}
use Rattle.exchange.specs.Forms.{Form, form_of}
use Rattle.exchange.specs.Facts.{Row, row_of}
use Rattle.exchange.specs.Built.{or_blank, row_in}
use Rattle.exchange.specs.States.{ChildState}
use Rattle.exchange.specs.Turns.{Stand, nobody, next}
use Rattle.exchange.specs.Ensure.{all_layouts, can_interleave}
use Rattle.exchange.specs.Layouts.{layouts_by, same_layouts, hashed_alike}

module _ (rows : List Row) (fs : List ℕ) (layout i : ℕ) where
  -- of the children from place i on
  abbrev pub alike_from : Bool
  alike_from = same_layouts layout (layouts_by rows (i + 1) (drop i fs))

  layouts_turn : i < length fs → layouts_by rows (i + 1) (drop i fs) ≡ (row_in rows (i + 1) (form_of (get_or fs i 0))).layout ∷ layouts_by rows (i + 1 + 1) (drop (i + 1) fs)
  unfolding layouts_by
  layouts_turn h = rw (drop-cons fs i 0 h, add-one (i + 1), add-one i)

  module _ (l : ℕ) (more : i < length fs) (read : l ≡ (row_in rows (i + 1) (form_of (get_or fs i 0))).layout) where
    pub other_layout : (l ≡ layout → ⊥) → false ≡ alike_from
    unfolding same_layouts
    other_layout n = rw (layouts_turn more, sym read, ne_eqb _ _ n)

    pub same_layout : l ≡ layout → alike_from ≡ same_layouts layout (layouts_by rows (i + 1 + 1) (drop (i + 1) fs))
    unfolding same_layouts
    same_layout e = rw (layouts_turn more, sym read, eq-eqb _ _ e)

  pub layouts_end : length fs ≤ i → true ≡ alike_from
  unfolding same_layouts layouts_by
  layouts_end h = rw (drop_of_length-le fs {i = i} h)

module _ (rows : List Row) where
  pub alike_none : (fs : List ℕ) → length fs ≡ 0 → false ≡ hashed_alike (layouts_by rows 1 fs)
  unfolding hashed_alike layouts_by
  alike_none [] e = refl
  alike_none (f ∷ fs) e = absurd (omega arith)

  module _ (l : ℕ) where
    pub alike_unhashed : (fs : List ℕ) → (length fs ≡ 0 → ⊥) → l ≡ (row_in rows 1 (form_of (get_or fs 0 0))).layout → l ≡ 0 → false ≡ hashed_alike (layouts_by rows 1 fs)
    unfolding hashed_alike layouts_by
    alike_unhashed [] n r e = absurd (n refl)
    alike_unhashed (f ∷ fs) n r e = rw (sym r, eq-eqb _ _ e)

    pub alike_first : (fs : List ℕ) (b : Bool) → (length fs ≡ 0 → ⊥) → l ≡ (row_in rows 1 (form_of (get_or fs 0 0))).layout → (l ≡ 0 → ⊥) → b ≡ same_layouts l (layouts_by rows 1 fs)
        → b ≡ hashed_alike (layouts_by rows 1 fs)
    unfolding hashed_alike same_layouts layouts_by
    alike_first [] b n r e s = absurd (n refl)
    alike_first (f ∷ fs) b n r e s = s ∙ rw (sym r, eq-eqb l l refl, ne_eqb _ _ e)

-- ---- of states that stand by their forms

row_read : (rows : List Row) (n : ℕ) (f : Form) (x : Row) → row_of rows n f ≡ some x → row_in rows n f ≡ x
unfolding row_in
row_read rows n f x e = ap or_blank e

all_alike : (rows : List Row) (n layout : ℕ) (needs forms : List ℕ) (cs : List ChildState) → Stand rows n needs forms cs → all_layouts layout cs ≡ same_layouts layout (layouts_by rows n forms)
unfolding all_layouts same_layouts layouts_by
all_alike rows n layout needs forms cs nobody = refl
all_alike rows n layout needs forms cs (next {f = f} {cs = ds} a b d l r s) =
    ap₂ (λ (k : ℕ) (t : Bool). eqb k layout && t) (sym (ap (λ (x : Row). x.layout) (row_read rows n (form_of f) _ r))) (all_alike rows (suc n) layout _ _ ds s)

-- the states' layouts say what their forms' do
pub interleave_alike : (rows : List Row) (n : ℕ) (needs forms : List ℕ) (cs : List ChildState) → Stand rows n needs forms cs → can_interleave cs ≡ hashed_alike (layouts_by rows n forms)
unfolding hashed_alike layouts_by
interleave_alike rows n needs forms cs nobody = refl
interleave_alike rows n needs forms cs (next {f = f} {forms = gs} {c = c} {cs = ds} a b d l r s) =
    let same : c.row.layout ≡ (row_in rows n (form_of f)).layout = sym (ap (λ (x : Row). x.layout) (row_read rows n (form_of f) _ r)) in
    ap (λ (t : Bool). not (eqb c.row.layout 0) && t) (all_alike rows (suc n) c.row.layout _ _ ds s)
    ∙ ap (λ (k : ℕ). not (eqb k 0) && same_layouts k (layouts_by rows (suc n) gs)) same
