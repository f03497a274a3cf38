-- `ensure::interleave::can_interleave` meets its contract.
use mathlib.Core.Path.{◌≡◌, refl, ap, ◌∙◌}
use mathlib.Core.Bool.{not}
use mathlib.Core.List.{List, [], ◌∷◌, map}
use Prim.Native.Nat.{ℕ}
use native.Mathlib.Omega.{arith}
use lib.ListN.{length, get_or}
use borrow.Author.Tests.{eq-eqb}
use Rattle.std.specs.Prelude.{Some, None}
use Rattle.std.specs.List.{slice_get}
use Rattle.exchange.specs.Forms.{form_of}
use Rattle.exchange.specs.Facts.{Row}
use Rattle.exchange.specs.Built.{row_in}
use Rattle.exchange.specs.FactRows.{fact_row}
use Rattle.exchange.proofs.Interleaved.{alike_none, alike_unhashed, alike_first}
use Rattle.ensure.proofs.interleave.can_interleave.Goals as goal

no_first : (fs : List ℕ) → None ≡ slice_get fs 0 → length fs ≡ 0
no_first [] e = refl
no_first (f ∷ fs) e = absurd (cc)

some_first : (fs : List ℕ) (x : ℕ) → Some x ≡ slice_get fs 0 → (length fs ≡ 0 → ⊥) × (x ≡ get_or fs 0 0)
some_first [] x e = absurd (cc)
some_first (f ∷ fs) x e = (λ z. omega arith, cc)

-- the layout read is that of the first form
first_read : (rows : List Row) (x y l : ℕ) → x ≡ y → l ≡ (row_in rows 1 (form_of x)).layout → l ≡ (row_in rows 1 (form_of y)).layout
first_read rows x y l e h = rw e at h

pub returns-in_default : goal.returns-in_default
returns-in_default c = let a = c.args in alike_none (map fact_row a.xs.rows.now) a.forms.list.now (no_first _ (rw c.in_default.is at c.first.ensures.value))

pub returns-then-layout-ne0 : goal.returns-then-layout-ne0
returns-then-layout-ne0 c = let a = c.args in let f = some_first a.forms.list.now c.in-Some.first.now (rw c.in-Some.is at c.first.ensures.value) in
    alike_first (map fact_row a.xs.rows.now) _ a.forms.list.now _ f.0 (first_read _ _ _ _ f.1 c.layout_in-layout.ensures) c.if-layout-ne0.true c.all_layouts.ensures

pub returns-else-layout-ne0 : goal.returns-else-layout-ne0
returns-else-layout-ne0 c = let a = c.args in let f = some_first a.forms.list.now c.in-Some.first.now (rw c.in-Some.is at c.first.ensures.value) in
    ap not (eq-eqb _ _ c.if-layout-ne0.false)
    ∙ alike_unhashed (map fact_row a.xs.rows.now) _ a.forms.list.now f.0 (first_read _ _ _ _ f.1 c.layout_in-layout.ensures) c.if-layout-ne0.false
