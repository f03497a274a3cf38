-- The form that a step leaves is told by whether the row of that form is there (`passed_none`, `passed_some`), and goes by the step's tests.
-- Assumes nothing.
use mathlib.Core.Path.{◌≡◌, refl, sym, ap, ◌∙◌}
use mathlib.Core.Bool.{Bool, true, false, cond}
use mathlib.Core.Option.{Option, none, some}
use mathlib.Core.List.{List, map}
use Prim.Native.Nat.{ℕ, ◌≤◌}
use native.Mathlib.Omega.{arith}
use Rattle.std.specs.Prelude.{Option as Answer, Some, None}
use Rattle.exchange.specs.Trees.{Plan}
use Rattle.exchange.specs.Forms.{Form, form_number, form_of}
use Rattle.exchange.specs.Facts.{Row, row_of}
use Rattle.exchange.specs.Found.{row_for}
use Rattle.exchange.specs.States.{ChildState, with_form}
use Rattle.exchange.specs.FactRows.{fact_row, row_at}
use Rattle.exchange.specs.Standings.{formed, form_by, Passed}
use Rattle.exchange.proofs.Forms.{form_whole}
use Rattle.exchange.proofs.FactRows.{row_found}

-- by the row of the form alone
pub formed_with : (c : ChildState) (f : Form) (change : Row → Plan → Plan) (o : Option Row) → formed (with_form c f change o) ≡ form_by (form_number f) o
formed_with c f change none = refl
formed_with c f change (some x) = refl

module _ (xs : List (List ℕ)) (child n : ℕ) where
  passed_by : (o : Option ℕ) → row_for xs child n ≡ o → Passed child n (map fact_row xs) (form_by n (row_at xs o))
  passed_by o e c f change a b =
      let r : row_of (map fact_row xs) c.number f ≡ row_at xs o =
      row_found xs c.number f ∙ ap (λ (k : ℕ). row_at xs (row_for xs k (form_number f))) a ∙ ap (λ (k : ℕ). row_at xs (row_for xs child k)) b ∙ ap (row_at xs) e in
      sym (formed_with c f change (row_of (map fact_row xs) c.number f) ∙ ap (λ (k : ℕ). form_by k (row_of (map fact_row xs) c.number f)) b ∙ ap (form_by n) r)

  pub passed_none : none ≡ row_for xs child n → Passed child n (map fact_row xs) None
  passed_none e = passed_by none (sym e)

  pub passed_some : (p : ℕ) → some p ≡ row_for xs child n → Passed child n (map fact_row xs) (Some n)
  passed_some p e = passed_by (some p) (sym e)

-- a form that stays
pub formed_kept : (n : ℕ) → n ≤ 15 → Some n ≡ Some (form_number (form_of n))
formed_kept n h = ap Some (sym (form_whole n (omega arith)))

-- a test's two ways
pub formed_taken : (t : Bool) (x y : Option ChildState) (r : Answer ℕ) → t ≡ true → r ≡ formed x → r ≡ formed (cond t x y)
formed_taken t x y r e f = rw e f

pub formed_left : (t : Bool) (x y : Option ChildState) (r : Answer ℕ) → t ≡ false → r ≡ formed y → r ≡ formed (cond t x y)
formed_left t x y r e f = rw e f

pub formed_both : (t : Bool) (x y : Option ChildState) (u v : Answer ℕ) → formed x ≡ u → formed y ≡ v → formed (cond t x y) ≡ cond t u v
formed_both true x y u v e f = e
formed_both false x y u v e f = f
