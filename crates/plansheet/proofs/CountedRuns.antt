-- A counted run that was read has as many rows as were owed.
-- Assumes nothing.
use mathlib.Core.Path.{◌≡◌, refl, sym}
use mathlib.Core.List.{List, [], ◌∷◌}
use mathlib.Core.Option.{Option}
use mathlib.Core.Bool.{Bool, true, false, cond}
use Prim.Native.Nat.{ℕ, suc, ◌-◌}
use native.Mathlib.Omega.{arith}
use lib.Dec.{eqb}
use lib.ListN.{length}
use borrow.Author.Tests.{eqb-true, eqb-false}
use Rattle.text.specs.declared.field.Field.{Field}
use Rattle.text.specs.Lines.{first_of, next_of}
use Rattle.linekinds.specs.Lines.{Run, read, refused, before, line_number, fields_of, rows_of}
use Rattle.plansheet.specs.Shapes.{Shape, fixed_line}

line_at_lem :
    (a b : Bool) (owed m line at : ℕ) (fs : List Field) (r : Run) (ls₀ : List (List ℕ)) (rs : List (List Field)) (ls : List (List ℕ)) (l p : ℕ) → eqb owed 0 ≡ a →
    cond a (read [] ls₀ line at) (cond b (before fs r) (refused m line)) ≡ read rs ls l p →
    ((ss : List (List Field)) → r ≡ read ss ls l p → length ss ≡ owed - 1) → length rs ≡ owed
line_at_lem true b owed m line at fs r ls₀ rs ls l p t e ih = let q : [] ≡ rs = cc in rw (← q) (sym (eqb-true owed 0 t))
line_at_lem false true owed m line at fs (read ss ms k q) ls₀ rs ls l p t e ih =
    let a : fs ∷ ss ≡ rs = cc in
    let b : ms ≡ ls = cc in
    let d : k ≡ l = cc in
    let f : q ≡ p = cc in
    let ne : owed ≡ 0 → ⊥ = eqb-false owed 0 t in
    let n : length ss ≡ owed - 1 = ih ss (rw (b, d, f)) in
    rw (← a) (omega arith)
line_at_lem false true owed m line at fs (refused k q) ls₀ rs ls l p t e ih = let z : ◌≡◌ {A = ℕ} 0 1 = cc in absurd (omega arith)
line_at_lem false false owed m line at fs r ls₀ rs ls l p t e ih = let z : ◌≡◌ {A = ℕ} 0 1 = cc in absurd (omega arith)

none_at_lem : (a : Bool) (owed line at : ℕ) (rs : List (List Field)) (ls : List (List ℕ)) (l p : ℕ) → eqb owed 0 ≡ a → cond a (read [] [] line at) (refused 1 line) ≡ read rs ls l p → length rs ≡ owed
none_at_lem true owed line at rs ls l p t e = let q : [] ≡ rs = cc in rw (← q) (sym (eqb-true owed 0 t))
none_at_lem false owed line at rs ls l p t e = let z : ◌≡◌ {A = ℕ} 0 1 = cc in absurd (omega arith)

pub counted_long :
    (h : Shape) (owed seen line at : ℕ) (ls₀ : List (List ℕ)) (rs : List (List Field)) (ls : List (List ℕ)) (l p : ℕ) →
    rows_of (fixed_line h) owed seen line at ls₀ ≡ read rs ls l p → length rs ≡ owed
unfolding rows_of
counted_long h owed seen line at [] rs ls l p e = none_at_lem (eqb owed 0) owed line at rs ls l p refl e
counted_long h owed seen line at (l₀ ∷ ls₀) rs ls l p e =
    let x : Option (List Field) = first_of h.letter (l₀ ∷ ls₀) in
    let next : ℕ = next_of at (l₀ ∷ ls₀) in
    let n : ℕ = line_number (fixed_line h) seen next x in
    line_at_lem (eqb owed 0) (eqb n 0) owed n line at (fields_of x) (rows_of (fixed_line h) (owed - 1) (suc seen) (suc line) next ls₀) (l₀ ∷ ls₀) rs ls l p refl e
    (λ ss g. counted_long h (owed - 1) (suc seen) (suc line) next ls₀ ss ls l p g)
