-- Numbers of a line, by its rows: one over the largest, three that are no expression.
-- Assumes nothing.
use Prim.Native.Nat.{ℕ, ◌/◌}
use mathlib.Core.Path.{◌≡◌, refl, ap}
use mathlib.Core.Bool.{Bool, true, not, ◌||◌}
use mathlib.Core.List.{List, [], ◌∷◌}
use lib.Dec.{ltb}
use lib.ListN.{length, get_or, get_or-map}
use Rattle.std.specs.List.{Any, list_any}
use Rattle.std.proofs.lemmas.List.Folds.{Any-from_list_any, list_any-from_Any}
use Rattle.std.specs.Simd.{first_chunks}
use Rattle.std.specs.Prelude.{slice_index, slice_index_or, IsTrue, ◌↔◌}
use Rattle.linekinds.specs.KeyLines.{defined_expr, undefined_exprs, over}
use Rattle.linekinds.specs.Reading.{row_value, row_values}
use Rattle.keys.proofs.Truths.{both_ways}
use Rattle.linekinds.proofs.Threes.{by_threes}

-- what is true exactly where some element passes a test
pub any_is : {X : Type 0} (b : Bool) (p : X → Bool) (xs : List X) → IsTrue b ↔ Any (λ x. p x ≡ true) xs → b ≡ list_any p xs
any_is b p xs e = both_ways b (list_any p xs) (λ h. list_any-from_Any p xs (e.0 h)) (λ h. e.1 (Any-from_list_any p xs h))

-- a row over the largest, and a number over it
pub over_any : (m : ℕ) (rs : List (List ℕ)) → list_any (λ r. ltb m (slice_index r 1)) rs ≡ over m (row_values rs)
unfolding over
over_any m [] = refl
over_any m (r ∷ rs) = ap (λ (t : Bool). ltb m (slice_index r 1) || t) (over_any m rs)

-- three rows
abbrev pub first_three : List (List ℕ) → Bool
first_three rs = defined_expr (slice_index (slice_index_or rs 0 []) 1) (slice_index (slice_index_or rs 1 []) 1) (slice_index (slice_index_or rs 2 []) 1)

-- and all rows, three by three
pub threes_any : (k : ℕ) (rs : List (List ℕ)) → k ≡ length rs / 3 → list_any (λ x. not (first_three x)) (first_chunks 3 k rs) ≡ undefined_exprs (row_values rs)
unfolding undefined_exprs
threes_any =
    by_threes (λ k rs. list_any (λ x. not (first_three x)) (first_chunks 3 k rs) ≡ undefined_exprs (row_values rs)) refl (λ a. refl) (λ a b. refl)
    (λ k a b c rs e. ap (λ (t : Bool). not (first_three (a ∷ b ∷ c ∷ [])) || t) e)

-- the numbers of rows, one by one
pub row_value_lem : (rs : List (List ℕ)) (i : ℕ) → get_or (row_values rs) i 0 ≡ get_or (get_or rs i []) 1 0
row_value_lem rs i = get_or-map row_value rs i []
