-- The ways to the answer of a K sheet, each with the tests that lead there: passed, joined or regrouped.
use Prim.Native.Nat.{ℕ}
use mathlib.Core.Path.{◌≡◌, refl}
use mathlib.Core.Bool.{Bool, true, false, not, ◌&&◌}
use mathlib.Core.Option.{Option, none, some}
use mathlib.Core.List.{List, ◌++◌}
use native.Mathlib.Omega.{arith}
use borrow.Author.Tests.{eqb-true, ne_eqb}
use lib.Dec.{eqb}
use lib.ListN.{length}
use Rattle.keys.specs.Lists.{same_list, expected_expr_positions, permute}
use Rattle.keys.specs.Expressions.{Expression, placeholder}
use Rattle.keys.specs.Adjust.{KeySheet, Adjustment, answered, passed_on, columns_from, name_places, reorder_partitioned_join_keys, regrouped, regrouped_by, aggregate, hash_join, adjust_input_keys_ordering}
use Rattle.keys.specs.Codes.{order_tried}
use Rattle.keys.proofs.Truths.{and_first, by_test}

module _ (same : Expression → Expression → Bool) (s : KeySheet) where
  pub data KeyWay : Adjustment → Type 0 where
    passing :
        {changed : ℕ} {required : List Expression} {children : List (List Expression)} → order_tried s.op s.mode ≡ false →
        KeyWay (answered (passed_on s changed required children))
    joining : order_tried s.op s.mode ≡ true → KeyWay (reorder_partitioned_join_keys same s)
    regrouping :
        order_tried s.op s.mode ≡ false → s.op ≡ 3 → length s.required ≡ length (columns_from 0 s.groups) → (ps : List ℕ) →
        expected_expr_positions same placeholder (columns_from 0 s.groups) s.required ≡ some ps →
        KeyWay (regrouped same s ps (name_places (permute 0 s.groups ps ++ s.aggregates) s.groups))

  -- an aggregate that may act
  regroups :
      order_tried s.op s.mode ≡ false → s.op ≡ 3 → length s.required ≡ length (columns_from 0 s.groups) → (o : Option (List ℕ)) →
      expected_expr_positions same placeholder (columns_from 0 s.groups) s.required ≡ o → KeyWay (regrouped_by same s o)
  regroups u op n none e = passing u
  regroups u op n (some ps) e = by_test KeyWay s.partial (λ t. regrouping u op n ps e) (λ t. passing u)

  aggregates : order_tried s.op s.mode ≡ false → s.op ≡ 3 → KeyWay (aggregate same s)
  aggregates u op =
      by_test KeyWay (eqb (length s.required) 0) (λ k. passing u)
      (λ k. by_test KeyWay (eqb s.mode 0)
      (λ m. by_test KeyWay
      (eqb (length s.required) (length (columns_from 0 s.groups)) && (s.plain && not (same_list same (columns_from 0 s.groups) s.required)))
      (λ f. regroups u op (eqb-true _ _ (and_first (eqb (length s.required) (length (columns_from 0 s.groups))) _ f))
      (expected_expr_positions same placeholder (columns_from 0 s.groups) s.required) refl)
      (λ f. passing u))
      (λ m. passing u))

  hash_joins : eqb s.op 0 ≡ true → KeyWay (hash_join same s)
  hash_joins a =
      by_test KeyWay (eqb s.mode 0) (λ m. joining (rw (other, a, m)))
      (λ m. by_test KeyWay (eqb s.mode 1) (λ k. passing (rw (other, a, m))) (λ k. passing (rw (other, a, m))))
    where
      other : eqb s.op 2 ≡ false
      other = ne_eqb s.op 2 (λ e. absurd (omega (arith, eqb-true s.op 0 a)))

  pub key_way : KeyWay (adjust_input_keys_ordering same s)
  unfolding adjust_input_keys_ordering
  key_way =
      by_test KeyWay (eqb s.op 0) hash_joins
      (λ a. by_test KeyWay (eqb s.op 1)
      (λ b. passing (rw (ne_eqb s.op 2 (λ e. absurd (omega (arith, eqb-true s.op 1 b))), a)))
      (λ b. by_test KeyWay (eqb s.op 2) (λ c. joining (rw c))
      (λ c. let u : order_tried s.op s.mode ≡ false = rw (c, a) in
      by_test KeyWay (eqb s.op 3) (λ d. aggregates u (eqb-true s.op 3 d))
      (λ d. by_test KeyWay (eqb s.op 4)
      (λ e. by_test KeyWay (eqb (length s.mapped) (length s.required)) (λ k. passing u) (λ k. passing u))
      (λ e. by_test KeyWay (eqb s.op 5) (λ k. passing u)
      (λ k. by_test KeyWay (eqb (length s.required) 0) (λ j. passing u) (λ j. passing u)))))))
