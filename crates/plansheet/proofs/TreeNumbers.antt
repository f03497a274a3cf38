-- The number of a tree line by the tests that the code makes, in their order.
-- Assumes nothing.
use mathlib.Core.Path.{◌≡◌, refl, sym, ◌∙◌}
use Prim.Native.Nat.{ℕ, ◌≤◌, ◌<◌}
use native.Mathlib.Omega.{arith}
use mathlib.Core.List.{List}
use mathlib.Core.Bool.{Bool, true, false, cond, ◌||◌}
use lib.Dec.{leb, ltb}
use lib.ListN.{length}
use borrow.Author.Tests.{lt-ltb, le-ltb, le-leb, lt-leb}
use Rattle.linekinds.specs.Lines.{most_bytes}
use Rattle.linekinds.specs.Reading.{row_values}
use Rattle.plansheet.specs.Shapes.{over_any, exchange_limited, rule_fits, most_children}
use Rattle.plansheet.specs.ReadRows.{shape_number, tree_number, value_at, state_at}

-- ---- of fields that are within their bounds

module _ (sizes codes : List ℕ) (next : ℕ) (ns : List ℕ) where
  abbrev S : ℕ
  S = shape_number sizes codes next ns

  module _ (h : next ≤ most_bytes) where
    module _ (e : over_any sizes ns ≡ false) where
      pub shape_fine : over_any codes ns ≡ false → 0 ≡ S
      shape_fine f = rw (le-ltb most_bytes next h, e, f)

-- ---- of a tree line's

most_at : (b c : Bool) (n : ℕ) → 3 ≡ cond (b || (true || c)) 3 n
most_at true c n = refl
most_at false c n = refl

wide_at : (b s : Bool) (n : ℕ) → 3 ≡ cond (b || (false || (true || s))) 3 n
wide_at true s n = refl
wide_at false s n = refl

shape_at :
    (b s k o : Bool) (n m : ℕ) → n ≡ cond (b || s) 3 (cond o 4 0) → (n ≡ 0 → ⊥) →
    n ≡ cond (b || (false || (false || s))) 3 (cond (k || o) 4 m)
shape_at true s k o n m e h = e
shape_at false true k o n m e h = e
shape_at false false true true n m e h = e
shape_at false false false true n m e h = e
shape_at false false k false n m e h = absurd (h e)

fine_at_lem : (b s o : Bool) → ◌≡◌ {A = ℕ} 0 (cond (b || s) 3 (cond o 4 0)) → (b ≡ false) × (s ≡ false) × (o ≡ false)
fine_at_lem true s o e = absurd (omega arith)
fine_at_lem false true o e = absurd (omega arith)
fine_at_lem false false true e = absurd (omega arith)
fine_at_lem false false false e = (refl, refl, refl)

module _ (sizes codes : List ℕ) (rules : List (List ℕ)) (most seen next : ℕ) (rs : List (List ℕ)) where
  abbrev T : ℕ
  T = tree_number sizes codes rules most seen next rs

  pub tree_limited : exchange_limited (value_at rs 0) (state_at rs 3) ≡ true → 2 ≡ T
  unfolding tree_number
  tree_limited e = rw e

  module _ (e : exchange_limited (value_at rs 0) (state_at rs 3) ≡ false) where
    pub tree_most : most ≤ seen → 3 ≡ T
    unfolding tree_number
    tree_most h = rw (e, le-leb most seen h) (most_at (ltb most_bytes next) (ltb most_children (value_at rs 7) || over_any sizes (row_values rs)) _)

    module _ (m : seen < most) where
      pub tree_wide : most_children < value_at rs 7 → 3 ≡ T
      unfolding tree_number
      tree_wide h = rw (e, lt-leb most seen m, lt-ltb most_children (value_at rs 7) h) (wide_at (ltb most_bytes next) (over_any sizes (row_values rs)) _)

      module _ (w : value_at rs 7 ≤ most_children) (n : ℕ) (is : n ≡ shape_number sizes codes next (row_values rs)) where
        pub tree_shape : (n ≡ 0 → ⊥) → n ≡ T
        unfolding tree_number
        tree_shape h =
            rw (e, lt-leb most seen m, le-ltb most_children (value_at rs 7) w)
            (shape_at (ltb most_bytes next) (over_any sizes (row_values rs)) (leb (length rules) (value_at rs 0)) (over_any codes (row_values rs)) n _ is h)

        module _ (z : n ≡ 0) where
          clear : (ltb most_bytes next ≡ false) × (over_any sizes (row_values rs) ≡ false) × (over_any codes (row_values rs) ≡ false)
          clear = fine_at_lem (ltb most_bytes next) (over_any sizes (row_values rs)) (over_any codes (row_values rs)) (sym z ∙ is)

          pub tree_kind : length rules ≤ value_at rs 0 → 4 ≡ T
          unfolding tree_number
          tree_kind h = rw (e, lt-leb most seen m, le-ltb most_children (value_at rs 7) w, clear.0, clear.1, le-leb (length rules) (value_at rs 0) h)

          module _ (h : value_at rs 0 < length rules) where
            pub tree_fit : rule_fits rules (value_at rs 0) (value_at rs 7) ≡ true → 0 ≡ T
            unfolding tree_number
            tree_fit f = rw (e, lt-leb most seen m, le-ltb most_children (value_at rs 7) w, clear.0, clear.1, lt-leb (length rules) (value_at rs 0) h, clear.2, f)

            pub tree_unfit : rule_fits rules (value_at rs 0) (value_at rs 7) ≡ false → 6 ≡ T
            unfolding tree_number
            tree_unfit f = rw (e, lt-leb most seen m, le-ltb most_children (value_at rs 7) w, clear.0, clear.1, lt-leb (length rules) (value_at rs 0) h, clear.2, f)
