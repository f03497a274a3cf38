-- The answer of a K sheet is no larger than the sheet: no longer lists (J as long as both lists of names), no larger numbers.
use mathlib.Core.Path.{◌≡◌, refl, ap, subst}
use Prim.Native.Nat.{ℕ, suc, ◌+◌, ◌-◌, ◌≤◌, ◌<◌}
use native.Mathlib.Omega.{arith}
use mathlib.Core.List.{List, [], ◌∷◌, ◌++◌, map}
use mathlib.Core.Bool.{Bool, not, ◌&&◌, ◌||◌}
use mathlib.Core.Option.{Option, none, some}
use lib.Dec.{eqb, leb}
use lib.ListN.{length, get_or, length-map, length-append}
use Rattle.keys.specs.Lists.{and_then, place_of, same_list, expected_expr_positions, permute}
use Rattle.keys.specs.Reorder.{Tried, try_reorder}
use Rattle.keys.specs.Arrange.{Below, AllBelow}
use Rattle.keys.specs.Expressions.{Expression, column, placeholder}
use Rattle.keys.specs.Adjust.{KeySheet, KeyAnswer, Projected, Adjustment, answered, name_not_found, hand_over, kept, given, passed, unchanged, cleared, onto, shifted, or_empty, shift_right_required, columns_from, name_places, placed_names, names_from, reorder_partitioned_join_keys, pushed_right, hash_join, not_regrouped, regrouped, regrouped_by, aggregate, projection, other, adjust_input_keys_ordering}
use Rattle.keys.proofs.Truths.{by_test}
use Rattle.keys.proofs.Lists.{also_below, place_below}
use Rattle.keys.proofs.Names.{columns_length}
use Rattle.sheet.specs.Sizes.{Each, Few, Within, PlacedWithin, ExprList, SizedKeySheet, SizedKeyAnswer}
use Rattle.sheet.proofs.Entries.{each_append, nothing_few}
use Rattle.sheet.proofs.TriedSizes.{Placed, positions_placed, SizedTried, placed_list, tried_sized, directions_sized}

-- ---- lists that are made

module _ (m e : ℕ) where
  onto_sized : (x : Expression) (o : Option (List Expression)) → Within m x → Each (Within m) (or_empty o) → Each (Within m) (or_empty (onto x o))
  onto_sized x none h k = tt
  onto_sized x (some es) h k = (h, k)

  shifted_each : (columns : ℕ) (es : List Expression) → Each (Within m) es → Each (Within m) (or_empty (shifted columns es))
  shifted_each columns [] h = tt
  shifted_each columns (x ∷ es) h =
      by_test (λ o. Each (Within m) (or_empty o)) (eqb x.kind 0 && leb columns x.index)
      (λ t. onto_sized (column x.name (x.index - columns)) (shifted columns es)
      (record { kind = omega arith; name = h.0.name; index = omega (arith, h.0.index) }) (shifted_each columns es h.1))
      (λ t. tt)

  onto_length : (x : Expression) (o : Option (List Expression)) → length (or_empty (onto x o)) ≤ suc (length (or_empty o))
  onto_length x none = omega arith
  onto_length x (some es) = omega arith

  shifted_length : (columns : ℕ) (es : List Expression) → length (or_empty (shifted columns es)) ≤ length es
  shifted_length columns [] = omega arith
  shifted_length columns (x ∷ es) =
      by_test (λ o. length (or_empty o) ≤ suc (length es)) (eqb x.kind 0 && leb columns x.index)
      (λ t. omega (arith, onto_length (column x.name (x.index - columns)) (shifted columns es), shifted_length columns es))
      (λ t. omega arith)

  shifted_sized : (columns : ℕ) (es : List Expression) → ExprList m e es → ExprList m e (shift_right_required columns es)
  shifted_sized columns es h = record { few = omega (arith, shifted_length columns es, h.few); each = shifted_each columns es h.each }

  -- what the children are handed
  each_mapped :
      (g : List Expression → List Expression) → ((c : List Expression) → ExprList m e c → ExprList m e (g c)) → (cs : List (List Expression)) →
      Each (ExprList m e) cs → Each (ExprList m e) (map g cs)
  each_mapped g k [] h = tt
  each_mapped g k (c ∷ cs) h = (k c h.0, each_mapped g k cs h.1)

  handed_sized :
      (n : ℕ) (f g : List Expression → List Expression) →
      ((c : List Expression) → ExprList m e c → ExprList m e (f c)) → ((c : List Expression) → ExprList m e c → ExprList m e (g c)) →
      (cs : List (List Expression)) → Few n (ExprList m e) cs → Few n (ExprList m e) (hand_over f g cs)
  handed_sized n f g hf hg [] h = h
  handed_sized n f g hf hg (c ∷ cs) h =
      record { few = omega (arith, h.few, length-map cs g); each = (hf c h.each.0, each_mapped g hg cs h.each.1) }

-- ---- the names of an aggregate

names_below : (fields ns : List ℕ) → AllBelow (length fields) (name_places fields ns)
names_below fields [] = tt
names_below fields (n ∷ ns) = go (place_of eqb n fields) (place_below eqb n fields) (names_below fields ns)
  where
    go :
        (o : Option ℕ) → ((p : ℕ) → o ≡ some p → p < length fields) → AllBelow (length fields) (name_places fields ns) →
        AllBelow (length fields) (and_then o (λ p. name_places fields ns))
    go none h k = tt
    go (some p) h k = also_below (length fields) p (name_places fields ns) (h p refl) k

module _ (m : ℕ) where
  placed_each : (n : ℕ) → n ≤ m → (ns ps : List ℕ) → Each (λ n. n ≤ m) ns → Below n ps → Each (PlacedWithin m) (placed_names ns ps)
  placed_each n h [] ps k b = tt
  placed_each n h (x ∷ ns) [] k b = tt
  placed_each n h (x ∷ ns) (p ∷ ps) k b = (record { name = k.0; place = omega (arith, b.0) }, placed_each n h ns ps k.1 b.1)

  named_each : (i : ℕ) (ns : List ℕ) → i + length ns ≤ m → Each (λ n. n ≤ m) ns → Each (PlacedWithin m) (names_from i ns)
  named_each i [] h k = tt
  named_each i (n ∷ ns) h k = (record { name = k.0; place = omega arith }, named_each (suc i) ns (omega arith) k.1)

placed_length : (ns ps : List ℕ) → length (placed_names ns ps) ≤ length ns
placed_length [] ps = omega arith
placed_length (n ∷ ns) [] = omega arith
placed_length (n ∷ ns) (p ∷ ps) = omega (arith, placed_length ns ps)

named_length : (i : ℕ) (ns : List ℕ) → length (names_from i ns) ≡ length ns
named_length i [] = refl
named_length i (n ∷ ns) = ap suc (named_length (suc i) ns)

-- ---- a K sheet's answer

abbrev SizedAdjustment : ℕ → ℕ → ℕ → Adjustment → Type 0
SizedAdjustment m e c (answered a) = SizedKeyAnswer m e c a
SizedAdjustment m e c name_not_found = Unit {0}

module _ (m e c : ℕ) (places : e + e ≤ m) (codes : 3 ≤ m) where
  module _ (same : Expression → Expression → Bool) (s : KeySheet) (h : SizedKeySheet m e c s) where
    abbrev Sized : Adjustment → Type 0
    Sized a = SizedAdjustment m e c a

    abbrev Keeps : (List Expression → List Expression) → Type 0
    Keeps f = (xs : List Expression) → ExprList m e xs → ExprList m e (f xs)

    passed_sized :
        (changed : ℕ) (r : List Expression) (f g : List Expression → List Expression) → changed ≤ 1 → ExprList m e r → Keeps f → Keeps g →
        Sized (passed s changed r f g)
    passed_sized changed r f g l hr hf hg = record {
      changed = omega arith;
      report = omega arith;
      positions = nothing_few e _;
      required = hr;
      left = h.left;
      right = h.right;
      directions = h.directions;
      projection = nothing_few (e + e) _;
      children = handed_sized m e c f g hf hg s.children h.children;
    }

    keeps : Keeps kept
    keeps xs k = k

    gives : (ys : List Expression) → ExprList m e ys → Keeps (given ys)
    gives ys k xs l = k

    unchanged_sized : Sized (unchanged s)
    unchanged_sized = passed_sized 0 s.required kept kept (omega arith) h.required keeps keeps

    cleared_sized : Sized (cleared s)
    cleared_sized = passed_sized 1 [] kept kept (omega arith) (nothing_few e _) keeps keeps

    stays_sized : Sized (not_regrouped same s)
    stays_sized = passed_sized 1 s.required kept kept (omega arith) h.required keeps keeps

    second_sized : (ys : List Expression) → ExprList m e ys → Sized (passed s 1 s.required kept (given ys))
    second_sized ys k = passed_sized 1 s.required kept (given ys) (omega arith) h.required keeps (gives ys k)

    partitioned_sized : Sized (reorder_partitioned_join_keys same s)
    partitioned_sized =
        let t : Tried Expression = try_reorder same placeholder s.rewriting s.required s.left s.right in
        let z : SizedTried m e t = tried_sized m e places codes same s.rewriting s.required s.left s.right h.required h.left h.right in
        record {
          changed = omega arith;
          report = omega (arith, z.report);
          positions = z.positions;
          required = h.required;
          left = z.left;
          right = z.right;
          directions = directions_sized m e places codes s.directions t h.directions;
          projection = nothing_few (e + e) _;
          children = handed_sized m e c (given t.left) (given t.right) (gives t.left z.left) (gives t.right z.right) s.children h.children;
        }

    pushed_sized : ExprList m e (pushed_right same s)
    pushed_sized =
        by_test (ExprList m e) (eqb s.join 0 || eqb s.join 2) (λ t. shifted_sized m e s.columns s.required h.required)
        (λ t. by_test (ExprList m e) (eqb s.join 5 || (eqb s.join 7 || eqb s.join 9)) (λ u. h.required) (λ u. nothing_few e _))

    hash_sized : Sized (hash_join same s)
    hash_sized =
        by_test Sized (eqb s.mode 0) (λ t. partitioned_sized)
        (λ t. by_test Sized (eqb s.mode 1) (λ u. second_sized (pushed_right same s) pushed_sized) (λ u. cleared_sized))

    regrouped_sized :
        (ps : List ℕ) → Placed e (some ps) → (o : Option (List ℕ)) → AllBelow (length (permute 0 s.groups ps ++ s.aggregates)) o →
        Sized (regrouped same s ps o)
    regrouped_sized ps p none b = tt
    regrouped_sized ps p (some qs) b =
        let n : ℕ = length (permute 0 s.groups ps ++ s.aggregates) in
        let long : n ≤ e + e = omega (arith, length-append (permute 0 s.groups ps) s.aggregates, length-map ps (λ p. get_or s.groups p 0), p.0, h.aggregates.few) in
        let own : List Projected = placed_names s.groups qs in
        let others : List Projected = names_from (length s.groups) s.aggregates in
        record {
          changed = omega arith;
          report = omega arith;
          positions = placed_list m e places codes ps p;
          required = nothing_few e _;
          left = h.left;
          right = h.right;
          directions = h.directions;
          projection = record {
            few = omega (arith, length-append own others, placed_length s.groups qs, named_length (length s.groups) s.aggregates, h.groups.few, h.aggregates.few);
            each = each_append (PlacedWithin m) own others (placed_each m n (omega arith) s.groups qs h.groups.each b)
                (named_each m (length s.groups) s.aggregates (omega (arith, h.groups.few, h.aggregates.few)) h.aggregates.each);
          };
          children = handed_sized m e c (given []) kept (gives [] (nothing_few e _)) keeps s.children h.children;
        }

    acting_sized : (o : Option (List ℕ)) → Placed e o → Sized (regrouped_by same s o)
    acting_sized none p = stays_sized
    acting_sized (some ps) p =
        let fields : List ℕ = permute 0 s.groups ps ++ s.aggregates in
        by_test Sized s.partial (λ t. regrouped_sized ps p (name_places fields s.groups) (names_below fields s.groups)) (λ t. stays_sized)

    aggregate_sized : Sized (aggregate same s)
    aggregate_sized =
        let columns : List Expression = columns_from 0 s.groups in
        by_test Sized (eqb (length s.required) 0) (λ t. unchanged_sized)
        (λ t. by_test Sized (eqb s.mode 0)
        (λ u. by_test Sized (eqb (length s.required) (length columns) && (s.plain && not (same_list same columns s.required)))
        (λ v. acting_sized (expected_expr_positions same placeholder columns s.required)
        (positions_placed same placeholder e columns s.required (omega (arith, columns_length 0 s.groups, h.groups.few)) h.required.few))
        (λ v. stays_sized))
        (λ u. cleared_sized))

    projection_sized : Sized (projection same s)
    projection_sized =
        by_test Sized (eqb (length s.mapped) (length s.required))
        (λ t. passed_sized 1 s.required (given s.mapped) kept (omega arith) h.required (gives s.mapped h.mapped) keeps)
        (λ t. cleared_sized)

    other_sized : Sized (other same s)
    other_sized =
        by_test Sized (eqb (length s.required) 0) (λ t. unchanged_sized)
        (λ t. passed_sized 1 s.required (given s.required) (given s.required) (omega arith) h.required (gives s.required h.required) (gives s.required h.required))

    adjusted_sized : Sized (adjust_input_keys_ordering same s)
    unfolding adjust_input_keys_ordering
    adjusted_sized =
        by_test Sized (eqb s.op 0) (λ t. hash_sized)
        (λ t. by_test Sized (eqb s.op 1) (λ u. second_sized (shift_right_required s.columns s.required) (shifted_sized m e s.columns s.required h.required))
        (λ u. by_test Sized (eqb s.op 2) (λ v. partitioned_sized)
        (λ v. by_test Sized (eqb s.op 3) (λ w. aggregate_sized)
        (λ w. by_test Sized (eqb s.op 4) (λ x. projection_sized)
        (λ x. by_test Sized (eqb s.op 5) (λ y. cleared_sized) (λ y. other_sized))))))

    pub key_answer_sized : (a : KeyAnswer) → adjust_input_keys_ordering same s ≡ answered a → SizedKeyAnswer m e c a
    key_answer_sized a k = subst Sized k adjusted_sized
