-- Refusal 10 needs a placeholder: where the required list lacks it, every group name stands among the moved names.
use Prim.Native.Nat.{ℕ, ◌≤◌}
use mathlib.Core.Path.{◌≡◌, refl, ap, sym}
use mathlib.Core.Bool.{Bool}
use mathlib.Core.Option.{Option, none, some}
use mathlib.Core.List.{List, [], ◌∷◌, ◌++◌}
use native.Mathlib.Omega.{arith}
use borrow.Author.Tests.{eq-eqb}
use lib.Dec.{eqb}
use lib.ListN.{length}
use Rattle.keys.specs.Lists.{place_of, and_then, permute}
use Rattle.keys.specs.Expressions.{Expression, placeholder}
use Rattle.keys.specs.Adjust.{KeySheet, KeyAnswer, Adjustment, answered, name_not_found, columns_from, name_places, regrouped, adjust_input_keys_ordering}
use Rattle.keys.specs.Arrange.{Arrangement, Lacks}
use Rattle.keys.proofs.Truths.{none_some, also_none}
use Rattle.keys.proofs.Sums.{one}
use Rattle.keys.proofs.Counts.{occ, occ_none, occ_append, occ_arranged}
use Rattle.keys.proofs.Names.{columns_length}
use Rattle.keys.proofs.Exact.{positions_fit}
use Rattle.keys.proofs.KeyWays.{KeyWay, passing, joining, regrouping, key_way}

-- names that all stand among the fields have places there
places_found : (fields names : List ℕ) → ((y : ℕ) → occ eqb y names ≤ occ eqb y fields) → name_places fields names ≡ none → ⊥
places_found fields [] h e = none_some e refl
places_found fields (n ∷ ns) h e = go (place_of eqb n fields) refl (places_found fields ns (λ y. omega (arith, h y))) e
  where
    go : (o : Option ℕ) → place_of eqb n fields ≡ o → (name_places fields ns ≡ none → ⊥) → and_then o (λ p. name_places fields ns) ≡ none → ⊥
    go none q i f =
        let a : occ eqb n fields ≡ 0 = occ_none eqb n fields q in
        let b : one (eqb n n) ≡ 1 = ap one (eq-eqb n n refl) in
        omega (arith, h n)
    go (some p) q i f = i (also_none p (name_places fields ns) f)

arranged_names : (groups aggregates ps : List ℕ) → Arrangement (length groups) ps → name_places (permute 0 groups ps ++ aggregates) groups ≡ none → ⊥
arranged_names groups aggregates ps a =
    places_found (permute 0 groups ps ++ aggregates) groups
    (λ y. omega (arith, occ_append eqb y (permute 0 groups ps) aggregates, occ_arranged eqb y groups 0 ps a))

module _ (same : Expression → Expression → Bool) (s : KeySheet) where
  pub names_found : Lacks same placeholder s.required → adjust_input_keys_ordering same s ≡ name_not_found → ⊥
  names_found clean e = go (adjust_input_keys_ordering same s) (key_way same s) e
    where
      clash : {a : KeyAnswer} → answered a ≡ name_not_found → ⊥
      clash e = cc

      named : (ps : List ℕ) (o : Option (List ℕ)) → (o ≡ none → ⊥) → regrouped same s ps o ≡ name_not_found → ⊥
      named ps none h e = h refl
      named ps (some qs) h e = clash e

      go : (x : Adjustment) → KeyWay same s x → x ≡ name_not_found → ⊥
      go x (passing u) e = clash e
      go x (joining u) e = clash e
      go x (regrouping u op n ps p) e =
          named ps (name_places (permute 0 s.groups ps ++ s.aggregates) s.groups)
          (arranged_names s.groups s.aggregates ps
          (rw (columns_length 0 s.groups) at
          (positions_fit same placeholder (columns_from 0 s.groups) s.required ps (sym n) clean p).arrangement)) e

  -- A SHEET WHOSE REQUIRED LIST LACKS THE PLACEHOLDER IS ANSWERED
  pub key_answered : Lacks same placeholder s.required → (a : KeyAnswer) × (adjust_input_keys_ordering same s ≡ answered a)
  key_answered clean = go (adjust_input_keys_ordering same s) refl
    where
      go : (x : Adjustment) → adjust_input_keys_ordering same s ≡ x → (a : KeyAnswer) × (adjust_input_keys_ordering same s ≡ answered a)
      go (answered a) e = (a, e)
      go name_not_found e = absurd (names_found clean e)
