-- Demand 3 of K sheets, "Its join pairs come out each exactly once .." and "Where a join's order is tried .."; and planning twice.
--     pairs_stand        no order is tried: the pairs stand as they stood
--     pairs_once         an order is tried, no placeholder required: each pair once, its direction with it (any equality)
--     impossible_exact   impossible exactly when no arrangement fits a side (any equivalence)
--     side_fits          else one side fits as it comes out
--     planned_twice      the answer's pairs, put on the sheet again, are met, or impossible as before, and stay
--     key_pairs_kept     the first four, of any K sheet
use mathlib.Core.Path.{◌≡◌, refl, ap, sym, ◌∙◌, subst}
use mathlib.Core.Bool.{Bool, true, false, cond}
use mathlib.Core.Option.{Option, none, some}
use mathlib.Core.List.{List, [], ◌++◌}
use mathlib.Core.Logic.{◌↔◌, inl, inr}
use Prim.Native.Nat.{ℕ}
use lib.Dec.{eqb}
use lib.ListN.{length}
use Rattle.keys.specs.Lists.{permute}
use Rattle.keys.specs.Reorder.{Tried, try_reorder}
use Rattle.keys.specs.Expressions.{Expression, placeholder}
use Rattle.keys.specs.Arrange.{Equivalence}
use Rattle.keys.specs.Adjust.{KeySheet, KeyAnswer, Adjustment, answered, moved_directions, directions_of, passed_on, joined_by, name_places, regrouped, adjust_input_keys_ordering}
use Rattle.keys.specs.Codes.{order_tried}
use Rattle.keys.specs.Kept.{PairsKept, LacksPlaceholder, NothingFits, ComesOutFitting, sheet_pairs, answer_pairs, PairsStand, KeyPairsKept, replanned, confirmed}
use Rattle.keys.proofs.Truths.{true_false}
use Rattle.keys.proofs.Again.{settled, again}
use Rattle.keys.proofs.TriedPairs.{tried_kept, tried_exact, tried_fits}
use Rattle.keys.proofs.KeyWays.{KeyWay, passing, joining, regrouping, key_way}

settled_directions : (d : List ℕ) (t : Tried Expression) → directions_of d (settled t) ≡ d
settled_directions d t = go (eqb t.report 3)
  where
    go : (b : Bool) → cond (eqb (cond b 3 1) 2) (moved_directions d []) d ≡ d
    go true = refl
    go false = refl

module _ (same : Expression → Expression → Bool) where
  abbrev joined : KeySheet → KeyAnswer
  joined s = joined_by s (try_reorder same placeholder s.rewriting s.required s.left s.right)

  joins : (s : KeySheet) → order_tried s.op s.mode ≡ true → adjust_input_keys_ordering same s ≡ answered (joined s)
  joins s o = go (adjust_input_keys_ordering same s) (key_way same s)
    where
      go : (x : Adjustment) → KeyWay same s x → x ≡ answered (joined s)
      go x (passing u) = absurd (true_false o u)
      go x (joining u) = refl
      go x (regrouping u op n ps p) = absurd (true_false o u)

  module _ (s : KeySheet) (a : KeyAnswer) (e : adjust_input_keys_ordering same s ≡ answered a) where
    pub pairs_stand : order_tried s.op s.mode ≡ false → PairsStand s a
    pairs_stand o = go (adjust_input_keys_ordering same s) (key_way same s) e
      where
        for : (b : KeyAnswer) → PairsStand s b → answered b ≡ answered a → PairsStand s a
        for b p e = let z : b ≡ a = cc in subst (PairsStand s) z p

        moved : (ps : List ℕ) (q : Option (List ℕ)) → s.op ≡ 3 → regrouped same s ps q ≡ answered a → PairsStand s a
        moved ps none op e = absurd (cc)
        moved ps (some qs) op e = for _ (record { pairs = refl; report = inr (refl, op) }) e

        go : (x : Adjustment) → KeyWay same s x → x ≡ answered a → PairsStand s a
        go x (passing {changed} {required} {children} u) e = for (passed_on s changed required children) (record { pairs = refl; report = inl refl }) e
        go x (joining u) e = absurd (true_false u o)
        go x (regrouping u op n ps p) e = moved ps (name_places (permute 0 s.groups ps ++ s.aggregates) s.groups) op e

    module _ (o : order_tried s.op s.mode ≡ true) where
      -- what holds of a join's answer
      by_join : (P : KeyAnswer → Type 0) → P (joined s) → P a
      by_join P p = let d : answered (joined s) ≡ answered a = sym (joins s o) ∙ e in let z : joined s ≡ a = cc in subst P z p

      module _ (even : length s.left ≡ length s.right) (clean : LacksPlaceholder same s.rewriting s.required) where
        pub pairs_once : PairsKept (sheet_pairs s) (answer_pairs a) a.report a.positions
        pairs_once =
            by_join (λ b. PairsKept (sheet_pairs s) (answer_pairs b) b.report b.positions)
            (tried_kept same s.rewriting s.required (sheet_pairs s) even clean)

        module _ (eq : Equivalence same) where
          pub impossible_exact : (a.report ≡ 3) ↔ NothingFits same s.rewriting s.required (sheet_pairs s)
          impossible_exact =
              by_join (λ b. (b.report ≡ 3) ↔ NothingFits same s.rewriting s.required (sheet_pairs s))
              (tried_exact same s.rewriting s.required (sheet_pairs s) even eq clean)

          pub side_fits :
              (a.report ≡ 3 → ⊥) →
              ComesOutFitting same s.rewriting s.required (sheet_pairs s) (answer_pairs a) a.report a.positions
          side_fits =
              by_join (λ b. (b.report ≡ 3 → ⊥) → ComesOutFitting same s.rewriting s.required (sheet_pairs s) (answer_pairs b) b.report b.positions)
              (tried_fits same s.rewriting s.required (sheet_pairs s) even eq clean)

          pub planned_twice : adjust_input_keys_ordering same (replanned s a) ≡ answered (confirmed a)
          planned_twice =
              by_join (λ b. adjust_input_keys_ordering same (replanned s b) ≡ answered (confirmed b))
              (joins s' o ∙ ap (λ (b : KeyAnswer). answered b) second)
            where
              s' : KeySheet
              s' = replanned s (joined s)

              t : Tried Expression
              t = try_reorder same placeholder s.rewriting s.required s.left s.right

              second : joined s' ≡ confirmed (joined s)
              second =
                  ap (joined_by s') (again same placeholder s.rewriting eq s.required s.left s.right even clean.raw clean.rewritten t refl)
                  ∙ rw (settled_directions (directions_of s.directions t) t)

    -- DEMAND 3 OF A K SHEET
    pub key_pairs_kept :
        Equivalence same → length s.left ≡ length s.right → LacksPlaceholder same s.rewriting s.required → KeyPairsKept same s a
    key_pairs_kept eq even clean = record {
      tried = λ o. record { pairs = pairs_once o even clean; impossible = impossible_exact o even clean eq; fits = side_fits o even clean eq };
      untried = pairs_stand;
    }
