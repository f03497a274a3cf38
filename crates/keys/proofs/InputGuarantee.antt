-- Demand 3 of I sheets, the same two sentences, by the ways to the answer: no list is asked, each is impossible, or one is followed.
--     inputs_pairs_once         each pair once, its direction with it (any equality)
--     inputs_impossible_exact   impossible exactly when no arrangement fits for any list with mark 1 (any equivalence)
--     inputs_fit                else one side fits the list followed, as it comes out
use Prim.Native.Nat.{ℕ}
use mathlib.Core.Path.{◌≡◌, refl, ap, sym, ◌∙◌, subst}
use mathlib.Core.Bool.{Bool, true, false, cond, or-true}
use mathlib.Core.Option.{Option, none, some}
use mathlib.Core.List.{List, []}
use mathlib.Core.Logic.{◌↔◌}
use native.Mathlib.Omega.{arith}
use borrow.Author.Tests.{eqb-true, eqb-false}
use lib.Dec.{eqb}
use lib.ListN.{length}
use Rattle.keys.specs.Reorder.{Tried, try_reorder}
use Rattle.keys.specs.Expressions.{Expression, placeholder}
use Rattle.keys.specs.Arrange.{Equivalence, Lacks}
use Rattle.keys.specs.Inputs.{JoinSheet, JoinAnswer, as_stood, following, try_side, try_right, reorder_current_join_keys, reorder_join_keys_to_inputs, input_keys, followed_keys}
use Rattle.keys.specs.Codes.{order_tried}
use Rattle.keys.specs.Kept.{LacksRules, PairsKept, NothingFits, join_pairs, ordered_pairs, asked, asked_under, input_tried, InputsLackPlaceholder, NothingFitsInputs, FollowedFits, InputOrderKept}
use Rattle.keys.proofs.Truths.{true_false, none_some, by_test}
use Rattle.keys.proofs.TriedPairs.{lacks_placeholder, tried_kept, tried_exact, tried_fits}

-- it suffices that neither a list with mark 1 nor a rule's right side is the placeholder
pub inputs_lack_placeholder :
    (same : Expression → Expression → Bool) (s : JoinSheet) →
    LacksRules same placeholder s.left_rewriting → LacksRules same placeholder s.right_rewriting →
    ((side : ℕ) (r : List Expression) → asked s side ≡ some r → Lacks same placeholder r) → InputsLackPlaceholder same s
inputs_lack_placeholder same s h k l side r e =
    lacks_placeholder same (asked_under s side) r (by_test (LacksRules same placeholder) (eqb side 1) (λ t. h) (λ t. k)) (l side r e)

module _ (same : Expression → Expression → Bool) (s : JoinSheet) where
  -- the list r of a side, tried
  abbrev pub tried : ℕ → List Expression → Tried Expression
  tried side r = try_reorder same placeholder (asked_under s side) r s.left s.right

  -- a side whose list, if it has one, is impossible
  abbrev pub Impossible : ℕ → Type 0
  Impossible side = (r : List Expression) → asked s side ≡ some r → (tried side r).report ≡ 3

  pub data InputWay : JoinAnswer → Type 0 where
    unasked : input_tried s ≡ false → InputWay (as_stood s 0)
    all_impossible : input_tried s ≡ true → ((side : ℕ) → Impossible side) → InputWay (as_stood s 3)
    followed :
        input_tried s ≡ true → (side : ℕ) (r : List Expression) → asked s side ≡ some r → ((tried side r).report ≡ 3 → ⊥) →
        InputWay (following s side (tried side r))

  -- a side has no second list
  one_list : (side : ℕ) (r : List Expression) → asked s side ≡ some r → eqb (tried side r).report 3 ≡ true → Impossible side
  one_list side r e t q k =
      let y : some r ≡ some q = sym e ∙ k in
      let z : r ≡ q = cc in
      subst (λ (x : List Expression). (tried side x).report ≡ 3) z (eqb-true (tried side r).report 3 t)

  -- the list asked is the one handed back
  handed : (side : ℕ) (r : List Expression) → asked s side ≡ some r → followed_keys s side ≡ r
  handed side r = go (eqb side 1) (eqb side 2)
    where
      go :
          (a b : Bool) → cond a s.left_input (cond b s.right_input none) ≡ some r →
          cond a (input_keys s.left_input) (cond b (input_keys s.right_input) []) ≡ r
      go true b e = ap input_keys e
      go false true e = ap input_keys e
      go false false e = none_some refl e

  only_two : Impossible 1 → Impossible 2 → (side : ℕ) → Impossible side
  only_two f g side r = go (eqb side 1) (eqb side 2)
    where
      go :
          (a b : Bool) → cond a s.left_input (cond b s.right_input none) ≡ some r →
          (try_reorder same placeholder (cond a s.left_rewriting s.right_rewriting) r s.left s.right).report ≡ 3
      go true b e = f r e
      go false true e = g r e
      go false false e = none_some refl e

  module _ (o : order_tried s.op s.mode ≡ true) where
    -- the right side, after a left side without a list or with an impossible one
    right_way : (report : ℕ) → Impossible 1 → (s.right_input ≡ none → InputWay (as_stood s report)) → InputWay (try_right s same report)
    right_way report f rest = go s.right_input refl
      where
        go : (i : Option (List Expression)) → s.right_input ≡ i → InputWay (try_side s same 2 s.right_rewriting (as_stood s 3) (as_stood s report) i)
        go none e = rest e
        go (some r) e =
            by_test InputWay (eqb (tried 2 r).report 3)
            (λ t. all_impossible (hashed_right r e) (only_two f (one_list 2 r e t)))
            (λ t. followed (hashed_right r e) 2 r e (eqb-false _ 3 t))
          where
            hashed_right : (r : List Expression) → s.right_input ≡ some r → input_tried s ≡ true
            hashed_right r e = rw (o, e, or-true)

    left_way : InputWay (reorder_current_join_keys s same)
    left_way = go s.left_input refl
      where
        go : (i : Option (List Expression)) → s.left_input ≡ i → InputWay (try_side s same 1 s.left_rewriting (try_right s same 3) (try_right s same 0) i)
        go none e = right_way 0 (λ q k. none_some e k) (λ k. unasked (rw (o, e, k)))
        go (some r) e =
            by_test InputWay (eqb (tried 1 r).report 3)
            (λ t. right_way 3 (one_list 1 r e t) (λ k. all_impossible (rw (o, e)) (only_two (one_list 1 r e t) (λ q j. none_some k j))))
            (λ t. followed (rw (o, e)) 1 r e (eqb-false _ 3 t))

  pub input_way : InputWay (reorder_join_keys_to_inputs s same)
  unfolding reorder_join_keys_to_inputs
  input_way = by_test InputWay (order_tried s.op s.mode) left_way (λ o. unasked (rw o))

  module _ (even : length s.left ≡ length s.right) (clean : InputsLackPlaceholder same s) where
    pub inputs_pairs_once :
        PairsKept (join_pairs s) (ordered_pairs (reorder_join_keys_to_inputs s same)) (reorder_join_keys_to_inputs s same).report (reorder_join_keys_to_inputs s same).positions
    inputs_pairs_once = go (reorder_join_keys_to_inputs s same) input_way
      where
        go : (a : JoinAnswer) → InputWay a → PairsKept (join_pairs s) (ordered_pairs a) a.report a.positions
        go a (unasked u) = record { moved = λ e. absurd (omega arith); stood = λ h. (refl, refl) }
        go a (all_impossible u f) = record { moved = λ e. absurd (omega arith); stood = λ h. (refl, refl) }
        go a (followed u side r e h) = tried_kept same (asked_under s side) r (join_pairs s) even (clean side r e)

    module _ (eq : Equivalence same) where
      pub inputs_impossible_exact : input_tried s ≡ true → ((reorder_join_keys_to_inputs s same).report ≡ 3) ↔ NothingFitsInputs same s
      inputs_impossible_exact t = go (reorder_join_keys_to_inputs s same) input_way
        where
          exact : (side : ℕ) (r : List Expression) → asked s side ≡ some r → ((tried side r).report ≡ 3) ↔ NothingFits same (asked_under s side) r (join_pairs s)
          exact side r e = tried_exact same (asked_under s side) r (join_pairs s) even eq (clean side r e)

          go : (a : JoinAnswer) → InputWay a → (a.report ≡ 3) ↔ NothingFitsInputs same s
          go a (unasked u) = absurd (true_false t u)
          go a (all_impossible u f) = (λ e side r k. (exact side r k).0 (f side r k), λ n. refl)
          go a (followed u side r e h) = (λ k. absurd (h k), λ n. (exact side r e).1 (n side r e))

      pub inputs_fit : input_tried s ≡ true → ((reorder_join_keys_to_inputs s same).report ≡ 3 → ⊥) → FollowedFits same s (reorder_join_keys_to_inputs s same)
      inputs_fit t = go (reorder_join_keys_to_inputs s same) input_way
        where
          go : (a : JoinAnswer) → InputWay a → (a.report ≡ 3 → ⊥) → FollowedFits same s a
          go a (unasked u) k = absurd (true_false t u)
          go a (all_impossible u f) k = absurd (k refl)
          go a (followed u side r e h) k =
              let z : followed_keys s side ≡ r = handed side r e in
              record {
                followed = rw z e;
                fits = rw z (tried_fits same (asked_under s side) r (join_pairs s) even eq (clean side r e) h);
              }

      -- DEMAND 3 OF AN I SHEET
      pub input_order_kept : InputOrderKept same s (reorder_join_keys_to_inputs s same)
      input_order_kept = record {
        pairs = inputs_pairs_once;
        untried = untried;
        impossible = inputs_impossible_exact;
        fits = inputs_fit;
      }
        where
          untried : input_tried s ≡ false → (reorder_join_keys_to_inputs s same).report ≡ 0
          untried t = go (reorder_join_keys_to_inputs s same) input_way
            where
              go : (a : JoinAnswer) → InputWay a → a.report ≡ 0
              go a (unasked u) = refl
              go a (all_impossible u f) = absurd (true_false u t)
              go a (followed u side r e h) = absurd (true_false u t)
