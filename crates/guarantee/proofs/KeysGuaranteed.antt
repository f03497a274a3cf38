-- K and I sheets that hold no placeholder: what `adjust_decision` and `inputs_decision` write is guaranteed.
--     keys_guaranteed      K sheets
--     inputs_guaranteed    I sheets
use Prim.Native.Nat.{ℕ}
use mathlib.Core.Path.{◌≡◌, refl, subst}
use mathlib.Core.Bool.{Bool, true, false, cond}
use mathlib.Core.Option.{Option, none, some}
use mathlib.Core.List.{List, [], ◌∷◌, ◌++◌}
use lib.Dec.{eqb}
use lib.ListN.{length}
use borrow.Author.Tests.{eqb-true}
use Rattle.std.proofs.lemmas.Bool.{and_parts}
use Rattle.keys.specs.Reorder.{Rule}
use Rattle.keys.specs.Expressions.{Expression, same_expr, placeholder}
use Rattle.keys.specs.Arrange.{Lacks}
use Rattle.keys.specs.Adjust.{KeySheet, Adjustment, answered, name_not_found, adjust_input_keys_ordering}
use Rattle.keys.specs.Inputs.{JoinSheet, input_keys, reorder_join_keys_to_inputs}
use Rattle.keys.specs.Kept.{LacksRules, KeyPairsKept, LacksPlaceholder, asked, InputsLackPlaceholder}
use Rattle.keys.proofs.Equalities.{same_expr_equivalence}
use Rattle.keys.proofs.TriedPairs.{lacks_placeholder}
use Rattle.keys.proofs.KeyGuarantee.{key_pairs_kept}
use Rattle.keys.proofs.InputGuarantee.{inputs_lack_placeholder, input_order_kept}
use Rattle.sheet.specs.KeySheets.{Reading, sheet, turned, key_lists_fit, read_key_sheet, read_join_sheet}
use Rattle.sheet.specs.KeyTexts.{rule_exprs}
use Rattle.sheet.specs.KeyAnswers.{wrote, adjusted, key_outcome, join_outcome, adjust_decision, inputs_decision}
use Rattle.sheet.proofs.LegalSheets.{key_read_legal, join_read_legal}
use Rattle.guarantee.specs.Conditions.{key_expressions, join_expressions, NoPlaceholder}
use Rattle.guarantee.specs.Guarantee.{Guaranteed, keys, inputs}

-- ---- no placeholder among all expressions: none in a part of them

module _ {A : Type 0} (same : A → A → Bool) (gone : A) where
  lacks_first : (xs ys : List A) → Lacks same gone (xs ++ ys) → Lacks same gone xs
  lacks_first [] ys h = tt
  lacks_first (x ∷ xs) ys h = (h.0, lacks_first xs ys h.1)

  lacks_second : (xs ys : List A) → Lacks same gone (xs ++ ys) → Lacks same gone ys
  lacks_second [] ys h = h
  lacks_second (x ∷ xs) ys h = lacks_second xs ys h.1

rules_lack : (w : List (Rule Expression)) → Lacks same_expr placeholder (rule_exprs w) → LacksRules same_expr placeholder w
rules_lack [] h = tt
rules_lack (r ∷ rs) h = (h.1.0, rules_lack rs h.1.1)

-- ---- K sheets

pub key_lacks : (x : KeySheet) → Lacks same_expr placeholder (key_expressions x) → LacksPlaceholder same_expr x.rewriting x.required
key_lacks x h =
    let l = lacks_second same_expr placeholder x.required _ h in
    let g = lacks_second same_expr placeholder x.left _ l in
    let w = lacks_second same_expr placeholder x.right _ g in
    lacks_placeholder same_expr x.rewriting x.required
    (rules_lack x.rewriting (lacks_first same_expr placeholder (rule_exprs x.rewriting) _ w))
    (lacks_first same_expr placeholder x.required _ h)

pub key_even : (s : List ℕ) (x : KeySheet) → read_key_sheet s ≡ sheet x → length x.left ≡ length x.right
unfolding key_lists_fit
key_even s x e =
    let f : key_lists_fit x ≡ true = (key_read_legal s x e).fit in
    eqb-true (length x.left) (length x.right) (and_parts (eqb (length x.left) (length x.right)) _ f).0

pub keys_guaranteed : (s a : List ℕ) → adjust_decision s ≡ wrote a → NoPlaceholder s → Guaranteed s a
unfolding adjust_decision
keys_guaranteed s a d n = reading (read_key_sheet s) refl d
  where
    answer : (x : KeySheet) → read_key_sheet s ≡ sheet x → (j : Adjustment) → adjust_input_keys_ordering same_expr x ≡ j → adjusted j ≡ wrote a → Guaranteed s a
    answer x e (answered r) i w =
        let k : KeyPairsKept same_expr x r = key_pairs_kept same_expr x r i same_expr_equivalence (key_even s x e) (key_lacks x (n.keys x e)) in
        keys x r e (cc)
        (record {
          pairs = record { tried = λ o. (k.tried o).pairs; untried = λ o. (k.untried o).pairs };
          exact = record { impossible = λ o. (k.tried o).impossible; fits = λ o. (k.tried o).fits };
        })
    answer x e name_not_found i w = absurd (cc)

    reading : (r : Reading KeySheet) → read_key_sheet s ≡ r → key_outcome r ≡ wrote a → Guaranteed s a
    reading (sheet x) e w = answer x e (adjust_input_keys_ordering same_expr x) refl w
    reading (turned m l) e w = absurd (cc)

-- ---- I sheets

asked_lacks :
    (x : JoinSheet) → Lacks same_expr placeholder (input_keys x.left_input) → Lacks same_expr placeholder (input_keys x.right_input) →
    (side : ℕ) (r : List Expression) → asked x side ≡ some r → Lacks same_expr placeholder r
asked_lacks x h k side r e = go (eqb side 1) (eqb side 2) e
  where
    held : (o : Option (List Expression)) → Lacks same_expr placeholder (input_keys o) → o ≡ some r → Lacks same_expr placeholder r
    held none p q = absurd (cc)
    held (some es) p q = let z : es ≡ r = cc in subst (Lacks same_expr placeholder) z p

    go : (a b : Bool) → cond a x.left_input (cond b x.right_input none) ≡ some r → Lacks same_expr placeholder r
    go true b q = held x.left_input h q
    go false true q = held x.right_input k q
    go false false q = absurd (cc)

pub inputs_lack : (x : JoinSheet) → Lacks same_expr placeholder (join_expressions x) → InputsLackPlaceholder same_expr x
inputs_lack x h =
    let g = lacks_second same_expr placeholder x.left _ h in
    let i = lacks_second same_expr placeholder x.right _ g in
    let n = lacks_second same_expr placeholder (input_keys x.left_input) _ i in
    let w = lacks_second same_expr placeholder (input_keys x.right_input) _ n in
    inputs_lack_placeholder same_expr x
    (rules_lack x.left_rewriting (lacks_first same_expr placeholder (rule_exprs x.left_rewriting) _ w))
    (rules_lack x.right_rewriting (lacks_second same_expr placeholder (rule_exprs x.left_rewriting) _ w))
    (asked_lacks x (lacks_first same_expr placeholder (input_keys x.left_input) _ i) (lacks_first same_expr placeholder (input_keys x.right_input) _ n))

pub inputs_guaranteed : (s a : List ℕ) → inputs_decision s ≡ wrote a → NoPlaceholder s → Guaranteed s a
unfolding inputs_decision
inputs_guaranteed s a d n = reading (read_join_sheet s) refl d
  where
    reading : (r : Reading JoinSheet) → read_join_sheet s ≡ r → join_outcome r ≡ wrote a → Guaranteed s a
    reading (sheet x) e w =
        let k = input_order_kept same_expr x (join_read_legal s x e).even (inputs_lack x (n.inputs x e)) same_expr_equivalence in
        inputs x (reorder_join_keys_to_inputs x same_expr) e (cc)
        (record {
          pairs = k.pairs;
          exact = record { untried = k.untried; impossible = k.impossible; fits = k.fits };
        })
    reading (turned m l) e w = absurd (cc)
