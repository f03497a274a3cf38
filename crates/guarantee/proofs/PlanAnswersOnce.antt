-- A D answer's bytes are the text of one answer only: a t line is known from its bytes, and a tree from its lines and their children's counts.
use Prim.Native.Nat.{ℕ}
use mathlib.Core.Path.{◌≡◌, refl, sym, ap, ◌∙◌}
use mathlib.Core.Option.{Option, some, none as absent}
use mathlib.Core.List.{List, [], ◌∷◌, ◌++◌, append_assoc, append-nil}
use native.Mathlib.Omega.{arith}
use Rattle.exchange.specs.Trees.{node, none, ◌∷ᶠ◌, trees, Operator, Plan, Plans}
use Rattle.exchange.specs.Ensure.{Answer}
use Rattle.plananswer.specs.PlanTexts.{limit_field, operator_fields, operator_line, plan_lines, plans_lines, plan_answer_text}
use Rattle.plananswer.specs.Sizes.{Everywhere, Everywheres}
use Rattle.guarantee.specs.Guarantee.{NoNeeds}
use Rattle.guarantee.proofs.LinesOnce.{PlainField, Plain, line_once, numbers_line_once}

-- ---- a t line

limit_plain : (l : Option ℕ) → PlainField (limit_field l)
limit_plain absent = tt
limit_plain (some l) = tt

fields_plain : (o : Operator) (n : ℕ) → Plain (operator_fields o n)
fields_plain o n = (tt, (tt, (tt, (tt, (limit_plain o.limit, (tt, (tt, (tt, (tt, tt)))))))))

limit_once : (k l : Option ℕ) → limit_field k ≡ limit_field l → k ≡ l
limit_once absent absent e = refl
limit_once absent (some l) e = absurd (cc)
limit_once (some k) absent e = absurd (cc)
limit_once (some k) (some l) e = let z : k ≡ l = cc in ap (λ (n : ℕ). some n) z

operator_once : (o p : Operator) (m n : ℕ) → o.need ≡ 0 → p.need ≡ 0 → operator_fields o m ≡ operator_fields p n → (o ≡ p) × (m ≡ n)
operator_once o p m n u v e =
    let id : o.id ≡ p.id = cc in
    let kind : o.kind ≡ p.kind = cc in
    let count : o.count ≡ p.count = cc in
    let keeps : o.keeps ≡ p.keeps = cc in
    let field : limit_field o.limit ≡ limit_field p.limit = cc in
    let limit : o.limit ≡ p.limit = limit_once o.limit p.limit field in
    let order : o.order ≡ p.order = cc in
    let mask : o.mask ≡ p.mask = cc in
    let tracked : o.tracked ≡ p.tracked = cc in
    let need : o.need ≡ p.need = u ∙ sym v in
    let children : m ≡ n = cc in (
      λ j. record {
        id = id j;
        kind = kind j;
        count = count j;
        keeps = keeps j;
        limit = limit j;
        order = order j;
        mask = mask j;
        tracked = tracked j;
        need = need j;
      },
      children,
    )

-- ---- a tree

abbrev Unasked : Plan → Type 0
Unasked t = Everywhere (λ o. o.need ≡ 0) t

abbrev Unaskeds : Plans → Type 0
Unaskeds ts = Everywheres (λ o. o.need ≡ 0) ts

mutual
  unfolding plan_lines

  tree_once : (t u : Plan) (xs ys : List ℕ) → Unasked t → Unasked u → plan_lines operator_line t ++ xs ≡ plan_lines operator_line u ++ ys → (t ≡ u) × (xs ≡ ys)
  tree_once (node o ts) (node p us) xs ys h k e =
      let f : operator_line o (trees ts) ++ (plans_lines operator_line ts ++ xs) ≡ operator_line p (trees us) ++ (plans_lines operator_line us ++ ys) =
      sym (append_assoc (operator_line o (trees ts)) (plans_lines operator_line ts) xs) ∙ e ∙ append_assoc (operator_line p (trees us)) (plans_lines operator_line us) ys in
      let l = line_once 116 116 (operator_fields o (trees ts)) (operator_fields p (trees us)) _ _ (fields_plain o (trees ts)) (fields_plain p (trees us)) f in
      let q = operator_once o p (trees ts) (trees us) h.0 k.0 l.fields in
      let r = trees_once ts us xs ys h.1 k.1 q.1 l.rest in
      (λ j. node (q.0 j) (r.0 j), r.1)

  trees_once : (ts us : Plans) (xs ys : List ℕ) → Unaskeds ts → Unaskeds us → trees ts ≡ trees us
      → plans_lines operator_line ts ++ xs ≡ plans_lines operator_line us ++ ys → (ts ≡ us) × (xs ≡ ys)
  trees_once none none xs ys h k n e = (refl, e)
  trees_once none (u ∷ᶠ us) xs ys h k n e = absurd (omega arith)
  trees_once (t ∷ᶠ ts) none xs ys h k n e = absurd (omega arith)
  trees_once (t ∷ᶠ ts) (u ∷ᶠ us) xs ys h k n e =
      let f : plan_lines operator_line t ++ (plans_lines operator_line ts ++ xs) ≡ plan_lines operator_line u ++ (plans_lines operator_line us ++ ys) =
      sym (append_assoc (plan_lines operator_line t) (plans_lines operator_line ts) xs) ∙ e ∙ append_assoc (plan_lines operator_line u) (plans_lines operator_line us) ys in
      let q = tree_once t u (plans_lines operator_line ts ++ xs) (plans_lines operator_line us ++ ys) h.0 k.0 f in
      let r = trees_once ts us xs ys h.1 k.1 (omega arith) q.1 in
      (λ j. q.0 j ∷ᶠ r.0 j, r.1)

pub plan_answer_once : (a b : Answer) → NoNeeds a → NoNeeds b → plan_answer_text a ≡ plan_answer_text b → a ≡ b
unfolding plan_answer_text
plan_answer_once a b h k e =
    let d = numbers_line_once 100 100 (a.changed ∷ a.window ∷ a.interleave ∷ a.tracked ∷ []) (b.changed ∷ b.window ∷ b.interleave ∷ b.tracked ∷ []) _ _ e in
    let f : plan_lines operator_line a.plan ++ [] ≡ plan_lines operator_line b.plan ++ [] = simp append-nil d.rest in
    let t = tree_once a.plan b.plan [] [] h k f in
    let heads : (a.changed ∷ a.window ∷ a.interleave ∷ a.tracked ∷ []) ≡ (b.changed ∷ b.window ∷ b.interleave ∷ b.tracked ∷ []) = d.fields in
    let changed : a.changed ≡ b.changed = cc heads in
    let window : a.window ≡ b.window = cc heads in
    let interleave : a.interleave ≡ b.interleave = cc heads in
    let tracked : a.tracked ≡ b.tracked = cc heads in
    λ j. record { changed = changed j; window = window j; interleave = interleave j; tracked = tracked j; plan = t.0 j }
