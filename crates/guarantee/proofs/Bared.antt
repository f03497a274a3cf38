-- An answer as it is read from its t lines, which have no need: with 0 for every need it has the same text, and keeps what it kept.
use Prim.Native.Nat.{ℕ, suc, ◌/◌}
use mathlib.Core.Path.{◌≡◌, refl, ap, ap₂, ◌∙◌}
use mathlib.Core.Bool.{Bool, true, false, cond, ◌&&◌, ◌||◌}
use mathlib.Core.Logic.{inl, inr}
use mathlib.Core.Option.{some}
use mathlib.Core.List.{List, [], ◌∷◌, ◌++◌}
use lib.Dec.{eqb, leb}
use Rattle.exchange.specs.Trees.{node, none, ◌∷ᶠ◌, ◌++ᶠ◌, trees, Operator, Plan, Plans}
use Rattle.exchange.specs.Facts.{row_of}
use Rattle.exchange.specs.Operators.{is_single, is_keyed}
use Rattle.exchange.specs.States.{Child, need_of}
use Rattle.exchange.specs.Skeleton.{below, is_added_sort, outline, skeleton, skeletons}
use Rattle.exchange.specs.Partitioning.{is_new_keyed, beneath_sorts, beneath_first}
use Rattle.exchange.specs.Ensure.{Answer}
use Rattle.sheet.specs.KeyAnswers.{numbers_line}
use Rattle.plansheet.specs.PlanSheets.{PlanSheet}
use Rattle.plananswer.specs.PlanTexts.{operator_line, plan_lines, plans_lines, plan_answer_text}
use Rattle.plananswer.specs.Sizes.{Everywhere, Everywheres}
use Rattle.guarantee.specs.Operators.{worked, OperatorsKept}
use Rattle.guarantee.specs.Limits.{BecameCoalesce, LimitIn, LimitIns, LimitsKept}
use Rattle.guarantee.specs.Partitioning.{top_code, new_on_top, new_on_first, topmost, last_form, says, need_had, needs_had}
use Rattle.guarantee.specs.Together.{ShowSet}
use Rattle.guarantee.specs.Guarantee.{PlanKept, NoNeeds}

abbrev bare : Operator → Operator
bare o = record {
  id = o.id;
  kind = o.kind;
  count = o.count;
  keeps = o.keeps;
  limit = o.limit;
  order = o.order;
  mask = o.mask;
  tracked = o.tracked;
  need = 0;
}

abbrev mutual
  bared : Plan → Plan
  bared (node o ts) = node (bare o) (bareds ts)

  bareds : Plans → Plans
  bareds none = none
  bareds (t ∷ᶠ ts) = bared t ∷ᶠ bareds ts

below_bared : (t : Plan) → below (bared t) ≡ bareds (below t)
below_bared (node o ts) = refl

-- ---- the text

trees_bared : (ts : Plans) → trees (bareds ts) ≡ trees ts
trees_bared none = refl
trees_bared (t ∷ᶠ ts) = ap suc (trees_bared ts)

mutual
  unfolding plan_lines

  lines_bared : (t : Plan) → plan_lines operator_line (bared t) ≡ plan_lines operator_line t
  lines_bared (node o ts) = ap₂ ◌++◌ (ap (operator_line o) (trees_bared ts)) (liness_bared ts)

  liness_bared : (ts : Plans) → plans_lines operator_line (bareds ts) ≡ plans_lines operator_line ts
  liness_bared none = refl
  liness_bared (t ∷ᶠ ts) = ap₂ ◌++◌ (lines_bared t) (liness_bared ts)

-- the answer as it is read
abbrev pub shown : Answer → Answer
shown r = record { changed = r.changed; window = r.window; interleave = r.interleave; tracked = r.tracked; plan = bared r.plan }

pub shown_text : (r : Answer) → plan_answer_text (shown r) ≡ plan_answer_text r
unfolding plan_answer_text
shown_text r = ap (λ (ls : List ℕ). numbers_line 100 (r.changed ∷ r.window ∷ r.interleave ∷ r.tracked ∷ []) ++ ls) (lines_bared r.plan)

mutual
  unasked : (t : Plan) → Everywhere (λ o. o.need ≡ 0) (bared t)
  unasked (node o ts) = (refl, unaskeds ts)

  unaskeds : (ts : Plans) → Everywheres (λ o. o.need ≡ 0) (bareds ts)
  unaskeds none = tt
  unaskeds (t ∷ᶠ ts) = (unasked t, unaskeds ts)

pub shown_needs : (r : Answer) → NoNeeds (shown r)
shown_needs r = unasked r.plan

-- ---- operators

mutual
  unfolding skeleton

  skeleton_bared : (t : Plan) → skeleton (bared t) ≡ skeleton t
  skeleton_bared (node o ts) = ap (outline o) (skeletons_bared ts)

  skeletons_bared : (ts : Plans) → skeletons (bareds ts) ≡ skeletons ts
  skeletons_bared none = refl
  skeletons_bared (t ∷ᶠ ts) = ap₂ ◌++ᶠ◌ (skeleton_bared t) (skeletons_bared ts)

operators_bared : (before after : Plan) → OperatorsKept before after → OperatorsKept before (bared after)
operators_bared before (node o ts) h = record { id = h.id; kind = h.kind; under = skeletons_bared ts ∙ h.under }

-- ---- limits

module _ (o : Operator) (l : ℕ) where
  became_bared : (us : Plans) → BecameCoalesce o us → BecameCoalesce o (bareds us)
  became_bared none h = h
  became_bared (node p vs ∷ᶠ none) h = h
  became_bared (t ∷ᶠ u ∷ᶠ us) h = h

  mutual
    limit_bared : (t : Plan) → LimitIn o l t → LimitIn o l (bared t)
    limit_bared (node p us) (inl (inl h)) = inl (inl h)
    limit_bared (node p us) (inl (inr h)) = inl (inr (h.0, h.1, h.2, became_bared us h.3))
    limit_bared (node p us) (inr h) = inr (limits_bared us h)

    limits_bared : (us : Plans) → LimitIns o l us → LimitIns o l (bareds us)
    limits_bared none h = h
    limits_bared (u ∷ᶠ us) (inl h) = inl (limit_bared u h)
    limits_bared (u ∷ᶠ us) (inr h) = inr (limits_bared us h)

module _ (P Q : Operator → Type 0) (f : (o : Operator) → P o → Q o) where
  mutual
    everywhere_map : (t : Plan) → Everywhere P t → Everywhere Q t
    everywhere_map (node o ts) h = (f o h.0, everywheres_map ts h.1)

    everywheres_map : (ts : Plans) → Everywheres P ts → Everywheres Q ts
    everywheres_map none h = tt
    everywheres_map (t ∷ᶠ ts) h = (everywhere_map t h.0, everywheres_map ts h.1)

kept_bared : (before after : Plan) → LimitsKept before after → LimitsKept before (bared after)
kept_bared before after h =
    everywhere_map (λ o. (l : ℕ) → o.limit ≡ some l → LimitIn o l after) (λ o. (l : ℕ) → o.limit ≡ some l → LimitIn o l (bared after))
    (λ o k l e. limit_bared o l after (k l e)) before h

-- ---- partitioning

mutual
  unfolding new_on_top

  tops_bared : (t : Plan) → new_on_top (bared t) ≡ new_on_top t
  tops_bared (node o ts) = ap (λ (ks : List ℕ). cond (eqb o.id 0) (top_code o.kind ++ ks) []) (first_bared ts)

  first_bared : (ts : Plans) → new_on_first (bareds ts) ≡ new_on_first ts
  first_bared none = refl
  first_bared (t ∷ᶠ ts) = tops_bared t

mutual
  unfolding beneath_sorts

  beneath_bared : (t : Plan) → beneath_sorts (bared t) ≡ bare (beneath_sorts t)
  beneath_bared (node o ts) = go (is_added_sort o) (beneath_first_lem o ts)
    where
      go : (b : Bool) → beneath_first (bare o) (bareds ts) ≡ bare (beneath_first o ts) → cond b (beneath_first (bare o) (bareds ts)) (bare o) ≡ bare (cond b (beneath_first o ts) o)
      go true e = e
      go false e = refl

  beneath_first_lem : (o : Operator) (ts : Plans) → beneath_first (bare o) (bareds ts) ≡ bare (beneath_first o ts)
  beneath_first_lem o none = refl
  beneath_first_lem o (t ∷ᶠ ts) = beneath_bared t

module _ (x : PlanSheet) where
  need_bared : (c : Child) (u : Plan) → need_had x c (bared u) ≡ need_had x c u
  need_bared c u = ap₂ by (beneath_bared u) (tops_bared u)
    where
      by : Operator → List ℕ → Bool
      by o ks =
          cond (is_single (need_of c)) (leb o.count 1)
          (cond (is_keyed (need_of c)) (leb o.count 1 || (is_new_keyed o || says x c (row_of x.facts.rows c.number (record { split = (last_form x c u).split; top = topmost ks; relationship = 0 })))) true)

  needs_bared : (cs : List Child) (us : Plans) → needs_had x cs (bareds us) ≡ needs_had x cs us
  unfolding needs_had
  needs_bared [] none = refl
  needs_bared [] (u ∷ᶠ us) = refl
  needs_bared (c ∷ cs) none = refl
  needs_bared (c ∷ cs) (u ∷ᶠ us) = ap₂ ◌&&◌ (need_bared c u) (needs_bared cs us)

-- ---- together

shows_bared : (set : ℕ) (us : Plans) → ShowSet set us → ShowSet set (bareds us)
shows_bared set none h = h
shows_bared set (u ∷ᶠ us) h = (rw (tops_bared u) h.0, shows_bared (set / 2) us h.1)

-- ---- all of it

pub shown_kept : (x : PlanSheet) (r : Answer) → PlanKept x r → PlanKept x (shown r)
shown_kept x r h = record {
  operators = operators_bared (worked x) r.plan h.operators;
  limits = kept_bared x.plan r.plan h.limits;
  partitioning = rw (below_bared r.plan) (needs_bared x _ (below r.plan) ∙ h.partitioning);
  together = record {
    set = h.together.set;
    shown = rw (below_bared r.plan) (shows_bared h.together.set (below r.plan) h.together.shown);
    satisfied = h.together.satisfied;
  };
}
