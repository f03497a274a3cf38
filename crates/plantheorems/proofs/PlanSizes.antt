-- What was read is within the sizes: numbers up to 65535, limits up to 4294967295, eight children, 256 lines.
-- Assumes nothing.
use mathlib.Core.Path.{◌≡◌, sym, ap, subst, ◌∙◌}
use Prim.Native.Nat.{ℕ, zero, suc, ◌+◌, ◌≤◌}
use native.Mathlib.Omega.{arith}
use mathlib.Core.List.{List}
use mathlib.Core.Option.{Option, none, some}
use Rattle.exchange.specs.Trees.{node, none as nothing, ◌∷ᶠ◌, trees, Operator, Plan, Plans}
use Rattle.exchange.specs.Facts.{ChildFacts, Row}
use Rattle.exchange.specs.Sizes.{lines}
use Rattle.exchange.specs.Partitioning.{worked_of}
use Rattle.sheet.specs.KeySheets.{sheet}
use Rattle.sheet.specs.Sizes.{Each}
use Rattle.sheet.proofs.Entries.{each_weaker}
use Rattle.plansheet.specs.PlanLines.{two_to}
use Rattle.plansheet.specs.PlanSheets.{PlanSheet, read_plan}
use Rattle.plantheorems.specs.Everywhere.{Every, Everys, ids, idss, places_from}
use Rattle.plantheorems.specs.LegalPlans.{LongLimit, LegalOperator, LegalChild, LegalRow, LegalPlan}
use Rattle.plananswer.specs.Sizes.{Everywhere, Everywheres, LimitWithin, OperatorWithin, RowWithin, SizedFacts}
use Rattle.plantheorems.specs.PlanSizes.{SizedPlan}
use Rattle.plantheorems.proofs.TreeRows.{each_first, each_last, every_weaker, every_gives, every_worked_on, root_children}
use Rattle.plantheorems.proofs.TreeLines.{suits_few}
use Rattle.plantheorems.proofs.TreeLaw.{worked_same}
use Rattle.plantheorems.proofs.PlanRoundTrip.{plan_read_legal}

-- ---- ids

module _ (P : ℕ → Type 0) where
  mutual
    unfolding ids

    pub every_id : (t : Plan) → Each P (ids t) → Every (λ o n. P o.id) t
    every_id (node o ts) h = (h.0, every_ids ts h.1)

    every_ids : (ts : Plans) → Each P (idss ts) → Everys (λ o n. P o.id) ts
    every_ids nothing h = tt
    every_ids (t ∷ᶠ ts) h = (every_id t (each_first P (ids t) (idss ts) h), every_ids ts (each_last P (ids t) (idss ts) h))

places_small : (m n k : ℕ) → n + k ≤ suc m → Each (λ i. i ≤ m) (places_from n k)
unfolding places_from
places_small m n zero h = tt
places_small m n (suc k) h = (omega arith, places_small m (suc n) k (omega arith))

module _ (P Q : Operator → ℕ → Type 0) where
  mutual
    every_both : (t : Plan) → Every P t → Every Q t → Every (λ o n. P o n × Q o n) t
    every_both (node o ts) h k = ((h.0, k.0), every_boths ts h.1 k.1)

    every_boths : (ts : Plans) → Everys P ts → Everys Q ts → Everys (λ o n. P o n × Q o n) ts
    every_boths nothing h k = tt
    every_boths (t ∷ᶠ ts) h k = (every_both t h.0 k.0, every_boths ts h.1 k.1)

-- ---- operators and rows

limit_within_lem : (l : Option ℕ) → LongLimit l → LimitWithin 4294967295 l
limit_within_lem none h = tt
limit_within_lem (some n) h = h

operator_within : (o : Operator) (n : ℕ) → (o.id ≤ 256) × LegalOperator o n → OperatorWithin 65535 4294967295 o
operator_within o n p =
    let i = p.0 in
    let l = p.1 in
    record {
      id = omega arith;
      kind = omega (arith, l.kind);
      count = l.count;
      keeps = omega (arith, l.keeps);
      limit = limit_within_lem o.limit l.limit;
      order = l.order;
      mask = omega (arith, l.mask);
      tracked = omega (arith, l.tracked);
    }

row_within : (x : Row) → LegalRow x → RowWithin 65535 x
row_within x l = record { count = l.count; order = l.order }

-- ---- a sheet

pub legal_sizes : (x : PlanSheet) → LegalPlan x → SizedPlan 65535 4294967295 x
legal_sizes x l =
    let t : Plan = x.plan in
    let eight : Every (λ o n. n ≤ 8) t = every_weaker LegalOperator (λ o n. n ≤ 8) (λ o n h. suits_few o.kind n h.children) t l.operators in
    let places : Each (λ i. i ≤ 256) (places_from 1 (lines t)) = places_small 256 1 (lines t) (omega (arith, l.few)) in
    let small : Every (λ o n. o.id ≤ 256) t = every_id (λ i. i ≤ 256) t (subst (Each (λ i. i ≤ 256)) (sym l.numbered) places) in
    record {
      lines = l.few;
      operators =
          every_gives (λ o n. (o.id ≤ 256) × LegalOperator o n) (Everywhere (OperatorWithin 65535 4294967295)) (Everywheres (OperatorWithin 65535 4294967295))
          (λ o ts p below. (operator_within o (trees ts) p, below)) tt (λ u us p q. (p, q)) t (every_both (λ o n. o.id ≤ 256) LegalOperator t small l.operators);
      children = eight;
      few = root_children (λ n. n ≤ 8) (worked_of t) (every_worked_on (λ o n. n ≤ 8) (λ m o n h. h) t eight);
      counted = l.facts.counted ∙ sym (worked_same t);
      entries = each_weaker LegalChild (λ (f : ChildFacts). f.entries ≤ 8) (λ f h. h.entries) x.facts.children l.facts.children;
      rows = each_weaker LegalRow (RowWithin 65535) row_within x.facts.rows l.facts.rows;
      sets = l.facts.sets ∙ ap two_to (sym (worked_same t));
      masks = l.facts.masks;
    }

pub read_sizes : (s : List ℕ) (x : PlanSheet) → read_plan s ≡ sheet x → SizedPlan 65535 4294967295 x
read_sizes s x e = legal_sizes x (plan_read_legal s x e)

-- what of a sheet comes into its answer
pub sized_facts : (x : PlanSheet) → SizedPlan 65535 4294967295 x → SizedFacts 65535 4294967295 x.facts x.plan
sized_facts x z = record { plan = z.operators; rows = z.rows; children = z.entries }
