-- How long a D answer can be, by the digits of its numbers and of its limits, and by its lines.
-- Assumes nothing.
use mathlib.Core.Path.{◌≡◌}
use mathlib.Core.Option.{Option, some, none as absent}
use Prim.Native.Nat.{ℕ, suc, ◌+◌, ◌*◌, ◌^◌, ◌≤◌, ◌<◌}
use native.Mathlib.Nat.{suc-mul, add-mul}
use native.Mathlib.Omega.{arith}
use lib.ListN.{length, length-append}
use Rattle.text.specs.Write.{decimal, field_text}
use Rattle.text.proofs.Decimal.{decimal_below}
use Rattle.exchange.specs.Trees.{node, none, ◌∷ᶠ◌, trees, Operator, Plan, Plans}
use Rattle.exchange.specs.Sizes.{lines, liness}
use Rattle.exchange.specs.Ensure.{Answer}
use Rattle.plananswer.specs.PlanTexts.{limit_field, operator_line, plan_lines, plans_lines, plan_answer_text}
use Rattle.plananswer.specs.RowTexts.{head_line}
use Rattle.plananswer.specs.Sizes.{Everywhere, Everywheres, LimitWithin, OperatorWithin, SizedAnswer, operator_most, plan_answer_most}
use Rattle.plananswer.proofs.RowLines.{operator_long, head_long}

mutual
  unfolding lines

  some_lines : (t : Plan) → 1 ≤ lines t
  some_lines (node o ts) = omega arith

  -- as many trees as lines, at most
  trees_lines : (ts : Plans) → trees ts ≤ liness ts
  trees_lines none = omega arith
  trees_lines (t ∷ᶠ ts) = omega (arith, some_lines t, trees_lines ts)

-- numbers up to m have at most d + 1 digits, limits up to l at most e + 1
module _ (m d l e : ℕ) (digits : m < 10 ^ suc d) (places : l < 10 ^ suc e) where
  abbrev most : ℕ
  most = operator_most (suc d + 1) (suc e + 1)

  short : (n : ℕ) → n ≤ m → length (decimal n) ≤ suc d
  short n h = decimal_below d n (omega arith)

  limit_short : (x : Option ℕ) → LimitWithin l x → length (field_text (limit_field x)) ≤ suc e
  unfolding field_text
  limit_short absent h = omega arith
  limit_short (some x) h = decimal_below e x (omega arith)

  operator_most_lem : (o : Operator) (children : ℕ) → OperatorWithin m l o → children ≤ m → length (operator_line o children) ≤ most
  operator_most_lem o children h c =
      omega (
        arith,
        operator_long o children,
        short o.id h.id,
        short o.kind h.kind,
        short o.count h.count,
        short o.keeps h.keeps,
        limit_short o.limit h.limit,
        short o.order h.order,
        short o.mask h.mask,
        short o.tracked h.tracked,
        short children c,
      )

  mutual
    unfolding lines plan_lines

    plan_most : (t : Plan) → Everywhere (OperatorWithin m l) t → lines t ≤ m → length (plan_lines operator_line t) ≤ lines t * most
    plan_most (node o ts) h n =
        let p : suc (liness ts) * most ≡ liness ts * most + most = suc-mul (liness ts) most in
        let q : length (plans_lines operator_line ts) ≤ liness ts * most = plans_most ts h.1 (omega arith) in
        let r : length (operator_line o (trees ts)) ≤ most = operator_most_lem o (trees ts) h.0 (omega (arith, trees_lines ts)) in
        omega (arith, length-append (operator_line o (trees ts)) (plans_lines operator_line ts))

    plans_most : (ts : Plans) → Everywheres (OperatorWithin m l) ts → liness ts ≤ m → length (plans_lines operator_line ts) ≤ liness ts * most
    plans_most none h n = omega arith
    plans_most (t ∷ᶠ ts) h n =
        let p : (lines t + liness ts) * most ≡ lines t * most + liness ts * most = add-mul (lines t) (liness ts) most in
        let q : length (plan_lines operator_line t) ≤ lines t * most = plan_most t h.0 (omega arith) in
        let r : length (plans_lines operator_line ts) ≤ liness ts * most = plans_most ts h.1 (omega arith) in
        omega (arith, length-append (plan_lines operator_line t) (plans_lines operator_line ts))

  pub plan_answer_long : (a : Answer) → SizedAnswer m l a → lines a.plan ≤ m → length (plan_answer_text a) ≤ plan_answer_most (suc d + 1) (suc e + 1) (lines a.plan)
  unfolding plan_answer_text head_line
  plan_answer_long a h n =
      omega (
        arith,
        length-append (head_line a.changed a.window a.interleave a.tracked) (plan_lines operator_line a.plan),
        head_long a.changed a.window a.interleave a.tracked,
        short a.changed h.changed,
        short a.window h.window,
        short a.interleave h.interleave,
        short a.tracked h.tracked,
        plan_most a.plan h.plan n,
      )
