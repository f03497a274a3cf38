-- `numberlines::number::longer_to` meets its contract. Each further digit goes behind those so far (`next_digit`), and is not the text's last byte.
use Prim.Native.Nat.{ℕ, ◌+◌, ◌*◌}
use mathlib.Core.Path.{◌≡◌, sym, ap, subst, ◌∙◌}
use mathlib.Core.Bool.{true}
use native.Mathlib.Omega.{arith}
use Rattle.text.specs.Write.{decimal}
use Rattle.linekinds.specs.PlainText.{DigitAt, TextAt}
use Rattle.linekinds.proofs.PlainText.{next_digit}
use Rattle.numberlines.proofs.Closed.{digit_here, digit_next, no_digit}
use Rattle.numberlines.proofs.OneNumber.{zero_alone, no_smaller, past_digit, no_number}
use Rattle.numberlines.proofs.number.longer_to.Goals as goal
use Rattle.numberlines.proofs.number.longer_to.Goals.{After-is_ascii_digit}

-- a further digit
more : (c : After-is_ascii_digit) → c.is_ascii_digit.result ≡ true → DigitAt c.args.s.now c.loop-at.p
more c t = digit_here _ _ c.loop-at.invariant.0 (sym c.is_ascii_digit.ensures.value ∙ t)

pub loop-at-init : goal.loop-at-init
loop-at-init c = (c.requires.1, c.requires.2, λ from t. t)

pub returns-then-n-eq0 : goal.returns-then-n-eq0
returns-then-n-eq0 c = λ from t m e o.
    let d = more (goal.at.returns-then-n-eq0 c).After-is_ascii_digit c.loop-at-test.true in
    let u : TextAt c.args.s.now from (decimal 0) c.loop-at.p = subst (λ (n : ℕ). TextAt c.args.s.now from (decimal n) c.loop-at.p) c.if-n-eq0.true (c.loop-at.invariant.2 from t) in
    zero_alone _ from _ m e u o.text o.small (past_digit _ from 0 _ m e _ c.requires.3 u d o)

pub overflow_mul-n : goal.overflow_mul-n
overflow_mul-n c = omega (arith, c.loop-at.invariant.1)

pub overflow_sub-s : goal.overflow_sub-s
overflow_sub-s c = omega (arith, (more (goal.at.overflow_sub-s c).After-is_ascii_digit c.loop-at-test.true).1)

pub overflow_add-n : goal.overflow_add-n
overflow_add-n c = omega (arith, (more (goal.at.overflow_add-n c).After-is_ascii_digit c.loop-at-test.true).2, c.from.ensures, c.loop-at.invariant.1)

pub returns-then-n-gt-PLAIN : goal.returns-then-n-gt-PLAIN
returns-then-n-gt-PLAIN c = λ from t m e o.
    let d = more (goal.at.returns-then-n-gt-PLAIN c).After-is_ascii_digit c.loop-at-test.true in
    let t' = c.loop-at.invariant.2 from t in
    let u = next_digit _ from c.loop-at.n _ _ t' d (λ e. omega arith) (ap (λ (x : ℕ). c.loop-at.n * 10 + x) c.from.ensures) in
    omega (arith, no_smaller _ from _ _ m e u o.text (omega (arith, past_digit _ from _ _ m e _ c.requires.3 t' d o)), o.small, c.if-n-gt-PLAIN.true)

pub overflow_add-p : goal.overflow_add-p
overflow_add-p c = omega (arith, (more (goal.at.overflow_add-p c).After-is_ascii_digit c.loop-at-test.true).0)

pub loop-at-smaller : goal.loop-at-smaller
loop-at-smaller c = omega (arith, (more (goal.at.loop-at-smaller c).After-is_ascii_digit c.loop-at-test.true).0)

pub loop-at-preserved : goal.loop-at-preserved
loop-at-preserved c =
    let d = more (goal.at.loop-at-preserved c).After-is_ascii_digit c.loop-at-test.true in
    (digit_next c.args.s.now c.loop-at.p c.requires.0 d, omega arith, λ from t. next_digit _ from c.loop-at.n _ _ (c.loop-at.invariant.2 from t) d (λ e. omega arith) (ap (λ (x : ℕ). c.loop-at.n * 10 + x) c.from.ensures))

pub bounds-s-p-2 : goal.bounds-s-p-2
bounds-s-p-2 c = omega (arith, c.loop-at.invariant.0)

pub returns-then-s-p : goal.returns-then-s-p
returns-then-s-p c = λ from t.
    no_number _ from _ _ _ c.requires.3 (c.loop-at.invariant.2 from t) (no_digit _ _ (sym c.is_ascii_digit.ensures.value ∙ c.loop-at-test.false)) c.if-s-p.true

pub returns : goal.returns
returns c = λ from t. record { text = c.loop-at.invariant.2 from t; small = c.loop-at.invariant.1; ends = (c.loop-at.invariant.0, c.if-s-p.false) }
