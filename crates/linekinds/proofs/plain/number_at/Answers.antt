-- `linekinds::plain::number_at` meets its contract. The digits so far are those of n, and each further one goes behind them (`next_digit`).
use Prim.Native.Nat.{ℕ, ◌+◌, ◌*◌}
use mathlib.Core.Path.{ap}
use native.Mathlib.Omega.{arith}
use Rattle.linekinds.specs.PlainText.{DigitAt}
use Rattle.linekinds.proofs.PlainText.{first_digit, next_digit}
use Rattle.linekinds.proofs.plain.number_at.Goals as goal

pub returns-then-not-digit_at : goal.returns-then-not-digit_at
returns-then-not-digit_at c = tt

pub bounds-s-at : goal.bounds-s-at
bounds-s-at c =
    let first : DigitAt c.args.s.now c.args.at = c.digit_at.ensures.0 c.if-not-digit_at.false in
    omega (arith, (first).0)

pub overflow_sub-s : goal.overflow_sub-s
overflow_sub-s c =
    let first : DigitAt c.args.s.now c.args.at = c.digit_at.ensures.0 c.if-not-digit_at.false in
    omega (arith, (first).1)

pub overflow_add-p : goal.overflow_add-p
overflow_add-p c =
    let first : DigitAt c.args.s.now c.args.at = c.digit_at.ensures.0 c.if-not-digit_at.false in
    omega (arith, (first).0)

pub loop-at-init : goal.loop-at-init
loop-at-init c =
    let first : DigitAt c.args.s.now c.args.at = c.digit_at.ensures.0 c.if-not-digit_at.false in
    let f = first in
    (first_digit _ _ _ f (c.from-n.ensures), omega (arith, f.2, c.from-n.ensures))

pub returns-then-n-eq0 : goal.returns-then-n-eq0
returns-then-n-eq0 c = tt

pub overflow_mul-n : goal.overflow_mul-n
overflow_mul-n c = omega (arith, c.loop-at.invariant.1)

pub bounds-s-p : goal.bounds-s-p
bounds-s-p c =
    let second : DigitAt c.args.s.now c.loop-at.p = c.digit_at-in-loop-at.ensures.0 c.loop-at-test.true in
    omega (arith, (second).0)

pub overflow_sub-s-in-loop-at : goal.overflow_sub-s-in-loop-at
overflow_sub-s-in-loop-at c =
    let second : DigitAt c.args.s.now c.loop-at.p = c.digit_at-in-loop-at.ensures.0 c.loop-at-test.true in
    omega (arith, (second).1)

pub overflow_add-n : goal.overflow_add-n
overflow_add-n c =
    let second : DigitAt c.args.s.now c.loop-at.p = c.digit_at-in-loop-at.ensures.0 c.loop-at-test.true in
    omega (arith, (second).2, c.from.ensures, c.loop-at.invariant.1)

pub returns-then-n-gt-PLAIN : goal.returns-then-n-gt-PLAIN
returns-then-n-gt-PLAIN c = tt

pub overflow_add-p-in-loop-at : goal.overflow_add-p-in-loop-at
overflow_add-p-in-loop-at c =
    let second : DigitAt c.args.s.now c.loop-at.p = c.digit_at-in-loop-at.ensures.0 c.loop-at-test.true in
    omega (arith, (second).0)

pub loop-at-smaller : goal.loop-at-smaller
loop-at-smaller c =
    let second : DigitAt c.args.s.now c.loop-at.p = c.digit_at-in-loop-at.ensures.0 c.loop-at-test.true in
    omega (arith, (second).0)

pub loop-at-preserved : goal.loop-at-preserved
loop-at-preserved c =
    let second : DigitAt c.args.s.now c.loop-at.p = c.digit_at-in-loop-at.ensures.0 c.loop-at-test.true in
    (next_digit _ _ c.loop-at.n _ _ c.loop-at.invariant.0 (second) (λ e. omega arith) (ap (λ (x : ℕ). c.loop-at.n * 10 + x) c.from.ensures), omega arith)

pub returns : goal.returns
returns c = c.loop-at.invariant
