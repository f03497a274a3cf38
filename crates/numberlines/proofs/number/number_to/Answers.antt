-- `numberlines::number::number_to` meets its contract: a digit, and either the byte after it or what `longer_to` finds.
use Prim.Native.Nat.{◌+◌}
use mathlib.Core.Path.{◌≡◌, sym, ◌∙◌}
use mathlib.Core.Bool.{true}
use native.Mathlib.Omega.{arith}
use Rattle.text.proofs.Decimal.{decimal_some}
use Rattle.linekinds.specs.PlainText.{DigitAt}
use Rattle.linekinds.proofs.PlainText.{first_digit}
use Rattle.numberlines.proofs.Closed.{comma_next, digit_here, digit_next, no_digit}
use Rattle.numberlines.proofs.OneNumber.{number_digits}
use Rattle.numberlines.proofs.number.number_to.Goals as goal
use Rattle.numberlines.proofs.number.number_to.Goals.{After-is_ascii_digit}

-- the first digit
first : (c : After-is_ascii_digit) → c.is_ascii_digit.result ≡ true → DigitAt c.args.from.s.now (c.args.from.at + 1)
first c t = digit_here _ _ (comma_next c.args.from) (sym c.is_ascii_digit.ensures.value ∙ t)

pub overflow_add-at : goal.overflow_add-at
overflow_add-at c = omega (arith, c.args.from.here.0)

pub bounds-s-at : goal.bounds-s-at
bounds-s-at c = comma_next c.args.from

pub returns-then-not-is_ascii_digit : goal.returns-then-not-is_ascii_digit
returns-then-not-is_ascii_digit c = λ n end o.
    no_digit _ _ (sym c.is_ascii_digit.ensures.value ∙ c.if-not-is_ascii_digit.true) (number_digits _ _ n end o.text _ (omega arith) (omega (arith, o.text.place, decimal_some n)))

pub overflow_sub-s : goal.overflow_sub-s
overflow_sub-s c =
    let d = first (goal.at.overflow_sub-s c).After-is_ascii_digit c.if-not-is_ascii_digit.false in
    omega (arith, d.1)

pub bounds-s-p : goal.bounds-s-p
bounds-s-p c = digit_next _ _ c.args.from.closed (first (goal.at.bounds-s-p c).After-is_ascii_digit c.if-not-is_ascii_digit.false)

pub returns-then-s-p : goal.returns-then-s-p
returns-then-s-p c =
    let d = first (goal.at.returns-then-s-p c).After-is_ascii_digit c.if-not-is_ascii_digit.false in
    record {
      text = first_digit _ _ _ d (c.from-n.ensures);
      small = omega (arith, d.2, c.from-n.ensures);
      ends = (digit_next _ _ c.args.from.closed d, c.if-s-p.true);
    }

pub longer_to-requires : goal.longer_to-requires
longer_to-requires c =
    let d = first (goal.at.longer_to-requires c).After-is_ascii_digit c.if-not-is_ascii_digit.false in
    (c.args.from.closed, digit_next _ _ c.args.from.closed d, omega (arith, d.2, c.from-n.ensures), c.requires)

pub returns : goal.returns
returns c =
    let d = first (goal.at.returns c).After-is_ascii_digit c.if-not-is_ascii_digit.false in
    c.longer_to.ensures (c.args.from.at + 1) (first_digit _ _ _ d (c.from-n.ensures))
