-- `field_at` meets its contract: the first byte says what the field is.
use mathlib.Core.Path.{refl}
use mathlib.Core.Logic.{⊎_elim}
use native.Mathlib.Omega.{arith}
use lib.ListN.{get_or}
use Rattle.text.proofs.Digits.{begin_end, Lead, lead_comma, lead_lf, lead_low, lead_high, lead_digit}
use Rattle.text.proofs.field.field_at.Goals as goal
use Rattle.text.proofs.field.field_at.Goals.{then-s-at-via-then-s-at, then-s-at-via-else-s-at+then-s-at-eq44, then-s-at-via-else-s-at+else-s-at-eq44+then-s-at-eq10}

pub returns-then-s-at : goal.returns-then-s-at
returns-then-s-at c =
    elim c.then-s-at.branch [
      | then-s-at-via-then-s-at w ↦ begin_end c.args.s.now c.args.at (omega arith) _ refl
      | then-s-at-via-else-s-at+then-s-at-eq44 w ↦ lead_comma (record { inside = omega arith; is = refl }) w.if-s-at-eq44.true _ refl
      | then-s-at-via-else-s-at+else-s-at-eq44+then-s-at-eq10 w ↦ lead_lf (record { inside = omega arith; is = refl }) w.if-s-at-eq10.true _ refl
    ]

pub returns-then-not-is_ascii_digit : goal.returns-then-not-is_ascii_digit
returns-then-not-is_ascii_digit c =
    let lead : Lead c.args.s.now c.args.at (get_or c.args.s.now c.args.at 0) = record { inside = omega arith; is = refl } in
    ⊎_elim (λ low. lead_low lead c.if-s-at-eq44.false c.if-s-at-eq10.false low _ c.malformed_at.ensures) (λ high. lead_high lead high _ c.malformed_at.ensures) c.if-not-is_ascii_digit.ensures.cases

pub returns : goal.returns
returns c =
    let lead : Lead c.args.s.now c.args.at (get_or c.args.s.now c.args.at 0) = record { inside = omega arith; is = refl } in
    let d = c.if-not-is_ascii_digit.ensures.cases in
    lead_digit lead d.0 d.1 _ _ c.from.ensures c.more_digits.ensures
