-- `more_digits` meets its contract: the field that goes on at `i` after `n` is the whole one, and the byte at `i` says how.
use Prim.Native.Nat.{ℕ}
use mathlib.Core.Path.{◌≡◌, refl, ap, ◌∙◌}
use mathlib.Core.Logic.{inl, inr, ⊎_elim}
use native.Mathlib.Omega.{arith}
use lib.ListN.{get_or}
use Rattle.std.proofs.lemmas.Bool.{MatchBool-at_true, MatchBool-at_false}
use Rattle.text.specs.declared.field.Field.TheVariants.{Number as number}
use Rattle.text.specs.Read.{field_to}
use Rattle.text.proofs.Scanning.{search_past}
use Rattle.text.proofs.Digits.{going_first, going_end, Byte, byte_comma, byte_lf, byte_low, byte_high, byte_zero, byte_over, byte_digit}
use Rattle.text.proofs.field.more_digits.Goals as goal

pub loop-i-init : goal.loop-i-init
loop-i-init c = going_first _ _ _

pub returns-then-b-eq44 : goal.returns-then-b-eq44
returns-then-b-eq44 c =
    let byte : Byte c.args.s.now c.args.at c.args.begun c.loop-i.i c.loop-i.n (get_or c.args.s.now c.loop-i.i 0) = record { going = c.loop-i.invariant; inside = omega arith; is = refl } in
    elim c.then-b-eq44.either [ inl e ↦ byte_comma byte e _ refl | inr e ↦ byte_lf byte e.1 _ refl ]

pub returns-then-not-is_ascii_digit : goal.returns-then-not-is_ascii_digit
returns-then-not-is_ascii_digit c =
    let byte : Byte c.args.s.now c.args.at c.args.begun c.loop-i.i c.loop-i.n (get_or c.args.s.now c.loop-i.i 0) = record { going = c.loop-i.invariant; inside = omega arith; is = refl } in
    let cases = c.is_ascii_digit.ensures.cases in
    elim c.then-not-is_ascii_digit.either [
      | inl other ↦ ⊎_elim (λ low. byte_low byte c.if-b-eq44.false c.if-b-eq10.false low _ c.malformed_at.ensures) (λ high. byte_high byte high _ c.malformed_at.ensures) (MatchBool-at_false _ _ other cases)
      | inr e ↦ elim e [
        | inl zero ↦ let d = MatchBool-at_true _ _ zero.0 cases in byte_zero byte d.0 d.1 zero.1 _ c.malformed_at.ensures
        | inr over ↦ let d = MatchBool-at_true _ _ over.0 cases in byte_over byte d.0 d.1 (omega (arith, over.1)) (omega (arith, over.2)) _ c.malformed_at.ensures
      ]
    ]

pub returns-then-m-d : goal.returns-then-m-d
returns-then-m-d c =
    let byte : Byte c.args.s.now c.args.at c.args.begun c.loop-i.i c.loop-i.n (get_or c.args.s.now c.loop-i.i 0) = record { going = c.loop-i.invariant; inside = omega arith; is = refl } in
    let d = c.if-not-is_ascii_digit.ensures.cases in
    byte_over byte d.0 d.1 (omega arith) (omega (arith, d, c.from-d.ensures)) _ c.malformed_at-then-m-d.ensures

pub loop-i-preserved : goal.loop-i-preserved
loop-i-preserved c =
    let byte : Byte c.args.s.now c.args.at c.args.begun c.loop-i.i c.loop-i.n (get_or c.args.s.now c.loop-i.i 0) = record { going = c.loop-i.invariant; inside = omega arith; is = refl } in
    let d = c.if-not-is_ascii_digit.ensures.cases in
    byte_digit byte d.0 d.1 (omega arith) (omega (arith, d, c.from-d.ensures)) _ (omega (arith, d, c.from-d.ensures))

pub returns : goal.returns
returns c =
    let s = c.args.s.now in
    let e : c.max.result ≡ c.loop-i.i = c.max.ensures ∙ search_past s c.args.at c.loop-i.i c.loop-i.invariant.place c.loop-i-test.false c.loop-i.auto.i-end in
    going_end c.loop-i.invariant (omega arith) _ (ap (λ (i : ℕ). field_to i (number c.loop-i.n)) e)
