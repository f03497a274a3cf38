-- `fields_at` meets its contract: what the fields from `i` on give, after those stored and counted, is what all of them give.
use mathlib.Core.Path.{refl, sym, ap, ◌∙◌}
use lib.ListN.{get_or}
use Prim.Native.Nat.{max}
use native.Mathlib.Omega.{arith}
use Rattle.text.proofs.Scanning.{goes_on}
use Rattle.text.proofs.FieldsTurn.{head_first, head_last, head_more, head_digit, found_ge, room'}
use Rattle.text.proofs.line.fields_at.Goals as goal

pub loop-d-init : goal.loop-d-init
loop-d-init c = head_first _ _ _

pub bounds-s-i : goal.bounds-s-i
bounds-s-i c = omega (arith, c.digit_and_comma.ensures.0 c.if-digit_and_comma.true)

pub overflow_sub-s : goal.overflow_sub-s
overflow_sub-s c = omega (arith, c.digit_and_comma.ensures.0 c.if-digit_and_comma.true)

pub overflow_add-i : goal.overflow_add-i
overflow_add-i c = omega (arith, c.digit_and_comma.ensures.0 c.if-digit_and_comma.true)

pub loop-d-smaller-then-digit_and_comma : goal.loop-d-smaller-then-digit_and_comma
loop-d-smaller-then-digit_and_comma c = omega (arith, c.digit_and_comma.ensures.0 c.if-digit_and_comma.true)

pub loop-d-preserved-then-digit_and_comma : goal.loop-d-preserved-then-digit_and_comma
loop-d-preserved-then-digit_and_comma c = head_digit _ _ (c.digit_and_comma.ensures.0 c.if-digit_and_comma.true) (get_or c.args.s.now c.loop-d.i 0) refl _ _ _ _ _ _ c.loop-d.invariant _ (rw c.from-d.ensures at c.store_row.ensures) _ (rw c.from-d.ensures at c.max-largest.ensures)

pub shape_of-out-then-line_ended : goal.shape_of-out-then-line_ended
shape_of-out-then-line_ended c = room' _ _ _ _ _ _ _ _ c.loop-d.invariant _ c.field_at-f.ensures _ c.store_row-in-loop-d.ensures _ (c.max-worst.ensures ∙ ap (max c.loop-d.worst) c.state.ensures) _ (c.max-largest-in-loop-d.ensures ∙ ap (max c.loop-d.largest) c.value.ensures)

pub returns-then-line_ended : goal.returns-then-line_ended
returns-then-line_ended c = let both = head_last _ _ _ _ _ _ _ _ c.loop-d.invariant _ c.field_at-f.ensures _ c.store_row-in-loop-d.ensures _ (c.max-worst.ensures ∙ ap (max c.loop-d.worst) c.state.ensures) _ (c.max-largest-in-loop-d.ensures ∙ ap (max c.loop-d.largest) c.value.ensures) (sym c.line_ended.ensures ∙ c.if-line_ended.true) in record { counted = both.0; stored = both.1 }

pub overflow_add-i-in-loop-d : goal.overflow_add-i-in-loop-d
overflow_add-i-in-loop-d c = omega (arith, goes_on c.args.s.now c.field_at-f.result.end (sym c.line_ended.ensures ∙ c.if-line_ended.false))

pub loop-d-smaller : goal.loop-d-smaller
loop-d-smaller c = omega (arith, found_ge _ _ _ _ _ _ _ _ c.loop-d.invariant _ c.field_at-f.ensures _ c.store_row-in-loop-d.ensures _ (c.max-worst.ensures ∙ ap (max c.loop-d.worst) c.state.ensures) _ (c.max-largest-in-loop-d.ensures ∙ ap (max c.loop-d.largest) c.value.ensures), goes_on c.args.s.now c.field_at-f.result.end (sym c.line_ended.ensures ∙ c.if-line_ended.false))

pub loop-d-preserved : goal.loop-d-preserved
loop-d-preserved c = head_more _ _ _ _ _ _ _ _ c.loop-d.invariant _ c.field_at-f.ensures _ c.store_row-in-loop-d.ensures _ (c.max-worst.ensures ∙ ap (max c.loop-d.worst) c.state.ensures) _ (c.max-largest-in-loop-d.ensures ∙ ap (max c.loop-d.largest) c.value.ensures) (sym c.line_ended.ensures ∙ c.if-line_ended.false)
