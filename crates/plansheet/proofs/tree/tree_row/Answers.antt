-- `plansheet::tree::tree_row` meets its contract: what `operator_read` left, or else what `judged_row` leaves.
use mathlib.Core.Path.{◌≡◌, ap, subst, ◌∙◌}
use mathlib.Core.List.{List, []}
use Prim.Native.Nat.{ℕ, ◌<◌}
use native.Mathlib.Omega.{arith}
use lib.ListN.{length, get_or, set}
use lib.Seq.{get_or-set_same, set-set}
use Rattle.numberlines.specs.declared.row.Unread.{Unread}
use Rattle.std.specs.Prelude.{Result}
use Rattle.plansheet.specs.PlainTrees.{PlainShape, OperatorHeld, OperatorRead}
use Rattle.plansheet.proofs.PlainTrees.{quick_held, quick_row}
use Rattle.plansheet.proofs.tree.tree_row.Goals as goal
use Rattle.plansheet.proofs.tree.tree_row.Goals.{In-Ok, then-seen-quick+in_default, else-seen-quick}

-- the row that was read quickly
held : (c : In-Ok) → let a = c.args in OperatorHeld a.h.line.letter a.place.s.now a.place.at a.seen a.h.line.codes.now a.h.rules.now c.in-Ok.end c.operator_read.new.row
held c = let a = c.args in subst (λ (x : Result ℕ Unread). OperatorRead a.h.line.letter a.place.s.now a.place.at a.seen a.h.line.codes.now a.h.rules.now x c.operator_read.new.row) c.in-Ok.is c.operator_read.ensures

-- the description that allows it, and that it is one of the rows for which there is room
plain : (c : In-Ok) → let h = c.args.h in PlainShape h.line.letter h.line.bounds.now h.line.sizes.now h.line.codes.now
plain c = c.requires.plain_shape.0 (omega (arith, c.if-seen-quick.true))

few : (c : In-Ok) → (c.args.seen < c.args.h.most) × (c.args.seen < length c.args.rows.now)
few c = (omega (arith, c.if-seen-quick.true, c.requires.plain_shape), omega (arith, c.if-seen-quick.true, c.requires.plain_shape))

pub returns-in-Ok-clause-answer : goal.returns-in-Ok-clause-answer
returns-in-Ok-clause-answer c =
    let a = c.args in let h = a.h in let l = h.line in let x = (goal.at.returns-in-Ok-clause-answer c).In-Ok in
    quick_row l.letter l.bounds.now l.sizes.now l.codes.now h.rules.now h.most a.seen a.place.s.now a.place.at (plain x) h.bounded (few x).0 _ _ (held x) _
    (ap (λ (r : List ℕ). get_or r 10 0) (get_or-set_same a.rows.now a.seen c.operator_read.new.row [] (few x).1))

pub returns-in-Ok-clause-stored : goal.returns-in-Ok-clause-stored
returns-in-Ok-clause-stored c =
    let a = c.args in let h = a.h in let l = h.line in let x = (goal.at.returns-in-Ok-clause-stored c).In-Ok in
    λ z. ap (set a.rows.now a.seen) (quick_held l.letter l.bounds.now l.sizes.now l.codes.now h.rules.now h.most a.seen a.place.s.now a.place.at (plain x) h.bounded (few x).0 _ _ (held x))

-- what a later row covers is the same, whichever branch was taken
pub returns-clause-stored : goal.returns-clause-stored
returns-clause-stored c =
    let a = c.args in
    let over : (x : List ℕ) → set c.if-seen-quick.rows a.seen x ≡ set a.rows.now a.seen x =
    λ x. elim c.if-seen-quick.branch [
      | then-seen-quick+in_default w ↦ ap (λ (rs : List (List ℕ)). set rs a.seen x) w.rows-is ∙ set-set a.rows.now a.seen w.operator_read.new.row x
      | else-seen-quick w ↦ ap (λ (rs : List (List ℕ)). set rs a.seen x) w.rows-is
    ]
    in
    λ z. c.judged_row.ensures.stored z ∙ over _
