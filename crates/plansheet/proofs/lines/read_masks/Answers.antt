-- `plansheet::lines::read_masks` meets its contract: the Y line is a run of one (`Singles`), and nothing follows it (`Wholes`).
use mathlib.Core.Path.{refl, sym, ap, ◌∙◌}
use Prim.Native.Nat.{ℕ, ◌≤◌}
use native.Mathlib.Omega.{arith}
use lib.ListN.{length, replicate, length-replicate}
use lib.Seq.{sets}
use lib.Seq.{length-take-le}
use Rattle.text.specs.Text.{line_at, after}
use Rattle.linekinds.specs.Lines.{plain}
use Rattle.std.specs.Prelude.{Result, Err}
use Rattle.refusals.specs.declared.Refused.{Refused}
use Rattle.plansheet.specs.PlanLines.{two_to, mask_line}
use Rattle.plansheet.specs.ReadPlans.{whole_by}
use Rattle.plansheet.proofs.Turns.{turned_on}
use Rattle.plansheet.proofs.Singles.{Single, single}
use Rattle.plansheet.proofs.FineLines.{two_small}
use Rattle.plansheet.proofs.Wholes.{masks_back, masks_extra, masks_all, not_sheet, masks_held}
use Rattle.plansheet.proofs.lines.read_masks.Goals as goal
use Rattle.plansheet.proofs.lines.read_masks.Goals.{In-Line}

abbrev back : Refused → Result (Unit {0}) Refused
back w = Err w

pub returns-in-Refused-clause-answer : goal.returns-in-Refused-clause-answer
returns-in-Refused-clause-answer c =
    let a = c.args in let e = sym c.in-Refused.is ∙ c.mask_line.ensures.answer 0 in
    λ b fs xs. ap back (c.on_line-in-Refused.ensures ∙ turned_on (mask_line a.children) 0 (after a.place.s.now a.place.at) (line_at 89 a.place.s.now a.place.at) _ e a.place.line) ∙ ap whole_by (sym (masks_back a.place.s.now a.children a.place.line a.place.at b fs xs _ e))

pub returns-in-Refused-clause-held : goal.returns-in-Refused-clause-held
returns-in-Refused-clause-held c = let e = sym c.in-Refused.is ∙ c.mask_line.ensures.answer 0 in (λ b fs xs g f. absurd (not_sheet _ _ _ g (masks_back (c.args.place.s.now) c.args.children c.args.place.line c.args.place.at b fs xs _ e) f))

-- as many masks as sets of children, which are at most 256
module _ (n : ℕ) (h : n ≤ 8) where
  masks_many : length (replicate (two_to n) plain) ≤ 256
  masks_many = omega (arith, length-replicate (two_to n) plain, two_small n h)

-- the Y line that was read
line_read : (c : In-Line) → Single (mask_line c.args.children) 0 c.args.place.s.now c.args.place.at c.in-Line.count c.in-Line.next c.mask_line.new.fields
line_read c =
    let a = c.args in
    single (mask_line a.children) refl 0 a.place.s.now a.place.at _ _ a.fields.now _ (sym c.in-Line.is ∙ c.mask_line.ensures.answer 0) c.mask_line.ensures.stored (omega (arith, masks_many a.children c.requires.0, c.requires.1))

pub slice_bounds-copy_numbers-end : goal.slice_bounds-copy_numbers-end
slice_bounds-copy_numbers-end c = (line_read (goal.at.slice_bounds-copy_numbers-end c).In-Line).fits

pub slice_bounds-copy_numbers-end-in-Line : goal.slice_bounds-copy_numbers-end-in-Line
slice_bounds-copy_numbers-end-in-Line c = sym (length-take-le _ _ (line_read (goal.at.slice_bounds-copy_numbers-end-in-Line c).In-Line).fits)

pub copy_numbers-requires : goal.copy_numbers-requires
copy_numbers-requires c = omega (arith, (line_read (goal.at.copy_numbers-requires c).In-Line).part, masks_many c.args.children c.requires.0, c.requires.2)

pub returns-then-next-place-clause-answer : goal.returns-then-next-place-clause-answer
returns-then-next-place-clause-answer c =
    let a = c.args in let t = line_read (goal.at.returns-then-next-place-clause-answer c).In-Line in
    λ b fs xs. ap back c.on_line.ensures ∙ ap whole_by (sym (masks_extra a.place.s.now a.children a.place.line a.place.at b fs xs _ _ t.took c.if-next-place.true))

pub returns-then-next-place-clause-held : goal.returns-then-next-place-clause-held
returns-then-next-place-clause-held c =
    let a = c.args in let t = line_read (goal.at.returns-then-next-place-clause-held c).In-Line in
    λ b fs xs g f. absurd (not_sheet _ _ _ g (masks_extra a.place.s.now a.children a.place.line a.place.at b fs xs _ _ t.took c.if-next-place.true) f)

pub returns-else-next-place-clause-answer : goal.returns-else-next-place-clause-answer
returns-else-next-place-clause-answer c =
    let a = c.args in let t = line_read (goal.at.returns-else-next-place-clause-answer c).In-Line in
    λ b fs xs. ap whole_by (sym (masks_all a.place.s.now a.children a.place.line a.place.at b fs xs _ _ t.took c.if-next-place.false))

pub returns-else-next-place-clause-held : goal.returns-else-next-place-clause-held
returns-else-next-place-clause-held c =
    let a = c.args in let t = line_read (goal.at.returns-else-next-place-clause-held c).In-Line in
    λ b fs xs g f.
    masks_held a.children b fs xs t.took.fs g (sym (masks_all a.place.s.now a.children a.place.line a.place.at b fs xs _ _ t.took c.if-next-place.false) ∙ f)
    a.masks.now _ (c.copy_numbers.ensures ∙ ap (sets a.masks.now 0) t.vals) (sym t.took.counts ∙ t.long ∙ length-replicate (two_to a.children) plain)
