-- `plansheet::facts::read_children` meets its contract. What is read from here, with the rows held in front, is the whole run (`Turns`).
use mathlib.Core.Path.{◌≡◌, refl, sym, ap, ◌∙◌}
use Prim.Native.Nat.{ℕ, ◌+◌, ◌-◌, ◌≤◌, ◌<◌}
use native.Mathlib.Omega.{arith}
use borrow.Author.Tests.{eq-eqb, ne_eqb}
use mathlib.Core.List.{List, [], ◌++◌}
use lib.ListN.{length, set, take, drop}
use lib.Seq.{length-take-le}
use Rattle.std.proofs.lemmas.List.{take-append-drop, set-append_left, set-get_or}
use Rattle.std.specs.Prelude.{Result, Ok, Err}
use Rattle.refusals.specs.declared.Refused.{Refused}
use Rattle.plansheet.specs.declared.tree.RowsRead.{RowsRead}
use Rattle.plansheet.specs.PlanLines.{child_line}
use Rattle.plansheet.specs.ReadRows.{number_rows}
use Rattle.plansheet.proofs.Turns.{head_first, head_long, head_done, head_refused, head_more}
use Rattle.plansheet.proofs.FineLines.{numbers_made}
use Rattle.plansheet.proofs.Singles.{Single, single}
use Rattle.plansheet.proofs.facts.read_children.Goals as goal
use Rattle.plansheet.proofs.facts.read_children.Goals.{In-Line}

abbrev read_on : ℕ → ℕ → ℕ → Result RowsRead Refused
read_on n p l = Ok (record { count = n; next = p; line = l })

abbrev back : Refused → Result RowsRead Refused
back w = Err w

pub loop-row-init : goal.loop-row-init
loop-row-init c =
    let a = c.args in let z : a.children - 0 ≡ a.children = omega arith in (
      rw (take-append-drop a.children a.rows.now, z) (head_first number_rows _ numbers_made child_line a.place.s.now a.place.at a.place.line a.children a.rows.now a.place.within a.place.numbered),
      omega arith,
      refl,
    )

-- the room is as long as it was asked to be
module _ (children : ℕ) (rows : List (List ℕ)) (room : children ≤ length rows) where
  part_long : length (take children rows) ≡ children
  part_long = length-take-le children rows room

pub returns-in-Refused : goal.returns-in-Refused
returns-in-Refused c =
    let l = c.loop-row in let a = c.args in
    let h : l.row-index < a.children = omega (arith, c.loop-row-test.true, part_long a.children a.rows.now c.requires.1) in
    let g : a.children - l.row-index ≡ 0 → ⊥ = λ z. omega arith in
    let full : List (List ℕ) = l.row-items ++ drop a.children a.rows.now in
    let both = head_refused number_rows _ numbers_made child_line _ _ _ _ _ _ _ _ l.invariant.0 (ne_eqb _ _ g) _
    (sym c.in-Refused.is ∙ c.child_line.ensures.answer l.row-index)
    full (head_long number_rows _ numbers_made child_line _ _ _ _ _ _ _ _ l.invariant.0) in
    record { answer = ap back c.on_line.ensures ∙ both.0; left = rw (set-get_or l.row-items l.row-index []) both.1 }

-- the F line that was read
line_read : (c : In-Line) → Single child_line c.loop-row.row-index c.args.place.s.now c.loop-row.p c.in-Line.count c.in-Line.next c.child_line.new.fields
line_read c =
    let l = c.loop-row in let r = c.child_line in
    single child_line refl l.row-index c.args.place.s.now l.p _ _ l.fields _ (sym c.in-Line.is ∙ r.ensures.answer l.row-index) r.ensures.stored (omega (arith, l.invariant.2, c.requires.0))

pub slice_bounds-numbers_of-end : goal.slice_bounds-numbers_of-end
slice_bounds-numbers_of-end c = (line_read (goal.at.slice_bounds-numbers_of-end c).In-Line).fits

pub slice_bounds-numbers_of-end-in-Line : goal.slice_bounds-numbers_of-end-in-Line
slice_bounds-numbers_of-end-in-Line c = sym (length-take-le _ _ (line_read (goal.at.slice_bounds-numbers_of-end-in-Line c).In-Line).fits)

pub numbers_of-requires : goal.numbers_of-requires
numbers_of-requires c = (omega arith, (line_read (goal.at.numbers_of-requires c).In-Line).part)

pub loop-row-preserved : goal.loop-row-preserved
loop-row-preserved c =
    let l = c.loop-row in let a = c.args in
    let t = line_read (goal.at.loop-row-preserved c).In-Line in
    let many = part_long a.children a.rows.now c.requires.1 in
    let g : a.children - l.row-index ≡ 0 → ⊥ = λ z. omega (arith, many, c.loop-row-test.true) in
    let f : a.children - (l.row-index + 1) ≡ a.children - l.row-index - 1 = omega arith in
    let rest : List (List ℕ) = drop a.children a.rows.now in (
      head_more number_rows _ numbers_made child_line _ _ _ _ _ _ _ _ l.invariant.0 _ _ t.took (ne_eqb _ _ g) _
          (sym (set-append_left l.row-items rest l.row-index _ (omega (arith, l.auto.row-items, c.loop-row-test.true))) ∙ ap (set (l.row-items ++ rest) l.row-index) (c.numbers_of.ensures ∙ t.vals)) _ f,
      omega (arith, many, c.loop-row-test.true),
      omega (arith, l.invariant.2, c.child_line.auto.fields),
    )

pub returns : goal.returns
returns c =
    let l = c.loop-row in let a = c.args in
    let e : a.children ≡ l.row-index = omega (arith, l.invariant.1, part_long a.children a.rows.now c.requires.1, c.loop-row-test.false) in
    let z : a.children - l.row-index ≡ 0 = omega arith in
    let both = head_done number_rows _ numbers_made child_line _ _ _ _ _ _ _ _ l.invariant.0 (eq-eqb _ _ z) in
    record { answer = ap (λ (n : ℕ). read_on n l.p l.l) e ∙ both.0; left = both.1 }
