-- Numbers from comma to comma, no limit among them, and the last one up to the LF (`operator_found`); where one of these is missing, no such line is there.
use native.Mathlib.Omega.{arith}
use mathlib.Core.Path.{◌≡◌, ap, ◌∙◌}
use lib.ListN.{length, length-take, length-drop, length-append, length-set}
use Rattle.std.specs.Prelude.{Err}
use Rattle.std.proofs.lemmas.Result.{err_from_is_err_and}
use Rattle.numberlines.proofs.Operators.{operator_unusual, operator_other, first_unusual, gap_unusual, order_unusual, need_unusual, operator_found}
use Rattle.numberlines.proofs.operator.operator_at.Goals as goal
use Rattle.numberlines.proofs.operator.operator_at.Goals.{After-numbers_to, After-numbers_to-2, After-numbers_to-3}

-- how many numbers are read at a time
three : (c : After-numbers_to) → length c.numbers_to.new.row ≡ 3
three c = omega (arith, simp (length-take, length-drop) at c.numbers_to.auto.row, c.requires)

one : (c : After-numbers_to-2) → length c.numbers_to.new.row ≡ 3 → length c.numbers_to-2.new.row ≡ 1
one c i = omega (arith, simp (length-take, length-drop, length-append, length-set) at c.numbers_to-2.auto.row, c.requires, i)

two : (c : After-numbers_to-3) → length c.numbers_to.new.row ≡ 3 → length c.numbers_to-2.new.row ≡ 1 → length c.numbers_to-3.new.row ≡ 2
two c i j = omega (arith, simp (length-take, length-drop, length-append, length-set) at c.numbers_to-3.auto.row, c.requires, i, j)

pub returns-in_err-comma : goal.returns-in_err-comma
returns-in_err-comma c =
    let a = c.args in let r = c.from_residual in let p = err_from_is_err_and r.result r.ensures.1 in
    operator_other a.letter a.s.now a.at a.row.now c.requires r.result _ (p.1 ∙ ap Err p.2) c.in_err-comma.ensures

pub returns-in_err-numbers_to : goal.returns-in_err-numbers_to
returns-in_err-numbers_to c =
    let a = c.args in let r = c.from_residual-in_err-numbers_to in let p = err_from_is_err_and r.result r.ensures.1 in let h = c.in_err-numbers_to.ensures in
    let i = three (goal.at.returns-in_err-numbers_to c).After-numbers_to in
    operator_unusual a.letter a.s.now a.at a.row.now c.requires r.result _ _ (p.1 ∙ ap Err p.2) h.0
    (first_unusual a.letter a.s.now a.at a.row.now c.requires c.in_ok-comma.comma c.in_ok-comma.ensures _ _ i h)

pub returns-in_err-p : goal.returns-in_err-p
returns-in_err-p c =
    let a = c.args in let r = c.from_residual-in_err-p in let p = err_from_is_err_and r.result r.ensures.1 in let h = c.in_err-p.ensures in
    let i = three (goal.at.returns-in_err-p c).After-numbers_to in
    operator_unusual a.letter a.s.now a.at a.row.now c.requires r.result _ _ (p.1 ∙ ap Err p.2) h.0
    (gap_unusual a.letter a.s.now a.at a.row.now c.requires c.in_ok-comma.comma c.in_ok-comma.ensures c.in_ok-numbers_to.field-0 _ i c.in_ok-numbers_to.ensures _ h)

pub returns-in_err-q : goal.returns-in_err-q
returns-in_err-q c =
    let a = c.args in let r = c.from_residual-in_err-q in let p = err_from_is_err_and r.result r.ensures.1 in let h = c.in_err-q.ensures in let g = goal.at.returns-in_err-q c in
    let i = three g.After-numbers_to in
    operator_unusual a.letter a.s.now a.at a.row.now c.requires r.result _ _ (p.1 ∙ ap Err p.2) h.0
    (order_unusual a.letter a.s.now a.at a.row.now c.requires c.in_ok-comma.comma c.in_ok-comma.ensures c.in_ok-numbers_to.field-0 _ i c.in_ok-numbers_to.ensures c.in_ok-p.p c.in_ok-p.ensures
    _ _ (one g.After-numbers_to-2 i) h)

pub returns-in_err-r : goal.returns-in_err-r
returns-in_err-r c =
    let a = c.args in let r = c.from_residual-in_err-r in let p = err_from_is_err_and r.result r.ensures.1 in let h = c.in_err-r.ensures in let g = goal.at.returns-in_err-r c in
    let i = three g.After-numbers_to in let j = one g.After-numbers_to-2 i in
    operator_unusual a.letter a.s.now a.at a.row.now c.requires r.result _ _ (p.1 ∙ ap Err p.2) h.0
    (need_unusual a.letter a.s.now a.at a.row.now c.requires c.in_ok-comma.comma c.in_ok-comma.ensures c.in_ok-numbers_to.field-0 _ i c.in_ok-numbers_to.ensures c.in_ok-p.p c.in_ok-p.ensures
    c.in_ok-q.q _ j c.in_ok-q.ensures _ _ (two g.After-numbers_to-3 i j) h)

pub returns : goal.returns
returns c =
    let a = c.args in let g = goal.at.returns c in
    let i = three g.After-numbers_to in let j = one g.After-numbers_to-2 i in
    operator_found a.letter a.s.now a.at a.row.now c.requires c.in_ok-comma.comma c.in_ok-numbers_to.field-0 c.in_ok-p.p c.in_ok-q.q c.in_ok-r.r _ _ _ c.last_to.new.place c.in_ok-comma.ensures
    i j (two g.After-numbers_to-3 i j) c.in_ok-numbers_to.ensures c.in_ok-p.ensures c.in_ok-q.ensures c.in_ok-r.ensures c.last_to.result c.last_to.ensures
