-- `plansheet::facts::marked` meets its contract: each mark was tested, and the other numbers are small (`marks_fine`).
use Rattle.std.proofs.Common.{ℕ, ◌+◌, ◌<◌, ◌≤◌, List, length, get_or, take, drop, arith, length-take, length-drop}
use Rattle.std.proofs.lemmas.List.{get_or-drop, get_or-take}
use Rattle.plansheet.proofs.PlainFacts.{marks_fine}
use Rattle.plansheet.proofs.facts.marked.Goals as goal

-- what holds of each number of a part holds of those of the row
part :
    (ns : List ℕ) (from n j : ℕ) → from + n ≤ length ns → j < n → ((i : ℕ) → i < length (take n (drop from ns)) → get_or (take n (drop from ns)) i 0 ≤ 1) →
    get_or ns (from + j) 0 ≤ 1
part ns from n j few h each = rw (← get_or-drop from ns j 0, ← get_or-take n (drop from ns) j 0 h) (each j (simp (length-take, length-drop) (omega arith)))

pub returns-then-all_marks : goal.returns-then-all_marks
returns-then-all_marks c = λ e h.
    let r = c.args.row.now in
    let m = λ (j : ℕ) (k : j < 5). part r 4 5 j (omega (arith, c.told-row)) k (c.all_marks.ensures c.if-all_marks.true) in
    let o = λ (j : ℕ) (k : j < 2). part r 10 2 j (omega (arith, c.told-row)) k (c.all_marks-then-all_marks.ensures e) in
    marks_fine r (m 0 (omega arith)) (m 1 (omega arith)) (m 2 (omega arith)) (m 3 (omega arith)) (m 4 (omega arith)) (o 0 (omega arith)) (o 1 (omega arith)) h
