-- `sheet::read::read_whole` meets its contract. The head, the lines after it, and what stands after the last (`SheetWhole`).
use mathlib.Core.Path.{sym, ap, ◌∙◌}
use native.Mathlib.Omega.{arith}
use Rattle.std.specs.Prelude.{Err}
use Rattle.std.proofs.Common.{rules}
use Rattle.std.proofs.lemmas.Result.{err_from_is_err_and}
use Rattle.sheet.specs.SheetLines.{whole_lines, ended_by}
use Rattle.sheet.proofs.SheetTurns.{OnLine, taken_here, turned_here}
use Rattle.sheet.proofs.SheetWhole.{whole_turned, few_there, enough, lines_whole, held_there, end_refused, end_extra, end_none}
use Rattle.sheet.proofs.read.read_whole.Goals as goal

pub returns-in_err-head-clause-answer : goal.returns-in_err-head-clause-answer
returns-in_err-head-clause-answer c =
    let a = c.args in let z : OnLine 1 c.judged_list.result c.map_err.result = search rules in
    let r = turned_here a.s.now a.k 0 0 _ 1 c.map_err.result _ c.judged_list.ensures z c.in_err-head.field-0.0 c.in_err-head.was in
    let p = err_from_is_err_and c.from_residual.result c.from_residual.ensures.1 in
    p.1 ∙ ap Err (p.2 ∙ r.1) ∙ ap ended_by (sym (whole_turned a.s.now a.k _ r.0))

pub returns-in_err-head-clause-held : goal.returns-in_err-head-clause-held
returns-in_err-head-clause-held c =
    let a = c.args in let z : OnLine 1 c.judged_list.result c.map_err.result = search rules in
    let r = turned_here a.s.now a.k 0 0 _ 1 c.map_err.result _ c.judged_list.ensures z c.in_err-head.field-0.0 c.in_err-head.was in
    rw (whole_turned a.s.now a.k _ r.0) tt

pub line_count-n-requires : goal.line_count-n-requires
line_count-n-requires c =
    let a = c.args in let z : OnLine 1 c.judged_list.result c.map_err.result = search rules in
    let t = taken_here a.s.now a.k 0 0 _ 1 c.map_err.result _ c.judged_list.ensures z c.in_ok-head.head c.in_ok-head.was in
    few_there a.s.now a.k a.lists.now a.counts.now c.requires.1 c.requires.2 _ _ _ t

pub read_lists-requires : goal.read_lists-requires
read_lists-requires c =
    let a = c.args in let z : OnLine 1 c.judged_list.result c.map_err.result = search rules in
    let t = taken_here a.s.now a.k 0 0 _ 1 c.map_err.result _ c.judged_list.ensures z c.in_ok-head.head c.in_ok-head.was in
    let e = enough a.s.now a.k a.lists.now a.counts.now c.requires.1 c.requires.2 _ _ _ t _ c.line_count-n.ensures in
    (omega (arith, c.requires.0, c.judged_list.auto.rows), e.0, e.1, e.2, e.3)

pub returns-in_err-read-clause-answer : goal.returns-in_err-read-clause-answer
returns-in_err-read-clause-answer c =
    let a = c.args in let z : OnLine 1 c.judged_list.result c.map_err.result = search rules in
    let t = taken_here a.s.now a.k 0 0 _ 1 c.map_err.result _ c.judged_list.ensures z c.in_ok-head.head c.in_ok-head.was in
    let w = lines_whole a.s.now a.k a.lists.now a.counts.now c.requires.1 c.requires.2 _ _ _ t _ c.line_count-n.ensures _ c.in_err-read.ensures.answer in
    let p = err_from_is_err_and c.from_residual-in_err-read.result c.from_residual-in_err-read.ensures.1 in
    p.1 ∙ ap Err p.2 ∙ end_refused (whole_lines a.k a.s.now) c.in_err-read.field-0.0 w

pub returns-in_err-read-clause-held : goal.returns-in_err-read-clause-held
returns-in_err-read-clause-held c =
    let a = c.args in let z : OnLine 1 c.judged_list.result c.map_err.result = search rules in
    let t = taken_here a.s.now a.k 0 0 _ 1 c.map_err.result _ c.judged_list.ensures z c.in_ok-head.head c.in_ok-head.was in
    held_there a.s.now a.k a.lists.now a.counts.now c.requires.1 c.requires.2 _ _ _ t _ c.line_count-n.ensures _ _ c.in_err-read.ensures.held c.in_err-read.ensures.kept

pub returns-then-read-s-clause-answer : goal.returns-then-read-s-clause-answer
returns-then-read-s-clause-answer c =
    let a = c.args in let z : OnLine 1 c.judged_list.result c.map_err.result = search rules in
    let t = taken_here a.s.now a.k 0 0 _ 1 c.map_err.result _ c.judged_list.ensures z c.in_ok-head.head c.in_ok-head.was in
    let e = c.in_ok-read.ensures in
    let w = lines_whole a.s.now a.k a.lists.now a.counts.now c.requires.1 c.requires.2 _ _ _ t _ c.line_count-n.ensures _ e.answer in
    let h = held_there a.s.now a.k a.lists.now a.counts.now c.requires.1 c.requires.2 _ _ _ t _ c.line_count-n.ensures _ _ e.held e.kept in
    ap Err c.on_line.ensures ∙ end_extra a.s.now a.k _ _ c.in_ok-read.read (whole_lines a.k a.s.now) w h c.if-read-s.true

pub returns-then-read-s-clause-held : goal.returns-then-read-s-clause-held
returns-then-read-s-clause-held c =
    let a = c.args in let z : OnLine 1 c.judged_list.result c.map_err.result = search rules in
    let t = taken_here a.s.now a.k 0 0 _ 1 c.map_err.result _ c.judged_list.ensures z c.in_ok-head.head c.in_ok-head.was in
    let e = c.in_ok-read.ensures in held_there a.s.now a.k a.lists.now a.counts.now c.requires.1 c.requires.2 _ _ _ t _ c.line_count-n.ensures _ _ e.held e.kept

pub returns-clause-answer : goal.returns-clause-answer
returns-clause-answer c =
    let a = c.args in let z : OnLine 1 c.judged_list.result c.map_err.result = search rules in
    let t = taken_here a.s.now a.k 0 0 _ 1 c.map_err.result _ c.judged_list.ensures z c.in_ok-head.head c.in_ok-head.was in
    let e = c.in_ok-read.ensures in
    let w = lines_whole a.s.now a.k a.lists.now a.counts.now c.requires.1 c.requires.2 _ _ _ t _ c.line_count-n.ensures _ e.answer in
    let h = held_there a.s.now a.k a.lists.now a.counts.now c.requires.1 c.requires.2 _ _ _ t _ c.line_count-n.ensures _ _ e.held e.kept in
    end_none a.s.now a.k _ _ c.in_ok-read.read (whole_lines a.k a.s.now) w h c.if-read-s.false

pub returns-clause-held : goal.returns-clause-held
returns-clause-held c =
    let a = c.args in let z : OnLine 1 c.judged_list.result c.map_err.result = search rules in
    let t = taken_here a.s.now a.k 0 0 _ 1 c.map_err.result _ c.judged_list.ensures z c.in_ok-head.head c.in_ok-head.was in
    let e = c.in_ok-read.ensures in held_there a.s.now a.k a.lists.now a.counts.now c.requires.1 c.requires.2 _ _ _ t _ c.line_count-n.ensures _ _ e.held e.kept
