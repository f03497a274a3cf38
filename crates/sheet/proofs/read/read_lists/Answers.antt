-- `sheet::read::read_lists` meets its contract. What was read, before what is left, is the whole (`SheetTurns`).
use mathlib.Core.Path.{◌≡◌, ap, ◌∙◌}
use mathlib.Core.List.{[]}
use native.Mathlib.Omega.{arith}
use Prim.Native.Nat.{ℕ, ◌+◌}
use Rattle.std.specs.Prelude.{Result, Ok, Err}
use Rattle.std.proofs.Common.{rules}
use Rattle.std.proofs.lemmas.Result.{err_from_is_err_and}
use Rattle.sheet.proofs.SheetTurns.{OnLine, taken_here, turned_here, kept_list, kept_count, head_refused, held_refused, head_more, head_done, held_done}
use Rattle.refusals.specs.declared.Refused.{Refused}
use Rattle.sheet.specs.declared.read.LinesRead.{LinesRead}
use Rattle.sheet.proofs.read.read_lists.Goals as goal

-- n lines, up to a place
abbrev read_to : ℕ → ℕ → Result LinesRead Refused
read_to p n = Ok (record { next = p; line = n + 1 })

pub returns-in_err-packed-clause-answer : goal.returns-in_err-packed-clause-answer
returns-in_err-packed-clause-answer c =
    let a = c.args in let l = c.loop-i in let z : OnLine (l.i + 1) c.read_list.result c.map_err.result = search rules in
    let r = turned_here a.s.now a.k l.i l.next _ (l.i + 1) c.map_err.result _ c.read_list.ensures z c.in_err-packed.field-0.0 c.in_err-packed.was in
    let p = err_from_is_err_and c.from_residual.result c.from_residual.ensures.1 in
    p.1 ∙ ap Err (p.2 ∙ r.1) ∙ head_refused a.s.now a.k a.n _ l.i l.next (l.i + 1) l.lists l.counts l.invariant.1 _ c.loop-i-test.true r.0

pub returns-in_err-packed-clause-held : goal.returns-in_err-packed-clause-held
returns-in_err-packed-clause-held c =
    let a = c.args in let l = c.loop-i in let z : OnLine (l.i + 1) c.read_list.result c.map_err.result = search rules in
    let r = turned_here a.s.now a.k l.i l.next _ (l.i + 1) c.map_err.result _ c.read_list.ensures z c.in_err-packed.field-0.0 c.in_err-packed.was in
    held_refused a.s.now a.k a.n _ l.i l.next (l.i + 1) l.lists l.counts l.invariant.1 _ c.loop-i-test.true r.0 _ _

pub loop-i-preserved : goal.loop-i-preserved
loop-i-preserved c =
    let a = c.args in let l = c.loop-i in let v = l.invariant in let g = c.loop-i-test.true in
    let z : OnLine (l.i + 1) c.read_list.result c.map_err.result = search rules in
    let t = taken_here a.s.now a.k l.i l.next _ (l.i + 1) c.map_err.result _ c.read_list.ensures z c.in_ok-packed.packed c.in_ok-packed.was in (
      omega (arith, v.0, c.read_list.auto.rows),
      head_more a.s.now a.k a.n _ l.i l.next (l.i + 1) l.lists l.counts v.1 _ _ _ g (omega (arith, c.requires.3, v.2.lists_long)) (omega (arith, c.requires.4, v.2.counts_long)) t,
      kept_count a.k _ l.counts l.i [] _ a.lists.now a.counts.now l.auto.i (kept_list a.k l.lists l.counts l.i _ 0 a.lists.now a.counts.now l.auto.i v.2),
    )

pub returns-clause-answer : goal.returns-clause-answer
returns-clause-answer c =
    let a = c.args in let l = c.loop-i in
    let last : a.n ≡ l.i = omega (arith, l.invariant.1.within, c.loop-i-test.false) in
    ap (read_to l.next) last ∙ head_done a.s.now a.k a.n _ l.i l.next (l.i + 1) l.lists l.counts l.invariant.1 c.loop-i-test.false

pub returns-clause-held : goal.returns-clause-held
returns-clause-held c = let a = c.args in let l = c.loop-i in held_done a.s.now a.k a.n _ l.i l.next (l.i + 1) l.lists l.counts l.invariant.1 c.loop-i-test.false
