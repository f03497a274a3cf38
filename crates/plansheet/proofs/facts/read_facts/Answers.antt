-- `plansheet::facts::read_facts` meets its contract. What is read from here, with the rows held in front, is the whole run (`Turns`).
use mathlib.Core.Path.{◌≡◌, refl, sym, ap, subst, ◌∙◌}
use mathlib.Core.List.{List}
use mathlib.Core.Option.{Option}
use native.Mathlib.Omega.{arith}
use lib.ListN.{set}
use Rattle.text.specs.declared.field.Field.{Field}
use Rattle.text.specs.Text.{line_at, after}
use Rattle.linekinds.specs.KeyLines.{values}
use Rattle.linekinds.specs.Lines.{line_number, fields_of}
use Rattle.std.specs.Prelude.{Result, Err}
use Rattle.refusals.specs.declared.Refused.{Refused}
use Rattle.refusals.specs.Refusals.{refusal_of}
use Rattle.refusals.proofs.Numbers.{same_wrong, other_wrong}
use Rattle.plansheet.specs.declared.tree.RowsRead.{RowsRead}
use Rattle.linekinds.specs.declared.line.Read.{Read}
use Rattle.plansheet.specs.PlanLines.{fact_line}
use Rattle.plansheet.specs.PlainFacts.{FactLeft}
use Rattle.plansheet.specs.ReadRows.{number_rows, rows_by, Left, run_from}
use Rattle.plansheet.proofs.Turns.{on, Taken, taken, turned, head_long, head_done, head_refused, head_next, head_more}
use Rattle.plansheet.proofs.FineLines.{numbers_made, one_none, one_again, other_some}
use Rattle.plansheet.proofs.facts.read_facts.Goals as goal
use Rattle.plansheet.proofs.facts.read_facts.Goals.{In-Line, Then-eq, In-Refused-2}

abbrev back : Refused → Result RowsRead Refused
back w = Err w

-- the number of a line that ends the run
ended : (c : Then-eq) → let l = c.loop-next in let s = c.args.place.s.now in line_number fact_line l.n (after s l.p) (line_at 88 s l.p) ≡ 1
ended c =
    let l = c.loop-next in let s = c.args.place.s.now in
    let q = turned fact_line l.n (after s l.p) (line_at 88 s l.p) _ (sym c.in-Refused.is ∙ c.read_fact.ensures.answer l.n) in
    one_again fact_line l.n (after s l.p) (line_at 88 s l.p) q.1 (sym q.0 ∙ same_wrong c.in-Refused.refusal (sym c.eq.ensures ∙ c.if-eq.true))

-- any other refusal is the run's
refused :
    (c : In-Refused-2) → let a = c.args in let run = run_from fact_line 0 a.place.s.now a.place.line a.place.at in
    (Err (on c.in-Refused.refusal c.loop-next.l) ≡ rows_by run) × Left number_rows a.place.s.now run a.rows.now c.read_fact.new.rows
refused c =
    let l = c.loop-next in let s = c.args.place.s.now in
    let told = sym c.in-Refused.is ∙ c.read_fact.ensures.answer l.n in
    let q = turned fact_line l.n (after s l.p) (line_at 88 s l.p) _ told in
    head_refused number_rows _ numbers_made fact_line _ _ _ _ _ _ _ _ l.invariant.0
    (other_some fact_line l.n (after s l.p) (line_at 88 s l.p) (λ z. other_wrong c.in-Refused.refusal (sym c.eq.ensures ∙ c.if-eq.false) (q.0 ∙ ap refusal_of z)))
    _ told c.read_fact.new.rows (c.read_fact.auto.rows ∙ head_long number_rows _ numbers_made fact_line _ _ _ _ _ _ _ _ l.invariant.0)

took : (c : In-Line) → let l = c.loop-next in let s = c.args.place.s.now in Taken fact_line l.n (after s l.p) (line_at 88 s l.p) c.in-Line.count c.in-Line.next
took c = let l = c.loop-next in let s = c.args.place.s.now in taken fact_line l.n (after s l.p) (line_at 88 s l.p) _ _ (sym c.in-Line.is ∙ c.read_fact.ensures.answer l.n)

-- ---- the answers

pub returns-in-Refused-clause-answer : goal.returns-in-Refused-clause-answer
returns-in-Refused-clause-answer c =
    let l = c.loop-next in let s = c.args.place.s.now in
    (head_done number_rows _ numbers_made fact_line _ _ _ _ _ _ _ _ l.invariant.0 (one_none fact_line l.n (after s l.p) (line_at 88 s l.p) (ended (goal.at.returns-in-Refused-clause-answer c).Then-eq))).0

pub returns-in-Refused-clause-left : goal.returns-in-Refused-clause-left
returns-in-Refused-clause-left c =
    let l = c.loop-next in let s = c.args.place.s.now in
    let alone : c.read_fact.new.rows ≡ l.rows = subst (λ (x : Read). FactLeft (line_at 88 s l.p) l.n l.rows x c.read_fact.new.rows) c.in-Refused.is c.read_fact.ensures.stored (same_wrong c.in-Refused.refusal (sym c.eq.ensures ∙ c.if-eq.true)) in
    rw alone (head_done number_rows _ numbers_made fact_line _ _ _ _ _ _ _ _ l.invariant.0 (one_none fact_line l.n (after s l.p) (line_at 88 s l.p) (ended (goal.at.returns-in-Refused-clause-left c).Then-eq))).1

pub returns-in-Refused-2-clause-answer : goal.returns-in-Refused-2-clause-answer
returns-in-Refused-2-clause-answer c = ap back c.on_line.ensures ∙ (refused (goal.at.returns-in-Refused-2-clause-answer c).In-Refused-2).0

pub returns-in-Refused-2-clause-left : goal.returns-in-Refused-2-clause-left
returns-in-Refused-2-clause-left c = (refused (goal.at.returns-in-Refused-2-clause-left c).In-Refused-2).1

pub loop-next-smaller : goal.loop-next-smaller
loop-next-smaller c =
    let next = head_next number_rows _ numbers_made fact_line _ _ _ _ _ _ _ _ c.loop-next.invariant.0 _ _ (took (goal.at.loop-next-smaller c).In-Line) in
    omega (arith, next)

pub loop-next-preserved : goal.loop-next-preserved
loop-next-preserved c =
    let l = c.loop-next in let t = took (goal.at.loop-next-preserved c).In-Line in
    let stored : c.read_fact.new.rows ≡ set l.rows l.n (values t.fs) =
    subst (λ (x : Read). FactLeft (line_at 88 c.args.place.s.now l.p) l.n l.rows x c.read_fact.new.rows) c.in-Line.is c.read_fact.ensures.stored
    ∙ ap (λ (x : Option (List Field)). set l.rows l.n (values (fields_of x))) t.is in (
      head_more number_rows _ numbers_made fact_line _ _ _ _ _ _ _ _ l.invariant.0 _ _ t refl _ stored 0 refl,
      omega (arith, l.invariant.1, c.read_fact.auto.fields),
    )
