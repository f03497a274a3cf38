-- `plansheet::line::plain_line` meets its contract. The line by `Opened`, then one law for each test (`PlainLines`).
use mathlib.Core.Path.{◌≡◌, refl, sym, ap, subst, ◌∙◌}
use mathlib.Core.List.{List, map}
use Prim.Native.Nat.{ℕ, ◌≤◌}
use native.Mathlib.Omega.{arith}
use lib.ListN.{length, take}
use Rattle.text.specs.Text.{line, line_fields, line_at, after, row}
use Rattle.text.specs.Read.{line_read, stored_in}
use Rattle.text.specs.declared.line.Fields.{Fields}
use Rattle.std.specs.Prelude.{Some, drop}
use Rattle.refusals.proofs.Judging.{judged_ok, judged_err}
use Rattle.linekinds.specs.declared.line.Read.TheVariants.{Refused}
use Rattle.plansheet.specs.ReadRows.{plain_number}
use Rattle.text.proofs.Answers.{Opened, opened, rows_held}
use Rattle.linekinds.specs.KeyLines.{values}
use Rattle.linekinds.specs.Reading.{row_values}
use Rattle.linekinds.proofs.ReadLines.{row_values_lem}
use Rattle.plansheet.specs.Shapes.{over_any}
use Rattle.plansheet.proofs.PlainLines.{plain_counted, plain_wrong, plain_turned, plain_coded, plain_read}
use Rattle.plansheet.proofs.line.plain_line.Goals as goal

pub returns-in_default-clause-answer : goal.returns-in_default-clause-answer
returns-in_default-clause-answer c = let l = c.line_at in (λ seen. plain_wrong c.args.letter c.args.width c.args.codes.now seen ((after c.args.s.now c.args.at)) ((line_at c.args.letter c.args.s.now c.args.at)) (sym c.in_default.is ∙ l.ensures.answer))

-- what is known where the counts are right
module _ (s : List ℕ) (at letter width : ℕ) (codes : List ℕ) (fields fields' : List (List ℕ)) (f : Fields) (so : Some f ≡ line_read (after s at) (line_at letter s at)) (stored : fields' ≡ stored_in fields (line_fields letter (line (drop at s)))) (room : width ≤ length fields) (right : plain_number width f.count f.worst f.largest f.next ≡ 0) where
  read : Opened (after s at) (line_at letter s at) f
  read = opened _ (line_at letter s at) f so

  long : f.count ≡ width
  long = plain_counted _ _ f.worst f.largest f.next right

  rows_are : take f.count fields' ≡ map row (opened _ (line_at letter s at) f so).fs
  rows_are =
      let o = opened _ (line_at letter s at) f so in
      subst (λ (n : ℕ). take n fields' ≡ map row o.fs) (sym o.counts) (rows_held letter s at o.fs o.is fields fields' stored (omega (arith, long, o.counts, room)))

  coded : over_any codes (row_values (take f.count fields')) ≡ over_any codes (values (opened _ (line_at letter s at) f so).fs)
  coded = ap (λ (rs : List (List ℕ)). over_any codes (row_values rs)) rows_are ∙ ap (over_any codes) (row_values_lem (opened _ (line_at letter s at) f so).fs)

pub returns-in-Err-clause-answer : goal.returns-in-Err-clause-answer
returns-in-Err-clause-answer c =
    let a = c.args in let f = c.in-Some.f in
    let j = judged_err (plain_number a.width f.count f.worst f.largest f.next) c.in-Err.refusal (sym c.in-Err.is ∙ c.judge_plain.ensures) in
    λ seen. ap Refused j.1 ∙ plain_turned a.letter a.width a.codes.now seen (after a.s.now a.at) (line_at a.letter a.s.now a.at) f (opened _ _ f (sym c.in-Some.is ∙ c.line_at.ensures.answer)) _ refl j.0

pub returns-then-over_any-clause-answer : goal.returns-then-over_any-clause-answer
returns-then-over_any-clause-answer c =
    let a = c.args in let f = c.in-Some.f in let i = c.in_default-judge_plain in
    let so = sym c.in-Some.is ∙ c.line_at.ensures.answer in
    let right = judged_ok (plain_number a.width f.count f.worst f.largest f.next) i.field-0 (sym i.is ∙ c.judge_plain.ensures) in
    λ seen. plain_coded a.letter a.width a.codes.now seen (after a.s.now a.at) (line_at a.letter a.s.now a.at) f (opened _ _ f so) _ refl right
    (sym (coded a.s.now a.at a.letter a.width a.codes.now a.fields.now c.line_at.new.out f so c.line_at.ensures.stored c.requires right) ∙ sym c.over_any.ensures ∙ c.if-over_any.true)

pub returns-clause-answer : goal.returns-clause-answer
returns-clause-answer c =
    let a = c.args in let f = c.in-Some.f in let i = c.in_default-judge_plain in
    let so = sym c.in-Some.is ∙ c.line_at.ensures.answer in
    let right = judged_ok (plain_number a.width f.count f.worst f.largest f.next) i.field-0 (sym i.is ∙ c.judge_plain.ensures) in
    λ seen. plain_read a.letter a.width a.codes.now seen (after a.s.now a.at) (line_at a.letter a.s.now a.at) f (opened _ _ f so) _ refl right
    (sym (coded a.s.now a.at a.letter a.width a.codes.now a.fields.now c.line_at.new.out f so c.line_at.ensures.stored c.requires right) ∙ sym c.over_any.ensures ∙ c.if-over_any.false)
