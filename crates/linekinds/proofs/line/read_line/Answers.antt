-- `linekinds::line::read_line` meets its contract. The line by `Opened`, then one law for each test (`ReadLines`).
use mathlib.Core.Path.{◌≡◌, sym, ap, subst, ◌∙◌}
use mathlib.Core.List.{List, map}
use Prim.Native.Nat.{ℕ, ◌≤◌}
use native.Mathlib.Omega.{arith}
use lib.ListN.{length, take, length-map}
use Rattle.text.specs.Text.{line_at, after, row}
use Rattle.text.proofs.Answers.{Opened, opened, rows_held}
use Rattle.linekinds.specs.Reading.{codes_number, counts_number, row_values}
use Rattle.linekinds.specs.declared.line.Read.TheVariants.{Refused}
use Rattle.linekinds.proofs.LineNumbers.{counts_whole, counts_room}
use Rattle.linekinds.proofs.ReadLines.{row_values_lem, read_wrong, read_counts, read_codes, read_good}
use Rattle.text.specs.Text.{line, line_fields}
use Rattle.text.specs.Read.{line_read, stored_in}
use Rattle.text.specs.declared.line.Fields.{Fields}
use Rattle.std.specs.Prelude.{Some, drop}
use Rattle.refusals.proofs.Judging.{judged_ok, judged_err}
use Rattle.linekinds.specs.KeyLines.{values}
use Rattle.linekinds.specs.Reading.{Whole}
use Rattle.linekinds.specs.declared.kind.Codes.{Codes}
use Rattle.linekinds.proofs.line.read_line.Goals as goal

pub returns-in_default-clause-answer : goal.returns-in_default-clause-answer
returns-in_default-clause-answer c = let l = c.line_at in (λ seen. read_wrong c.args.c c.args.letter seen (after (c.args.s.now) c.args.at) ((line_at c.args.letter (c.args.s.now) c.args.at)) (sym c.in_default.is ∙ l.ensures.answer))

pub returns-in_default-clause-stored : goal.returns-in_default-clause-stored
returns-in_default-clause-stored c = let l = c.line_at in l.ensures.stored

-- what is known where the counts are right
module _ (s : List ℕ) (at letter : ℕ) (c : Codes) (rows rows' : List (List ℕ)) (f : Fields) (so : Some f ≡ line_read (after s at) (line_at letter s at)) (stored : rows' ≡ stored_in rows (line_fields letter (line (drop at s)))) (room : 192 ≤ length rows) (right : counts_number c f.count f.worst f.largest f.next ≡ 0) where
  abbrev read : Opened (after s at) (line_at letter s at) f
  read = opened _ (line_at letter s at) f so

  rows_are : take f.count rows' ≡ map row read.fs
  rows_are =
      let o = opened _ (line_at letter s at) f so in
      subst (λ (n : ℕ). take n rows' ≡ map row o.fs) (sym o.counts) (rows_held letter s at o.fs o.is rows rows' stored (omega (arith, o.counts, counts_room c f.count f.worst f.largest f.next right, room)))

  values_are : codes_number c (row_values (take f.count rows')) ≡ codes_number c (values (read).fs)
  values_are = ap (λ (rs : List (List ℕ)). codes_number c (row_values rs)) rows_are ∙ ap (codes_number c) (row_values_lem read.fs)

  whole : Whole c (length (take f.count rows'))
  whole = let n : length (take f.count rows') ≡ f.count = ap length rows_are ∙ length-map read.fs row ∙ sym (read).counts in rw n (counts_whole c f.count f.worst f.largest f.next right)

pub returns-in-Err-clause-answer : goal.returns-in-Err-clause-answer
returns-in-Err-clause-answer c =
    let a = c.args in let f = c.in-Some.f in
    let j = judged_err (counts_number a.c f.count f.worst f.largest f.next) c.in-Err.refusal (sym c.in-Err.is ∙ c.judge_counts.ensures) in
    λ seen. ap Refused j.1 ∙ read_counts a.c a.letter seen (after a.s.now a.at) (line_at a.letter a.s.now a.at) f (opened _ _ f (sym c.in-Some.is ∙ c.line_at.ensures.answer)) j.0

-- the counts are right where they were not turned back
pub slice_bounds-judge_codes-end : goal.slice_bounds-judge_codes-end
slice_bounds-judge_codes-end c =
    let f = c.in-Some.f in let i = c.in_default-judge_counts in
    let right = judged_ok (counts_number c.args.c f.count f.worst f.largest f.next) i.field-0 (sym i.is ∙ c.judge_counts.ensures) in
    omega (arith, counts_room c.args.c f.count f.worst f.largest f.next right, c.requires, c.line_at.auto.out)

pub judge_codes-requires : goal.judge_codes-requires
judge_codes-requires c =
    let a = c.args in let f = c.in-Some.f in let i = c.in_default-judge_counts in
    let right = judged_ok (counts_number a.c f.count f.worst f.largest f.next) i.field-0 (sym i.is ∙ c.judge_counts.ensures) in
    whole a.s.now a.at a.letter a.c a.rows.now c.line_at.new.out f (sym c.in-Some.is ∙ c.line_at.ensures.answer) c.line_at.ensures.stored c.requires right

pub returns-in-Err-judge_codes-clause-answer : goal.returns-in-Err-judge_codes-clause-answer
returns-in-Err-judge_codes-clause-answer c =
    let a = c.args in let f = c.in-Some.f in let i = c.in_default-judge_counts in
    let so = sym c.in-Some.is ∙ c.line_at.ensures.answer in
    let right = judged_ok (counts_number a.c f.count f.worst f.largest f.next) i.field-0 (sym i.is ∙ c.judge_counts.ensures) in
    let n : ℕ = codes_number a.c (row_values (take f.count c.line_at.new.out)) in
    let j = judged_err n c.in-Err-judge_codes.refusal (sym c.in-Err-judge_codes.is ∙ c.judge_codes.ensures) in
    λ seen. ap Refused j.1 ∙ read_codes a.c a.letter seen (after a.s.now a.at) (line_at a.letter a.s.now a.at) f (opened _ _ f so) right n
    (values_are a.s.now a.at a.letter a.c a.rows.now c.line_at.new.out f so c.line_at.ensures.stored c.requires right) j.0

pub returns-clause-answer : goal.returns-clause-answer
returns-clause-answer c =
    let a = c.args in let f = c.in-Some.f in let i = c.in_default-judge_counts in let h = c.in_default-judge_codes in
    let so = sym c.in-Some.is ∙ c.line_at.ensures.answer in
    let right = judged_ok (counts_number a.c f.count f.worst f.largest f.next) i.field-0 (sym i.is ∙ c.judge_counts.ensures) in
    let n : ℕ = codes_number a.c (row_values (take f.count c.line_at.new.out)) in
    λ seen. read_good a.c a.letter seen (after a.s.now a.at) (line_at a.letter a.s.now a.at) f (opened _ _ f so) right n
    (values_are a.s.now a.at a.letter a.c a.rows.now c.line_at.new.out f so c.line_at.ensures.stored c.requires right)
    (judged_ok n h.field-0 (sym h.is ∙ c.judge_codes.ensures))
