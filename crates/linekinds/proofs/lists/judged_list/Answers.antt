-- `linekinds::lists::judged_list` meets its contract. The line by `read_line`, its list by `pack_line` (`ReadLists`).
use mathlib.Core.Path.{◌≡◌, sym, ap, subst, ◌∙◌}
use mathlib.Core.List.{List, map}
use mathlib.Core.Option.{Option, some}
use Prim.Native.Nat.{ℕ, ◌≤◌}
use native.Mathlib.Omega.{arith}
use lib.ListN.{length, take, drop, length-map, length-take}
use Rattle.text.specs.declared.field.Field.{Field}
use Rattle.text.specs.Text.{line, line_fields, line_at, after, row}
use Rattle.text.specs.Read.{stored_in}
use Rattle.text.proofs.Answers.{rows_held}
use Rattle.linekinds.specs.Lines.{line_number}
use Rattle.linekinds.specs.KeyLines.{values}
use Rattle.linekinds.specs.Reading.{kind_of, row_values, packed_by, read_by, Small, Fits}
use Rattle.linekinds.specs.ListLines.{line_letter, line_codes, packed_list}
use Rattle.linekinds.specs.declared.kind.Codes.{Codes}
use Rattle.linekinds.specs.declared.line.Read.{Read}
use Rattle.linekinds.specs.declared.line.Read.TheVariants.{Line}
use Rattle.linekinds.proofs.ReadLines.{row_values_lem}
use Rattle.linekinds.proofs.ReadLists.{Good, was_read, was_turned, good_fit, good_room, good_small, list_turned, packed_long, list_packed}
use Rattle.linekinds.proofs.lists.judged_list.Goals as goal

-- what the line reader answers, of the codes and the letter that line i has
abbrev Answered : List ℕ → ℕ → Codes → ℕ → Read → Type 0
Answered s at c letter r = r ≡ read_by (line_number (kind_of c letter) 0 (after s at) (line_at letter s at)) (after s at) (line_at letter s at)

-- a line that was read, its fields in the rows
module _ (s : List ℕ) (at : ℕ) (c : Codes) (letter count next : ℕ) (rows rows' : List (List ℕ)) (so : Answered s at c letter (Line count next)) (stored : rows' ≡ stored_in rows (line_fields letter (line (drop at s)))) (room : 192 ≤ length rows) where
  abbrev good : Good c letter 0 (after s at) (line_at letter s at) count next
  good = was_read c letter 0 (after s at) (line_at letter s at) count next so

  zero_is : line_number (kind_of c letter) 0 (after s at) (some (good).fs) ≡ 0
  zero_is = rw (← (good).is) (good).zero

  few : count ≤ 192
  few = rw (good).counts (good_room c letter 0 (after s at) (good).fs zero_is)

  rows_are : take count rows' ≡ map row (good).fs
  rows_are = subst (λ (n : ℕ). take n rows' ≡ map row (good).fs) (sym (good).counts) (rows_held letter s at (good).fs (good).is rows rows' stored (omega (arith, (good).counts, few, room)))

  values_are : row_values (take count rows') ≡ values (good).fs
  values_are = ap row_values rows_are ∙ row_values_lem (good).fs

  fit : Fits c (length (take count rows'))
  fit = subst (λ (m : ℕ). Fits c m) (sym (ap length rows_are ∙ length-map (good).fs row)) (good_fit c letter 0 (after s at) (good).fs zero_is)

  small : Small (row_values (take count rows'))
  small = rw values_are (good_small c letter 0 (after s at) (good).fs zero_is)

  packed_is : packed_by c (row_values (take count rows')) ≡ packed_list c (line_at letter s at)
  packed_is = ap (packed_by c) values_are ∙ ap (λ (x : Option (List Field)). packed_list c x) (sym (good).is)

pub slice_bounds-pack_line-end : goal.slice_bounds-pack_line-end
slice_bounds-pack_line-end c =
    let a = c.args in
    omega (arith, few a.s.now a.at c.codes-c.result c.letter-letter.result c.in-Line.count c.in-Line.next a.rows.now c.read_line.new.rows (sym c.in-Line.is ∙ c.read_line.ensures.answer 0) c.read_line.ensures.stored c.requires, c.requires, c.read_line.auto.rows)

pub slice_bounds-pack_line-end-in-Line : goal.slice_bounds-pack_line-end-in-Line
slice_bounds-pack_line-end-in-Line c =
    let a = c.args in
    let h = few a.s.now a.at c.codes-c.result c.letter-letter.result c.in-Line.count c.in-Line.next a.rows.now c.read_line.new.rows (sym c.in-Line.is ∙ c.read_line.ensures.answer 0) c.read_line.ensures.stored c.requires in
    simp length-take (omega (arith, h, c.requires, c.read_line.auto.rows))

pub pack_line-requires : goal.pack_line-requires
pack_line-requires c =
    let a = c.args in let so = sym c.in-Line.is ∙ c.read_line.ensures.answer 0 in (
      fit a.s.now a.at c.codes-c.result c.letter-letter.result c.in-Line.count c.in-Line.next a.rows.now c.read_line.new.rows so c.read_line.ensures.stored c.requires,
      small a.s.now a.at c.codes-c.result c.letter-letter.result c.in-Line.count c.in-Line.next a.rows.now c.read_line.new.rows so c.read_line.ensures.stored c.requires,
    )

pub returns-in-Refused : goal.returns-in-Refused
returns-in-Refused c =
    let a = c.args in let x = line_at (line_letter a.k a.i) a.s.now a.at in
    let so : Answered a.s.now a.at (line_codes a.k a.i) (line_letter a.k a.i) c.read_line.result = rw (← c.codes-c.ensures, ← c.letter-letter.ensures) (c.read_line.ensures.answer 0) in
    let t = was_turned (line_codes a.k a.i) (line_letter a.k a.i) 0 (after a.s.now a.at) x c.in-Refused.refusal (sym c.in-Refused.is ∙ so) in
    record { answer = list_turned _ (after a.s.now a.at) (line_codes a.k a.i) x c.in-Refused.refusal t.0 t.1; full = c.told-list; held = λ z. absurd (t.1 z) }

pub returns-in-Line : goal.returns-in-Line
returns-in-Line c =
    let a = c.args in let k = line_codes a.k a.i in let l = line_letter a.k a.i in let x = line_at l a.s.now a.at in
    let so : Answered a.s.now a.at k l c.read_line.result = rw (← c.codes-c.ensures, ← c.letter-letter.ensures) (c.read_line.ensures.answer 0) in
    let at : Answered a.s.now a.at k l (Line c.in-Line.count c.in-Line.next) = sym c.in-Line.is ∙ so in
    let stored : c.read_line.new.rows ≡ stored_in a.rows.now (line_fields l (line (drop a.at a.s.now))) = rw (← c.letter-letter.ensures) c.read_line.ensures.stored in
    let o = was_read k l 0 (after a.s.now a.at) x c.in-Line.count c.in-Line.next at in
    let p = c.pack_line.ensures in
    let q : take c.pack_line.result c.pack_line.new.out ≡ packed_list k x =
    p.2 ∙ ap (λ (d : Codes). packed_by d (row_values (take c.in-Line.count c.read_line.new.rows))) c.codes-c.ensures
    ∙ packed_is a.s.now a.at k l c.in-Line.count c.in-Line.next a.rows.now c.read_line.new.rows at stored c.requires in
    let n = packed_long 0 0 k x c.pack_line.result c.pack_line.new.out p.0 p.1 q in
    record { answer = list_packed _ (after a.s.now a.at) k x o.zero _ _ n o.goes; full = p.0; held = λ z. rw (← n) q }
