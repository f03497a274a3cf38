-- What a sheet is read as, by its lines, its counts and what is held of it.
-- Assumes nothing.
use Prim.Native.Nat.{ℕ, ◌+◌, ◌≤◌, ◌<◌}
use mathlib.Core.Path.{◌≡◌, refl, sym, ap, subst, ◌∙◌}
use mathlib.Core.Bool.{Bool, true, false, cond, not}
use mathlib.Core.List.{List, []}
use native.Mathlib.Omega.{arith}
use lib.ListN.{length, get_or, drop, length-map}
use lib.Seq.{get_or-take}
use Rattle.text.specs.declared.field.Field.{Field}
use Rattle.text.specs.Text.{parts, value_of}
use Rattle.text.specs.Lines.{first_of}
use Rattle.keys.specs.Expressions.{expression, expressions}
use Rattle.linekinds.specs.Lines.{Run, read, refused, fields_of, at_end}
use Rattle.linekinds.specs.KeyLines.{at, values}
use Rattle.linekinds.specs.Reading.{packed_by}
use Rattle.linekinds.specs.ListLines.{line_codes}
use Rattle.linekinds.specs.declared.lists.SheetKind.{SheetKind}
use Rattle.linekinds.specs.declared.lists.SheetKind.TheVariants.{Key, Join}
use Rattle.sheet.specs.KeySheets.{Reading, sheet, turned, ended, row, head_of, unused_keys, join_lists_fit, key_whole, join_whole, stages_of_key, stages_of_input, read_key_sheet, read_join_sheet}
use Rattle.sheet.specs.Held.{held_at, child_count, held_key_sheet, held_join_sheet, KeyHeld, JoinHeld, held_text}
use Rattle.sheet.specs.SheetLines.{most_lists, whole_lines, refused_on, lines_by, ended_by, HeldLine, HeldLines}
use Rattle.sheet.specs.ListFits.{key_counts_fit, input_counts, join_counts_fit, lists_fit, sheet_by, KeyRead, JoinRead, SheetRead}
use Rattle.std.specs.Prelude.{Ok, Err}
use Rattle.refusals.specs.declared.Refused.{Refused}
use Rattle.sheet.specs.declared.read.LinesRead.{LinesRead}
use Rattle.sheet.proofs.Chained.{whole_rows}
use Rattle.sheet.proofs.KeyAccepted.{key_in_turn, join_in_turn}
use Rattle.sheet.proofs.LegalSheets.{key_read_legal, join_read_legal}
use Rattle.sheet.proofs.HeldRows.{key_kinds_lem, join_kinds_lem, key_rows_many, key_many, join_many}
use Rattle.sheet.proofs.HeldTexts.{text_again}
use Rattle.sheet.proofs.CountedLists.{key_counts, input_used, input_some, input_short}
use Rattle.sheet.proofs.HeldSheets.{line, row_is, head_held, key_held, join_held}

-- ---- a sheet by its lines

module _ (s : List ℕ) where
  pub key_whole_lem : read_key_sheet s ≡ ended (whole_rows stages_of_key key_whole) (whole_lines Key s)
  unfolding whole_lines
  key_whole_lem = key_in_turn s ∙ rw (key_kinds_lem s)

  pub join_whole_lem : read_join_sheet s ≡ ended (whole_rows stages_of_input join_whole) (whole_lines Join s)
  unfolding whole_lines
  join_whole_lem = join_in_turn s ∙ rw join_kinds_lem

-- all lines were read, and nothing follows
pub record AllRead (run : Run) (next line : ℕ) : Type 0 where
  pub rows : List (List Field)
  pub lines : List (List ℕ)
  pub is : run ≡ read rows lines line next
  pub end : at_end lines ≡ true

all_at_lem : (t : Bool) (rs : List (List Field)) (ls : List (List ℕ)) (l p : ℕ) (r : LinesRead) → at_end ls ≡ t → Ok r ≡ cond t (lines_by (read rs ls l p)) (Err (refused_on 1 l)) → AllRead (read rs ls l p) r.next r.line
all_at_lem true rs ls l p r t e = let q : record { next = p; line = l } ≡ r = cc in let a : p ≡ r.next = ap (λ (x : LinesRead). x.next) q in let b : l ≡ r.line = ap (λ (x : LinesRead). x.line) q in record { rows = rs; lines = ls; is = rw (a, b); end = t }
all_at_lem false rs ls l p r t e = absurd (cc)

all_read : (run : Run) (r : LinesRead) → Ok r ≡ ended_by run → AllRead run r.next r.line
all_read (refused n l) r e = absurd (cc)
all_read (read rs ls l p) r e = all_at_lem (at_end ls) rs ls l p r refl e

-- a sheet that is turned back, and what for
pub record Back {A : Type 0} (x : Reading A) (r : Refused) : Type 0 where
  pub number : ℕ
  pub line : ℕ
  pub is : x ≡ turned number line
  pub refusal : r ≡ refused_on number line

module _ {A : Type 0} (whole : List (List Field) → Reading A) where
  turned_at : (t : Bool) (rs : List (List Field)) (ls : List (List ℕ)) (l p : ℕ) (r : Refused) → Err r ≡ cond t (lines_by (read rs ls l p)) (Err (refused_on 1 l)) → Back (cond t (whole rs) (turned 1 l)) r
  turned_at true rs ls l p r e = absurd (cc)
  turned_at false rs ls l p r e = record { number = 1; line = l; is = refl; refusal = cc }

  ended_turned : (run : Run) (r : Refused) → Err r ≡ ended_by run → Back (ended whole run) r
  ended_turned (refused m l) r e = record { number = m; line = l; is = refl; refusal = cc }
  ended_turned (read rs ls l p) r e = turned_at (at_end ls) rs ls l p r e

  ended_all : (run : Run) (next line : ℕ) (a : AllRead run next line) → ended whole run ≡ whole a.rows
  ended_all run next line a = rw (a.is, a.end)

module _ (s : List ℕ) (r : Refused) where
  key_turned : Err r ≡ ended_by (whole_lines Key s) → Back (read_key_sheet s) r
  key_turned e = rw (key_whole_lem s) (ended_turned (whole_rows stages_of_key key_whole) (whole_lines Key s) r e)

  join_turned : Err r ≡ ended_by (whole_lines Join s) → Back (read_join_sheet s) r
  join_turned e = rw (join_whole_lem s) (ended_turned (whole_rows stages_of_input join_whole) (whole_lines Join s) r e)

-- ---- lines that are held

module _ (k : SheetKind) (lists : List (List ℕ)) (counts : List ℕ) (rs : List (List Field)) (held : (j : ℕ) → j < length rs → HeldLine k lists counts (0 + j) (get_or rs j [])) where
  -- a number of a line, where it stands
  stands : (i j : ℕ) → i < length rs → j < length (held_at lists counts i) → get_or (get_or lists i []) j 0 ≡ get_or (held_at lists counts i) j 0
  unfolding held_at
  stands i j h g = sym (get_or-take (get_or counts i 0) (get_or lists i []) j 0 (rw (line k lists counts rs held i h).long g))

  head_long : 0 < length rs → packed_by (line_codes k 0) (values (get_or rs 0 [])) ≡ values (get_or rs 0 []) → length (held_at lists counts 0) ≡ length (get_or rs 0 [])
  head_long h e = ap length ((line k lists counts rs held 0 h).is ∙ e) ∙ length-map (get_or rs 0 []) value_of

module _ (s : List ℕ) (lists : List (List ℕ)) (counts : List ℕ) (t : LinesRead) where
  module _ (e : Ok t ≡ ended_by (whole_lines Key s)) (h : HeldLines s Key 0 (whole_lines Key s) lists counts) where
    key_all : AllRead (whole_lines Key s) t.next t.line
    key_all = all_read (whole_lines Key s) t e

    key_rows_lem : (j : ℕ) → j < length key_all.rows → HeldLine Key lists counts (0 + j) (get_or key_all.rows j [])
    key_rows_lem = (rw key_all.is at h).1

    key_count : length key_all.rows ≡ 9 + at (head_of key_all.rows) 6
    key_count = key_many s key_all.rows key_all.lines t.line t.next key_all.is

    key_head_lem : length (held_at lists counts 0) ≡ 7
    key_head_lem = head_long Key lists counts key_all.rows key_rows_lem (omega (arith, key_count)) refl ∙ (line Key lists counts key_all.rows key_rows_lem 0 (omega (arith, key_count))).fits

    key_decided :
        read_key_sheet s ≡ cond (key_counts_fit (get_or (get_or lists 0 []) 0 0) (get_or (get_or lists 0 []) 1 0) counts) (sheet (held_key_sheet lists counts)) (turned 5 0)
    key_decided =
        let rs : List (List Field) = key_all.rows in
        let n : 9 ≤ length rs = omega (arith, key_count) in
        let at_0 : (j : ℕ) → j < 7 → get_or (get_or lists 0 []) j 0 ≡ get_or (held_at lists counts 0) j 0 = λ j g. stands Key lists counts rs key_rows_lem 0 j (omega arith) (omega (arith, key_head_lem)) in
        key_whole_lem s ∙ ended_all (whole_rows stages_of_key key_whole) (whole_lines Key s) t.next t.line key_all
        ∙ rw (← key_held lists counts rs key_rows_lem key_count, key_counts lists counts (λ i g. (line Key lists counts rs key_rows_lem i (omega arith)).long), at_0 0 (omega arith), at_0 1 (omega arith))

    key_stands : 17 ≤ length lists → 17 ≤ length counts → read_key_sheet s ≡ sheet (held_key_sheet lists counts) → KeyHeld lists counts
    key_stands a b r =
        let rs : List (List Field) = key_all.rows in
        let c : child_count lists counts ≡ at (head_of rs) 6 = head_held Key lists counts rs key_rows_lem 6 (omega (arith, key_count)) refl in
        record { lines = (a, b); room = λ i g. (line Key lists counts rs key_rows_lem i (omega (arith, key_count, c))).room; head = key_head_lem; legal = key_read_legal s (held_key_sheet lists counts) r }

    key_again_lem : held_text Key lists counts 0 (9 + child_count lists counts) ≡ s
    unfolding whole_lines
    key_again_lem =
        let rs : List (List Field) = key_all.rows in
        let c : child_count lists counts ≡ at (head_of rs) 6 = head_held Key lists counts rs key_rows_lem 6 (omega (arith, key_count)) refl in
        let f : List Field = fields_of (first_of 75 (parts 10 s)) in
        let g : length rs ≡ 9 + at f 6 = key_rows_many s rs key_all.lines t.line t.next key_all.is in
        let n : 9 + child_count lists counts ≡ 9 + at f 6 = omega (arith, key_count, c, g) in
        rw n (text_again Key lists counts s (9 + at f 6) rs key_all.lines t.line t.next key_all.is g key_all.end key_rows_lem)

  module _ (e : Ok t ≡ ended_by (whole_lines Join s)) (h : HeldLines s Join 0 (whole_lines Join s) lists counts) where
    join_all : AllRead (whole_lines Join s) t.next t.line
    join_all = all_read (whole_lines Join s) t e

    join_rows_lem : (j : ℕ) → j < length join_all.rows → HeldLine Join lists counts (0 + j) (get_or join_all.rows j [])
    join_rows_lem = (rw join_all.is at h).1

    join_count : length join_all.rows ≡ 8
    join_count = join_many s join_all.rows join_all.lines t.line t.next join_all.is

    join_line : (i : ℕ) → i < 8 → HeldLine Join lists counts i (get_or join_all.rows i [])
    join_line i g = line Join lists counts join_all.rows join_rows_lem i (omega (arith, join_count))

    join_head_lem : length (held_at lists counts 0) ≡ 2
    join_head_lem = head_long Join lists counts join_all.rows join_rows_lem (omega (arith, join_count)) refl ∙ (join_line 0 (omega arith)).fits

    join_stands : 8 ≤ length lists → 8 ≤ length counts → read_join_sheet s ≡ sheet (held_join_sheet lists counts) → JoinHeld lists counts
    join_stands a b r = record {
      lines = (a, b);
      room = λ i g. (join_line i g).room;
      head = join_head_lem;
      inputs = (input_short lists counts 4 _ refl (join_line 4 (omega arith)), input_short lists counts 5 _ refl (join_line 5 (omega arith)));
      legal = join_read_legal s (held_join_sheet lists counts) r;
    }

    join_again_lem : held_text Join lists counts 0 8 ≡ s
    unfolding whole_lines
    join_again_lem = text_again Join lists counts s 8 join_all.rows join_all.lines t.line t.next join_all.is join_count join_all.end join_rows_lem

    join_fit :
        join_lists_fit (held_join_sheet lists counts) (drop 1 join_all.rows)
        ≡ join_counts_fit (get_or (held_at lists counts 0) 0 0) counts (get_or (held_at lists counts 4) 0 0) (get_or (held_at lists counts 5) 0 0)
    unfolding join_lists_fit join_counts_fit held_join_sheet
    join_fit =
        let rs : List (List Field) = join_all.rows in
        let n : (i : ℕ) → i < 8 → length (expressions (held_at lists counts i)) ≡ get_or counts i 0 = λ i g. length-map (held_at lists counts i) expression ∙ sym (join_line i g).long in
        let u : not (unused_keys (row (drop 1 rs) 3)) ≡ input_counts (get_or (held_at lists counts 4) 0 0) (get_or counts 4 0)
        = rw (← row_is Join lists counts rs join_rows_lem 3) (input_used lists counts 4 (get_or rs 4 []) refl (join_line 4 (omega arith))) in
        let v : not (unused_keys (row (drop 1 rs) 4)) ≡ input_counts (get_or (held_at lists counts 5) 0 0) (get_or counts 5 0)
        = rw (← row_is Join lists counts rs join_rows_lem 4) (input_used lists counts 5 (get_or rs 5 []) refl (join_line 5 (omega arith))) in
        rw (u, v, n 1 (omega arith), n 2 (omega arith), ← (join_line 3 (omega arith)).long)

    join_decided :
        read_join_sheet s ≡
        cond (join_counts_fit (get_or (get_or lists 0 []) 0 0) counts (get_or (get_or lists 4 []) 0 0) (get_or (get_or lists 5 []) 0 0)) (sheet (held_join_sheet lists counts)) (turned 5 0)
    join_decided =
        let rs : List (List Field) = join_all.rows in
        let at_0 : (i : ℕ) → i < 8 → 0 < length (held_at lists counts i) → get_or (get_or lists i []) 0 0 ≡ get_or (held_at lists counts i) 0 0
        = λ i g m. stands Join lists counts rs join_rows_lem i 0 (omega (arith, join_count)) m in
        join_whole_lem s ∙ ended_all (whole_rows stages_of_input join_whole) (whole_lines Join s) t.next t.line join_all
        ∙ rw (
          ← join_held lists counts rs join_rows_lem join_count,
          join_fit,
          at_0 0 (omega arith) (omega (arith, join_head_lem)),
          at_0 4 (omega arith) (input_some lists counts 4 _ refl (join_line 4 (omega arith))),
          at_0 5 (omega arith) (input_some lists counts 5 _ refl (join_line 5 (omega arith))),
        )

-- ---- what reading answers

apart : {A : Type 0} (r : Reading A) (x : A) (n l : ℕ) → r ≡ turned n l → r ≡ sheet x → ⊥
apart r x n l e f = cc

same_sheet : {A : Type 0} (r : Reading A) (x y : A) → r ≡ sheet x → r ≡ sheet y → x ≡ y
same_sheet r x y e f = cc

module _ (s : List ℕ) (lists : List (List ℕ)) (counts : List ℕ) where
  key_refused : (n l : ℕ) → read_key_sheet s ≡ turned n l → KeyRead s (Err (refused_on n l)) lists counts
  key_refused n l e = record { answer = ap sheet_by (sym e); held = λ x f. absurd (apart (read_key_sheet s) x n l e f); again = λ x f. absurd (apart (read_key_sheet s) x n l e f) }

  key_whole_read : read_key_sheet s ≡ sheet (held_key_sheet lists counts) → KeyHeld lists counts → held_text Key lists counts 0 (9 + child_count lists counts) ≡ s → KeyRead s (Ok tt) lists counts
  key_whole_read e h g = record { answer = ap sheet_by (sym e); held = λ x f. (h, same_sheet (read_key_sheet s) (held_key_sheet lists counts) x e f); again = λ x f. g }

  join_refused : (n l : ℕ) → read_join_sheet s ≡ turned n l → JoinRead s (Err (refused_on n l)) lists counts
  join_refused n l e = record { answer = ap sheet_by (sym e); held = λ x f. absurd (apart (read_join_sheet s) x n l e f); again = λ x f. absurd (apart (read_join_sheet s) x n l e f) }

  join_whole_read : read_join_sheet s ≡ sheet (held_join_sheet lists counts) → JoinHeld lists counts → held_text Join lists counts 0 8 ≡ s → JoinRead s (Ok tt) lists counts
  join_whole_read e h g = record { answer = ap sheet_by (sym e); held = λ x f. (h, same_sheet (read_join_sheet s) (held_join_sheet lists counts) x e f); again = λ x f. g }

-- ---- the same of a sheet of either kind

pub sheet_back : (k : SheetKind) (s : List ℕ) (lists : List (List ℕ)) (counts : List ℕ) (r : Refused) → Err r ≡ ended_by (whole_lines k s) → SheetRead k s (Err r) lists counts
sheet_back Key s lists counts r e = let b = key_turned s r e in subst (λ (q : Refused). KeyRead s (Err q) lists counts) (sym b.refusal) (key_refused s lists counts b.number b.line b.is)
sheet_back Join s lists counts r e = let b = join_turned s r e in subst (λ (q : Refused). JoinRead s (Err q) lists counts) (sym b.refusal) (join_refused s lists counts b.number b.line b.is)

module _ (s : List ℕ) (lists : List (List ℕ)) (counts : List ℕ) (t : LinesRead) where
  pub sheet_unfit : (k : SheetKind) → Ok t ≡ ended_by (whole_lines k s) → HeldLines s k 0 (whole_lines k s) lists counts → lists_fit k lists counts ≡ false → SheetRead k s (Err (refused_on 5 0)) lists counts
  sheet_unfit Key e h f = let d = key_decided s lists counts t e h in key_refused s lists counts 5 0 (rw f at d)
  sheet_unfit Join e h f = let d = join_decided s lists counts t e h in join_refused s lists counts 5 0 (rw f at d)

  pub sheet_whole :
      (k : SheetKind) → Ok t ≡ ended_by (whole_lines k s) → HeldLines s k 0 (whole_lines k s) lists counts → lists_fit k lists counts ≡ true →
      most_lists k ≤ length lists → most_lists k ≤ length counts → SheetRead k s (Ok tt) lists counts
  sheet_whole Key e h f a b = let d = key_decided s lists counts t e h in let r = rw f at d in key_whole_read s lists counts r (key_stands s lists counts t e h a b r) (key_again_lem s lists counts t e h)
  sheet_whole Join e h f a b = let d = join_decided s lists counts t e h in let r = rw f at d in join_whole_read s lists counts r (join_stands s lists counts t e h a b r) (join_again_lem s lists counts t e h)
