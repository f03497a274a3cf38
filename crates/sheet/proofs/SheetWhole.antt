-- All lines of a sheet: the head and the lines after it, and that nothing follows.
-- Assumes nothing.
use Prim.Native.Nat.{ℕ, zero, suc, ◌+◌, ◌-◌, ◌≤◌, ◌<◌}
use mathlib.Core.Path.{◌≡◌, refl, sym, ap, ◌∙◌}
use mathlib.Core.Bool.{Bool, true, false, cond}
use mathlib.Core.Option.{some}
use mathlib.Core.List.{List, [], ◌∷◌, map}
use native.Mathlib.Omega.{arith}
use borrow.Author.Tests.{ltb-false, eqb-false}
use lib.Dec.{eqb, ltb}
use lib.ListN.{length, get_or, set, drop, length-set, length-drop, length-map, drop_of_length-le}
use lib.Seq.{get_or-take, get_or-set_same}
use Rattle.text.specs.declared.field.Field.{Field}
use Rattle.text.specs.Text.{parts, after, state_of, value_of, greatest}
use Rattle.text.specs.Lines.{first_of}
use Rattle.text.proofs.Places.{bridge}
use Rattle.linekinds.specs.Lines.{Run, read, refused, before, line_number, fields_of, at_end}
use Rattle.linekinds.specs.KeyLines.{at, values, key_line}
use Rattle.linekinds.specs.Reading.{codes_number, counts_number}
use Rattle.linekinds.specs.ListLines.{line_letter}
use Rattle.linekinds.specs.declared.kind.Codes.TheVariants as C
use Rattle.linekinds.specs.declared.lists.SheetKind.{SheetKind}
use Rattle.linekinds.specs.declared.lists.SheetKind.TheVariants.{Key, Join}
use Rattle.linekinds.proofs.LineNumbers.{line_number_lem, at_value}
use Rattle.linekinds.proofs.ReadLists.{good_fit}
use Rattle.sheet.specs.Held.{held_at}
use Rattle.sheet.specs.SheetLines.{refused_on, most_lists, in_turn, line_kinds, line_count, count_by, FewChildren, lines_from, lines_by, whole_lines, ended_by, HeldLine, HeldLines, HeadKept}
use Rattle.std.specs.Prelude.{Result, Ok, Err}
use Rattle.refusals.specs.declared.Refused.{Refused}
use Rattle.sheet.specs.declared.read.LinesRead.{LinesRead}
use Rattle.sheet.proofs.Accepted.{nothing_follows}
use Rattle.sheet.proofs.SheetTurns.{Taken, Refusal, line_read_lem, line_refused, held_here}

-- ---- the head

head_and_rest : (k : SheetKind) (fs : List Field) → line_count k fs ≡ suc (line_count k fs - 1)
head_and_rest Key fs = omega arith
head_and_rest Join fs = omega arith

module _ (s : List ℕ) (k : SheetKind) where
  pub whole_turned : (n : ℕ) → Refusal s k 0 0 n → whole_lines k s ≡ refused n 1
  unfolding whole_lines
  whole_turned n r =
      let fs : List Field = fields_of (first_of (line_letter k 0) (parts 10 s)) in
      rw (head_and_rest k fs) (line_refused s k 0 0 n (line_count k fs - 1) 1 r)

  module _ (count next : ℕ) (list : List ℕ) (t : Taken s k 0 0 count next list) where
    whole_taken : whole_lines k s ≡ before t.fs (lines_from s k 1 (line_count k t.fs - 1) next)
    unfolding whole_lines
    whole_taken =
        let e : fields_of (first_of (line_letter k 0) (parts 10 s)) ≡ t.fs = ap fields_of (sym (bridge (line_letter k 0) s 0) ∙ t.is) in
        rw e (ap (λ (n : ℕ). in_turn (line_kinds k 0 n) 1 0 (parts 10 s)) (head_and_rest k t.fs) ∙ line_read_lem s k 0 0 count next (line_count k t.fs - 1) 1 list t)

-- a K line's seventh number
large_at : (t : Bool) (n : ℕ) → cond t 3 n ≡ 0 → t ≡ false
large_at true n e = absurd (omega arith)
large_at false n e = refl

codes_at : (m n : ℕ) (t : Bool) → eqb m 0 ≡ t → cond t n m ≡ 0 → n ≡ 0
codes_at m n true p e = e
codes_at m n false p e = absurd (eqb-false m 0 p e)

pub head_few : (next : ℕ) (fs : List Field) → line_number key_line 0 next (some fs) ≡ 0 → at fs 6 ≤ 8
head_few next fs e =
    let m : ℕ = counts_number C.Key (length fs) (greatest 0 (map state_of fs)) (greatest 0 (map value_of fs)) next in
    let c : codes_number C.Key (values fs) ≡ 0 = codes_at m (codes_number C.Key (values fs)) (eqb m 0) refl (sym (line_number_lem C.Key 75 0 next fs) ∙ e) in
    rw (at_value fs 6) (ltb-false 8 (get_or (values fs) 6 0) (large_at (ltb 8 (get_or (values fs) 6 0)) _ c))

module _ (s : List ℕ) (count next : ℕ) (list : List ℕ) where
  few_children : (t : Taken s Key 0 0 count next list) → at t.fs 6 ≤ 8
  few_children t = head_few (after s 0) t.fs t.zero

  seventh : (t : Taken s Key 0 0 count next list) → get_or list 6 0 ≡ at t.fs 6
  seventh t =
      let n : length t.fs ≡ 7 = good_fit C.Key 75 0 (after s 0) t.fs t.zero in
      let c : count ≡ 7 = omega (arith, t.counts, length-map t.fs value_of) in
      sym (get_or-take count list 6 0 (omega (arith, c))) ∙ ap (λ (ns : List ℕ). get_or ns 6 0) t.held ∙ sym (at_value t.fs 6)

module _ (s : List ℕ) (count next : ℕ) (list : List ℕ) where
  children_few : (k : SheetKind) → Taken s k 0 0 count next list → FewChildren k (get_or list 6 0)
  children_few Key t = rw (seventh s count next list t) (few_children s count next list t)
  children_few Join t = tt

  counted : (k : SheetKind) (t : Taken s k 0 0 count next list) → count_by k (get_or list 6 0) ≡ line_count k t.fs
  counted Key t = ap (λ (n : ℕ). 9 + n) (seventh s count next list t)
  counted Join t = refl

count_least : (k : SheetKind) (n : ℕ) → FewChildren k n → (1 ≤ count_by k n) × (count_by k n ≤ 17) × (count_by k n ≤ most_lists k)
count_least Key n h = (omega arith, omega arith, omega arith)
count_least Join n h = (omega arith, omega arith, omega arith)

lists_some : (k : SheetKind) → 8 ≤ most_lists k
lists_some Key = omega arith
lists_some Join = omega arith

-- ---- the head is held beside the lines after it

head_still :
    (k : SheetKind) (lists₀ : List (List ℕ)) (counts₀ : List ℕ) (lists : List (List ℕ)) (counts : List ℕ) (fs : List Field) → HeadKept lists₀ counts₀ lists counts →
    HeldLine k lists₀ counts₀ 0 fs → HeldLine k lists counts 0 fs
unfolding held_at
head_still k lists₀ counts₀ lists counts fs e h =
    record { fits = h.fits; entries = h.entries; small = h.small; room = rw e.count h.room; long = rw (e.list, e.count) h.long; is = rw (e.list, e.count) h.is }

held_whole :
    (s : List ℕ) (k : SheetKind) (fs : List Field) (rest : Run) (lists : List (List ℕ)) (counts : List ℕ) → HeldLines s k 1 rest lists counts →
    HeldLine k lists counts 0 fs → HeldLines s k 0 (before fs rest) lists counts
held_whole s k fs (refused n l) lists counts h g = tt
held_whole s k fs (read rs ls l p) lists counts h g = (h.0, each)
  where
    each : (j : ℕ) → j < suc (length rs) → HeldLine k lists counts (0 + j) (get_or (fs ∷ rs) j [])
    each zero e = g
    each (suc j) e = let z : 0 + suc j ≡ 1 + j = omega arith in rw z (h.1 j (omega arith))

whole_before : (fs : List Field) (rest : Run) → lines_by rest ≡ lines_by (before fs rest)
whole_before fs (read rs ls l p) = refl
whole_before fs (refused n l) = refl

-- ---- the head that was read, and so many lines after it

module _ (s : List ℕ) (k : SheetKind) (lists₀ : List (List ℕ)) (counts₀ : List ℕ) (a : most_lists k ≤ length lists₀) (b : most_lists k ≤ length counts₀) (count next : ℕ) (list : List ℕ) (t : Taken s k 0 0 count next list) where
  -- the number of children, where it is held
  abbrev children : ℕ
  children = get_or (get_or (set lists₀ 0 list) 0 []) 6 0

  children_is : children ≡ get_or list 6 0
  children_is = ap (λ (l : List ℕ). get_or l 6 0) (get_or-set_same lists₀ 0 list [] (omega (arith, a, lists_some k)))

  pub few_there : FewChildren k children
  few_there = rw children_is (children_few s count next list k t)

  module _ (n : ℕ) (e : n ≡ count_by k children) where
    many : n ≡ line_count k t.fs
    many = e ∙ ap (count_by k) children_is ∙ counted s count next list k t

    pub enough : (1 ≤ n) × (n ≤ 17) × (n ≤ length (set lists₀ 0 list)) × (n ≤ length (set counts₀ 0 count))
    enough =
        let h = count_least k _ (children_few s count next list k t) in
        let m : n ≡ count_by k (get_or list 6 0) = e ∙ ap (count_by k) children_is in
        (omega (arith, m, h.0), omega (arith, m, h.1), simp length-set (omega (arith, m, h.2, a)), simp length-set (omega (arith, m, h.2, b)))

    pub lines_whole : (r : Result LinesRead Refused) → r ≡ lines_by (lines_from s k 1 (n - 1) next) → r ≡ lines_by (whole_lines k s)
    lines_whole r f = rw many at f ∙ whole_before t.fs (lines_from s k 1 (line_count k t.fs - 1) next) ∙ ap lines_by (sym (whole_taken s k count next list t))

    pub held_there : (lists : List (List ℕ)) (counts : List ℕ) → HeldLines s k 1 (lines_from s k 1 (n - 1) next) lists counts → HeadKept (set lists₀ 0 list) (set counts₀ 0 count) lists counts → HeldLines s k 0 (whole_lines k s) lists counts
    held_there lists counts h g =
        rw (whole_taken s k count next list t)
        (held_whole s k t.fs (lines_from s k 1 (line_count k t.fs - 1) next) lists counts (rw many at h)
        (head_still k (set lists₀ 0 list) (set counts₀ 0 count) lists counts t.fs g (held_here k lists₀ counts₀ 0 list count s 0 next t (omega (arith, a, lists_some k)) (omega (arith, b, lists_some k)))))

-- ---- nothing follows

pub end_refused : (run : Run) (r : Refused) → Err r ≡ lines_by run → Err r ≡ ended_by run
end_refused (refused n l) r e = e
end_refused (read rs ls l p) r e = let z : ◌≡◌ {A = ℕ} 0 1 = cc in absurd (omega arith)

module _ (s : List ℕ) (p : ℕ) where
  end_here : length s ≤ p → at_end (parts 10 (drop p s)) ≡ true
  unfolding parts
  end_here h = rw (drop_of_length-le s h)

  more_here : p < length s → at_end (parts 10 (drop p s)) ≡ false
  more_here h = go (at_end (parts 10 (drop p s))) refl
    where
      go : (t : Bool) → at_end (parts 10 (drop p s)) ≡ t → t ≡ false
      go true e = absurd (omega (arith, length-drop p s, ap length (nothing_follows (drop p s) e)))
      go false e = refl

module _ (s : List ℕ) (k : SheetKind) (lists : List (List ℕ)) (counts : List ℕ) where
  module _ (t : LinesRead) where
    pub end_extra : (run : Run) → Ok t ≡ lines_by run → HeldLines s k 0 run lists counts → t.next < length s → Err (refused_on 1 t.line) ≡ ended_by run
    end_extra (read rs ls l p) e h g =
        let q : t ≡ record { next = p; line = l } = cc in
        let a : t.next ≡ p = ap (λ (x : LinesRead). x.next) q in
        let b : t.line ≡ l = ap (λ (x : LinesRead). x.line) q in
        rw (h.0, more_here s p (rw a at g), b)
    end_extra (refused m q) e h g = absurd (cc)

    pub end_none : (run : Run) → Ok t ≡ lines_by run → HeldLines s k 0 run lists counts → length s ≤ t.next → Ok t ≡ ended_by run
    end_none (read rs ls l p) e h g = let q : t ≡ record { next = p; line = l } = cc in let a : t.next ≡ p = ap (λ (x : LinesRead). x.next) q in rw (h.0, end_here s p (rw a at g)) e
    end_none (refused m q) e h g = absurd (cc)
