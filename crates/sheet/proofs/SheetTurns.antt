-- A turn of reading a sheet's lines: what was read, before what is left, is the whole; and the lists of the lines past are held.
-- Assumes nothing.
use Prim.Native.Nat.{ℕ, suc, ◌+◌, ◌-◌, ◌≤◌, ◌<◌}
use mathlib.Core.Path.{◌≡◌, refl, sym, ap, ◌∙◌}
use mathlib.Core.Bool.{Bool, true, false, cond}
use mathlib.Core.Option.{Option, none, some}
use mathlib.Core.List.{List, [], ◌∷◌, ◌++◌, append_assoc, append-nil}
use native.Mathlib.Omega.{arith}
use borrow.Author.Tests.{ne_eqb, eqb-true, eqb-false, ltb-true, ltb-false}
use lib.Dec.{eqb, ltb}
use lib.ListN.{length, get_or, take, drop, set, length-set, length-append, get_or-append}
use lib.Seq.{get_or-append_seam, get_or-set_same, get_or-set_other}
use Rattle.text.specs.declared.field.Field.{Field}
use Rattle.text.specs.Text.{line_at, after, parts}
use Rattle.text.specs.Lines.{first_of, next_of}
use Rattle.text.proofs.Places.{bridge, after_next, after_lines}
use Rattle.linekinds.specs.Lines.{Run, read, refused, before, behind, line_number}
use Rattle.linekinds.specs.KeyLines.{values}
use Rattle.linekinds.specs.Reading.{kind_of, packed_by}
use Rattle.linekinds.specs.ListLines.{line_letter, line_codes, line_kind, packed_list, ListRead}
use Rattle.linekinds.specs.declared.kind.Codes.TheVariants as C
use Rattle.linekinds.specs.declared.lists.SheetKind.{SheetKind}
use Rattle.linekinds.specs.declared.lists.SheetKind.TheVariants.{Key, Join}
use Rattle.std.specs.Prelude.{Result, MatchResult, Ok, Err}
use Rattle.linekinds.specs.declared.lists.Packed.{Packed}
use Rattle.refusals.specs.declared.Refusal.{Refusal as Reason}
use Rattle.refusals.specs.declared.Refused.{Refused}
use Rattle.refusals.specs.Refusals.{refusal_of}
use Rattle.linekinds.proofs.ReadLists.{good_small, good_fit, good_entries}
use Rattle.sheet.specs.Held.{held_at}
use Rattle.sheet.specs.SheetLines.{in_turn, line_kinds, lines_from, refused_on, lines_by, HeldLine, HeldLines, HeadKept}

-- ---- the letter of a line's kind

key_at : (a d e f g : Bool) (m : ℕ) → (kind_of (cond a C.Key (cond d C.Directions (cond e C.Rules (cond f C.Names (cond g C.Names C.Exprs))))) (cond a 75 m)).letter ≡ cond a 75 m
key_at true d e f g m = refl
key_at false true e f g m = refl
key_at false false true f g m = refl
key_at false false false true g m = refl
key_at false false false false true m = refl
key_at false false false false false m = refl

join_at : (a d e f g h : Bool) (m : ℕ) →
    (kind_of (cond a C.Join (cond d C.Directions (cond e C.Input (cond f C.Input (cond g C.Rules (cond h C.Rules C.Exprs)))))) (cond a 73 m)).letter ≡ cond a 73 m
join_at true d e f g h m = refl
join_at false true e f g h m = refl
join_at false false true f g h m = refl
join_at false false false true g h m = refl
join_at false false false false true h m = refl
join_at false false false false false true m = refl
join_at false false false false false false m = refl

pub kind_letter : (k : SheetKind) (i : ℕ) → (line_kind k i).letter ≡ line_letter k i
kind_letter Key i = key_at (eqb i 0) (eqb i 4) (eqb i 5) (eqb i 6) (eqb i 7) _
kind_letter Join i = join_at (eqb i 0) (eqb i 3) (eqb i 4) (eqb i 5) (eqb i 6) (eqb i 7) _

-- ---- what `read_list` answered

-- a line that was read, with its list
pub record Taken (s : List ℕ) (k : SheetKind) (i p count next : ℕ) (list : List ℕ) : Type 0 where
  pub fs : List Field
  pub is : line_at (line_letter k i) s p ≡ some fs
  pub zero : line_number (line_kind k i) 0 (after s p) (some fs) ≡ 0
  pub goes : next ≡ after s p
  pub counts : count ≡ length (packed_by (line_codes k i) (values fs))
  pub room : count ≤ 64
  pub held : take count list ≡ packed_by (line_codes k i) (values fs)

pub record Refusal (s : List ℕ) (k : SheetKind) (i p n : ℕ) : Type 0 where
  pub is : line_number (line_kind k i) 0 (after s p) (line_at (line_letter k i) s p) ≡ n
  pub wrong : n ≡ 0 → ⊥

-- what was answered, a refusal put on a line
abbrev pub OnLine : ℕ → Result Packed Reason → Result Packed Refused → Type 0
OnLine line x y = MatchResult x (λ r. y ≡ Ok r) (λ w. y ≡ Err (record { refusal = w; line = line }))

module _ (s : List ℕ) (k : SheetKind) (i p : ℕ) where
  abbrev N : Option (List Field) → ℕ
  N x = line_number (line_kind k i) 0 (after s p) x

  -- a list of packed numbers that was lent 64 places has room for them
  fits_room : (count : ℕ) (list ns : List ℕ) → length list ≡ 64 → count ≡ length ns → take count list ≡ ns → count ≤ 64
  fits_room count list ns h c e = omega (arith, ap length e, lib.ListN.length-take count list)

  -- the list of a line, and its refusal
  abbrev listed : Option (List Field) → Packed
  listed x = record { count = length (packed_list (line_codes k i) x); next = after s p }

  taken_at :
      (x : Option (List Field)) (t : Bool) (r : Packed) (list : List ℕ) → line_at (line_letter k i) s p ≡ x → eqb (N x) 0 ≡ t →
      Ok r ≡ cond t (Ok (listed x)) (Err (refusal_of (N x))) → length list ≡ 64 →
      (N x ≡ 0 → take (length (packed_list (line_codes k i) x)) list ≡ packed_list (line_codes k i) x) → Taken s k i p r.count r.next list
  unfolding line_number
  taken_at none true r list a t e f h = let z : ◌≡◌ {A = ℕ} 1 0 = eqb-true 1 0 t in absurd (omega arith)
  taken_at (some fs) true r list a t e f h =
      let z : N (some fs) ≡ 0 = eqb-true (N (some fs)) 0 t in
      let q : r ≡ listed (some fs) = cc in
      let c : r.count ≡ length (packed_by (line_codes k i) (values fs)) = ap (λ (x : Packed). x.count) q in
      let g : take r.count list ≡ packed_by (line_codes k i) (values fs) = rw c (h z) in
      record { fs = fs; is = a; zero = z; goes = ap (λ (x : Packed). x.next) q; counts = c; room = fits_room r.count list _ f c g; held = g }
  taken_at x false r list a t e f h = absurd (cc)

  taken : (x : Result Packed Reason) (r : Packed) (list : List ℕ) → ListRead s p k i x list → x ≡ Ok r → Taken s k i p r.count r.next list
  taken x r list h e = taken_at (line_at (line_letter k i) s p) _ r list refl refl (sym e ∙ h.answer) h.full h.held

  refusal_at : (x : Option (List Field)) (t : Bool) (w : Reason) → eqb (N x) 0 ≡ t →
      Err w ≡ cond t (Ok (listed x)) (Err (refusal_of (N x))) → (w ≡ refusal_of (N x)) × (N x ≡ 0 → ⊥)
  refusal_at x true w t e = absurd (cc)
  refusal_at x false w t e = (cc, eqb-false (N x) 0 t)

  -- the number of a line that was turned back, and what it was turned back for
  refusal : (x : Result Packed Reason) (w : Reason) (list : List ℕ) → ListRead s p k i x list → x ≡ Err w → Refusal s k i p (N (line_at (line_letter k i) s p)) × (w ≡ refusal_of (N (line_at (line_letter k i) s p)))
  refusal x w list h e = let q = refusal_at (line_at (line_letter k i) s p) _ w refl (sym e ∙ h.answer) in (record { is = refl; wrong = q.1 }, q.0)

  -- the same, where the refusal was put on a line
  module _ (list : List ℕ) (line : ℕ) (y : Result Packed Refused) where
    pub turned_here :
        (x : Result Packed Reason) → ListRead s p k i x list → OnLine line x y → (w : Refused) → y ≡ Err w →
        Refusal s k i p (N (line_at (line_letter k i) s p)) × (w ≡ refused_on (N (line_at (line_letter k i) s p)) line)
    turned_here (Ok r) h z w e = let q : ◌≡◌ {A = ℕ} 0 1 = cc in absurd (omega arith)
    turned_here (Err v) h z w e = let q = refusal (Err v) v list h refl in let f : w ≡ record { refusal = v; line = line } = cc in (q.0, f ∙ ap (λ (u : Reason). record { refusal = u; line = line }) q.1)

    pub taken_here : (x : Result Packed Reason) → ListRead s p k i x list → OnLine line x y → (r : Packed) → y ≡ Ok r → Taken s k i p r.count r.next list
    taken_here (Ok q) h z r e = taken (Ok q) r list h cc
    taken_here (Err v) h z r e = let q : ◌≡◌ {A = ℕ} 0 1 = cc in absurd (omega arith)

  -- ---- and the lines from there on

  first_is : first_of (line_kind k i).letter (parts 10 (drop p s)) ≡ line_at (line_letter k i) s p
  first_is = rw (kind_letter k i) (sym (bridge (line_letter k i) s p))

  number_is : line_number (line_kind k i) 0 (next_of p (parts 10 (drop p s))) (first_of (line_kind k i).letter (parts 10 (drop p s))) ≡ N (line_at (line_letter k i) s p)
  number_is = λ j. line_number (line_kind k i) 0 (after_next s p j) (first_is j)

  pub line_read_lem :
      (count next m line : ℕ) (list : List ℕ) (t : Taken s k i p count next list) →
      in_turn (line_kinds k i (suc m)) line p (parts 10 (drop p s)) ≡ before t.fs (in_turn (line_kinds k (suc i) m) (suc line) next (parts 10 (drop next s)))
  unfolding in_turn line_kinds
  line_read_lem count next m line list t =
      rw (number_is, first_is, t.is, t.zero, after_next s p, t.goes, after_lines (line_letter k i) s p t.fs t.is)

  pub line_refused : (n m line : ℕ) → Refusal s k i p n → in_turn (line_kinds k i (suc m)) line p (parts 10 (drop p s)) ≡ refused n line
  unfolding in_turn line_kinds
  line_refused n m line r = rw (number_is, r.is, ne_eqb n 0 r.wrong)

-- ---- rows in front

pub behind_none : (r : Run) → behind [] r ≡ r
behind_none (read rs ls l p) = refl
behind_none (refused n l) = refl

pub behind_before : (qs : List (List Field)) (fs : List Field) (r : Run) → behind qs (before fs r) ≡ behind (qs ++ (fs ∷ [])) r
behind_before qs fs (read rs ls l p) = ap (λ (xs : List (List Field)). read xs ls l p) (sym (append_assoc qs (fs ∷ []) rs))
behind_before qs fs (refused n l) = refl

-- ---- the lists held, after one is stored

module _ (k : SheetKind) (lists : List (List ℕ)) (counts : List ℕ) (i : ℕ) (list : List ℕ) (count : ℕ) where
  held_other : (j : ℕ) (fs : List Field) → (j ≡ i → ⊥) → HeldLine k lists counts j fs → HeldLine k (set lists i list) (set counts i count) j fs
  unfolding held_at
  held_other j fs ne h =
      let a = get_or-set_other lists i j list [] ne in
      let b = get_or-set_other counts i j count 0 ne in
      record { fits = h.fits; entries = h.entries; small = h.small; room = rw b h.room; long = rw (a, b) h.long; is = rw (a, b) h.is }

  pub held_here :
      (s : List ℕ) (p next : ℕ) (t : Taken s k i p count next list) → i < length lists → i < length counts →
      HeldLine k (set lists i list) (set counts i count) i t.fs
  unfolding held_at
  held_here s p next t g h =
      let a = get_or-set_same lists i list [] g in
      let b = get_or-set_same counts i count 0 h in
      record {
        fits = good_fit (line_codes k i) (line_letter k i) 0 (after s p) t.fs t.zero;
        entries = good_entries (line_codes k i) (line_letter k i) 0 (after s p) t.fs t.zero;
        small = good_small (line_codes k i) (line_letter k i) 0 (after s p) t.fs t.zero;
        room = rw b t.room;
        long = rw (a, b) (t.counts ∙ sym (ap length t.held));
        is = rw (a, b) t.held;
      }

  module _ (lists₀ : List (List ℕ)) (counts₀ : List ℕ) (h : 1 ≤ i) (e : HeadKept lists₀ counts₀ lists counts) where
    pub kept_list : HeadKept lists₀ counts₀ (set lists i list) counts
    kept_list = record {
      lists_long = length-set lists i list ∙ e.lists_long;
      counts_long = e.counts_long;
      list = get_or-set_other lists i 0 list [] (λ z. omega arith) ∙ e.list;
      count = e.count;
    }

    pub kept_count : HeadKept lists₀ counts₀ lists (set counts i count)
    kept_count = record {
      lists_long = e.lists_long;
      counts_long = length-set counts i count ∙ e.counts_long;
      list = e.list;
      count = get_or-set_other counts i 0 count 0 (λ z. omega arith) ∙ e.count;
    }

-- ---- at the loop's head

-- the rows of the lines past, from line 1 on
pub record Head (s : List ℕ) (k : SheetKind) (n : ℕ) (whole : Run) (i p l : ℕ) (lists : List (List ℕ)) (counts : List ℕ) : Type 0 where
  pub rows : List (List Field)
  pub counted : i ≡ 1 + length rows
  pub line : l ≡ suc i
  pub within : i ≤ n
  pub answer : behind rows (lines_from s k i (n - i) p) ≡ whole
  pub held : (j : ℕ) → j < length rows → HeldLine k lists counts (1 + j) (get_or rows j [])

module _ (s : List ℕ) (k : SheetKind) (n : ℕ) where
  pub head_first : (at : ℕ) (lists : List (List ℕ)) (counts : List ℕ) → 1 ≤ n → Head s k n (lines_from s k 1 (n - 1) at) 1 at 2 lists counts
  head_first at lists counts h = record {
    rows = [];
    counted = refl;
    line = refl;
    within = h;
    answer = behind_none (lines_from s k 1 (n - 1) at);
    held = λ j e. absurd (omega arith);
  }

  module _ (whole : Run) (i p l : ℕ) (lists : List (List ℕ)) (counts : List ℕ) (h : Head s k n whole i p l lists counts) where
    -- what is left begins with line i
    left : i < n → n - i ≡ suc (n - suc i)
    left e = omega arith

    -- a line that is turned back is where the whole is
    whole_refused : (m : ℕ) → i < n → Refusal s k i p m → refused m l ≡ whole
    whole_refused m e r =
        let z : lines_from s k i (n - i) p ≡ refused m (suc i) = rw (left e) (line_refused s k i p m (n - suc i) (suc i) r) in
        rw h.line (sym (ap (behind h.rows) z) ∙ h.answer)

    pub head_refused : (m : ℕ) → i < n → Refusal s k i p m → Err (refused_on m l) ≡ lines_by whole
    head_refused m e r = ap lines_by (whole_refused m e r)

    pub held_refused : (m : ℕ) → i < n → Refusal s k i p m → (lists' : List (List ℕ)) (counts' : List ℕ) → HeldLines s k 1 whole lists' counts'
    held_refused m e r lists' counts' = rw (← whole_refused m e r) tt

    one_more :
        (fs : List Field) (lists' : List (List ℕ)) (counts' : List ℕ) → ((j : ℕ) → j < length h.rows → HeldLine k lists' counts' (1 + j) (get_or h.rows j [])) →
        HeldLine k lists' counts' i fs → (j : ℕ) → j < length (h.rows ++ (fs ∷ [])) → HeldLine k lists' counts' (1 + j) (get_or (h.rows ++ (fs ∷ [])) j [])
    one_more fs lists' counts' a b j e = go (ltb j (length h.rows)) refl
      where
        go : (t : Bool) → ltb j (length h.rows) ≡ t → HeldLine k lists' counts' (1 + j) (get_or (h.rows ++ (fs ∷ [])) j [])
        go true q = let m : j < length h.rows = ltb-true j (length h.rows) q in rw (get_or-append h.rows (fs ∷ []) [] j m) (a j m)
        go false q =
            let m : j ≡ length h.rows = omega (arith, ltb-false j (length h.rows) q, length-append h.rows (fs ∷ [])) in
            let u : 1 + j ≡ i = omega (arith, h.counted) in
            rw (u, m, get_or-append_seam h.rows fs [] []) b

    pub head_more :
        (count next : ℕ) (list : List ℕ) → i < n → n ≤ length lists → n ≤ length counts → Taken s k i p count next list →
        Head s k n whole (i + 1) next (l + 1) (set lists i list) (set counts i count)
    head_more count next list e g f t =
        let z : lines_from s k i (n - i) p ≡ before t.fs (lines_from s k (suc i) (n - suc i) next)
        = rw (left e) (line_read_lem s k i p count next (n - suc i) (suc i) list t) in
        let a : i + 1 ≡ suc i = omega arith in
        record {
          rows = h.rows ++ (t.fs ∷ []);
          counted = omega (arith, h.counted, length-append h.rows (t.fs ∷ []));
          line = omega (arith, h.line);
          within = omega arith;
          answer = rw a (sym (behind_before h.rows t.fs (lines_from s k (suc i) (n - suc i) next)) ∙ ap (behind h.rows) (sym z) ∙ h.answer);
          held = one_more t.fs (set lists i list) (set counts i count)
              (λ j b. held_other k lists counts i list count (1 + j) (get_or h.rows j []) (λ q. omega (arith, h.counted)) (h.held j b))
              (held_here k lists counts i list count s p next t (omega arith) (omega arith));
        }

    -- where no line is left, the rows are the whole
    whole_done : n ≤ i → read h.rows (parts 10 (drop p s)) l p ≡ whole
    unfolding in_turn line_kinds
    whole_done e =
        let z : n - i ≡ 0 = omega arith in
        rw h.line (ap (λ (rs : List (List Field)). read rs (parts 10 (drop p s)) (suc i) p) (sym (append-nil h.rows)) ∙ rw z at h.answer)

    pub head_done : n ≤ i → Ok (record { next = p; line = l }) ≡ lines_by whole
    head_done e = ap lines_by (whole_done e)

    pub held_done : n ≤ i → HeldLines s k 1 whole lists counts
    held_done e = rw (← whole_done e) (refl, h.held)
