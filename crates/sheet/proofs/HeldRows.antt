-- The rows of a sheet that was read: how many they are, and what is held of them.
-- Assumes nothing.
use Prim.Native.Nat.{ℕ, zero, suc, ◌+◌, ◌≤◌, ◌<◌}
use mathlib.Core.Path.{◌≡◌, refl, ap, ◌∙◌}
use mathlib.Core.Bool.{Bool, true, false, cond}
use mathlib.Core.Option.{Option}
use mathlib.Core.List.{List, [], ◌∷◌, ◌++◌, tail}
use native.Mathlib.Omega.{arith}
use borrow.Author.Tests.{ne_eqb}
use lib.Dec.{eqb}
use lib.ListN.{length, replicate}
use Rattle.text.specs.declared.field.Field.{Field}
use Rattle.text.specs.Text.{parts}
use Rattle.text.specs.Lines.{first_of, next_of}
use Rattle.linekinds.specs.Lines.{Kind, Run, read, refused, before, line_number, fields_of}
use Rattle.linekinds.specs.KeyLines.{at, expr_line}
use Rattle.linekinds.specs.ListLines.{line_kind}
use Rattle.linekinds.specs.declared.lists.SheetKind.{SheetKind}
use Rattle.linekinds.specs.declared.lists.SheetKind.TheVariants.{Key, Join}
use Rattle.sheet.specs.KeySheets.{head_of}
use Rattle.sheet.specs.Refusals.{key_kinds, join_kinds}
use Rattle.sheet.specs.SheetLines.{in_turn, line_kinds, line_count, whole_lines}

-- ---- the kinds of a sheet's lines

child_kind : (i : ℕ) → 9 ≤ i → line_kind Key i ≡ expr_line 67
child_kind i h =
    let n : (m : ℕ) → m < 9 → eqb i m ≡ false = λ m e. ne_eqb i m (λ z. omega arith) in
    rw (n 0 (omega arith), n 1 (omega arith), n 2 (omega arith), n 3 (omega arith), n 4 (omega arith), n 5 (omega arith), n 6 (omega arith), n 7 (omega arith), n 8 (omega arith))

child_kinds_lem : (n i : ℕ) → 9 ≤ i → line_kinds Key i n ≡ replicate n (expr_line 67) ++ []
unfolding line_kinds
child_kinds_lem zero i h = refl
child_kinds_lem (suc n) i h = λ j. child_kind i h j ∷ child_kinds_lem n (suc i) (omega arith) j

-- R, L, G, S, W, O, A, M, C
pub key_kinds_lem : (s : List ℕ) → key_kinds s ≡ line_kinds Key 0 (line_count Key (fields_of (first_of 75 (parts 10 s))))
unfolding line_kinds
key_kinds_lem s =
    let c : ℕ = at (fields_of (first_of 75 (parts 10 s))) 6 in
    let e : 9 + c ≡ suc (suc (suc (suc (suc (suc (suc (suc (suc c)))))))) = omega arith in
    rw (e, child_kinds_lem c 9 (omega arith))

pub join_kinds_lem : join_kinds ≡ line_kinds Join 0 8
unfolding line_kinds
join_kinds_lem = refl

-- ---- how many rows were read, and the first of them

before_many : (r : Run) (n : ℕ) (fs : List Field) (rs : List (List Field)) (ls : List (List ℕ)) (l p : ℕ) →
    ((qs : List (List Field)) (ms : List (List ℕ)) (m q : ℕ) → r ≡ read qs ms m q → length qs ≡ n) → before fs r ≡ read rs ls l p → (length rs ≡ suc n) × (head_of rs ≡ fs)
before_many (refused m q) n fs rs ls l p h e = absurd (cc)
before_many (read qs ms m q) n fs rs ls l p h e =
    let z : fs ∷ qs ≡ rs = cc in
    (rw (← z) (ap suc (h qs ms m q refl)), rw (← z))

turn_at : (t : Bool) (r : Run) (fs : List Field) (n k line : ℕ) (rs : List (List Field)) (ls : List (List ℕ)) (l p : ℕ) →
    ((qs : List (List Field)) (ms : List (List ℕ)) (m q : ℕ) → r ≡ read qs ms m q → length qs ≡ n) →
    cond t (before fs r) (refused k line) ≡ read rs ls l p → (length rs ≡ suc n) × (head_of rs ≡ fs)
turn_at true r fs n k line rs ls l p h e = before_many r n fs rs ls l p h e
turn_at false r fs n k line rs ls l p h e = absurd (cc)

turn_many : (ks : List Kind) (line at : ℕ) (ls : List (List ℕ)) (rs : List (List Field)) (ms : List (List ℕ)) (l p : ℕ) → in_turn ks line at ls ≡ read rs ms l p → length rs ≡ length ks
unfolding in_turn
turn_many [] line at ls rs ms l p e = let z : [] ≡ rs = cc in rw (← z)
turn_many (k ∷ ks) line at ls rs ms l p e =
    let x : Option (List Field) = first_of k.letter ls in
    let n : ℕ = line_number k 0 (next_of at ls) x in
    (turn_at (eqb n 0) (in_turn ks (suc line) (next_of at ls) (tail ls)) (fields_of x) (length ks) n line rs ms l p (turn_many ks (suc line) (next_of at ls) (tail ls)) e).0

turn_head : (k : Kind) (ks : List Kind) (line at : ℕ) (ls : List (List ℕ)) (rs : List (List Field)) (ms : List (List ℕ)) (l p : ℕ) →
    in_turn (k ∷ ks) line at ls ≡ read rs ms l p → head_of rs ≡ fields_of (first_of k.letter ls)
unfolding in_turn
turn_head k ks line at ls rs ms l p e =
    let x : Option (List Field) = first_of k.letter ls in
    let n : ℕ = line_number k 0 (next_of at ls) x in
    (turn_at (eqb n 0) (in_turn ks (suc line) (next_of at ls) (tail ls)) (fields_of x) (length ks) n line rs ms l p (turn_many ks (suc line) (next_of at ls) (tail ls)) e).1

pub kinds_long : (k : SheetKind) (n i : ℕ) → length (line_kinds k i n) ≡ n
unfolding line_kinds
kinds_long k zero i = refl
kinds_long k (suc n) i = ap suc (kinds_long k n (suc i))

pub key_rows_many :
    (s : List ℕ) (rs : List (List Field)) (ls : List (List ℕ)) (l p : ℕ) → whole_lines Key s ≡ read rs ls l p → length rs ≡ 9 + at (fields_of (first_of 75 (parts 10 s))) 6
unfolding whole_lines
key_rows_many s rs ls l p e =
    let n : ℕ = 9 + at (fields_of (first_of 75 (parts 10 s))) 6 in
    turn_many (line_kinds Key 0 n) 1 0 (parts 10 s) rs ls l p e ∙ kinds_long Key n 0

pub key_many : (s : List ℕ) (rs : List (List Field)) (ls : List (List ℕ)) (l p : ℕ) → whole_lines Key s ≡ read rs ls l p → length rs ≡ 9 + at (head_of rs) 6
unfolding whole_lines line_kinds
key_many s rs ls l p e =
    let fs : List Field = fields_of (first_of 75 (parts 10 s)) in
    let c : suc (8 + at fs 6) ≡ 9 + at fs 6 = omega arith in
    let h : head_of rs ≡ fs = turn_head (line_kind Key 0) (line_kinds Key 1 (8 + at fs 6)) 1 0 (parts 10 s) rs ls l p (ap (λ (n : ℕ). in_turn (line_kinds Key 0 n) 1 0 (parts 10 s)) c ∙ e) in
    key_rows_many s rs ls l p e ∙ rw (← h)

pub join_many : (s : List ℕ) (rs : List (List Field)) (ls : List (List ℕ)) (l p : ℕ) → whole_lines Join s ≡ read rs ls l p → length rs ≡ 8
unfolding whole_lines
join_many s rs ls l p e = turn_many (line_kinds Join 0 8) 1 0 (parts 10 s) rs ls l p e ∙ kinds_long Join 8 0
