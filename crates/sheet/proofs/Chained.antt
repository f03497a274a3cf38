-- A chain of runs of known numbers is a line of each kind in turn; so a sheet is read line by line.
use mathlib.Core.Path.{◌≡◌, refl, sym, ◌∙◌}
use Prim.Native.Nat.{ℕ, zero, suc, ◌-◌}
use native.Mathlib.Omega.{arith}
use mathlib.Core.List.{List, [], ◌∷◌, ◌++◌, tail}
use mathlib.Core.Bool.{Bool, true, false, cond}
use mathlib.Core.Option.{Option, none, some}
use lib.Dec.{eqb}
use lib.ListN.{drop, replicate}
use borrow.Author.Tests.{ne_eqb}
use Rattle.text.specs.declared.field.Field.{Field}
use Rattle.text.specs.Lines.{first_of, next_of}
use Rattle.linekinds.specs.Lines.{Kind, Stage, Run, read, refused, before, behind, onward, line_number, fields_of, rows_of, chain}
use Rattle.sheet.specs.KeySheets.{Reading, ended, head_of, after_head}
use Rattle.sheet.specs.Sizes.{Each}
use Rattle.sheet.specs.Refusals.{kinds_of}
use Rattle.sheet.specs.SheetLines.{in_turn}
use Rattle.sheet.proofs.InTurn.{Counted}

number_seen : (k : Kind) → Counted k → (seen next : ℕ) (x : Option (List Field)) → line_number k seen next x ≡ line_number k 0 next x
unfolding line_number
number_seen k c seen next none = refl
number_seen k c seen next (some fs) = rw (c.large seen fs)

-- a run of n lines
rows_in_turn : (k : Kind) → Counted k → (n seen line at : ℕ) (ls : List (List ℕ)) → rows_of k n seen line at ls ≡ in_turn (replicate n k) line at ls
unfolding rows_of in_turn first_of line_number
rows_in_turn k c zero seen line at [] = rw (c.stops 0 none)
rows_in_turn k c zero seen line at (l ∷ ls) = rw (c.stops 0 (first_of k.letter (l ∷ ls)))
rows_in_turn k c (suc n) seen line at [] = rw (c.stops (suc n) none, ne_eqb (suc n) 0 (λ e. omega arith))
rows_in_turn k c (suc n) seen line at (l ∷ ls) =
    let x : Option (List Field) = first_of k.letter (l ∷ ls) in
    let next : ℕ = next_of at (l ∷ ls) in
    let e : suc n - 1 ≡ n = omega arith in
    rw (c.stops (suc n) x, ne_eqb (suc n) 0 (λ e. omega arith), number_seen k c seen next x, c.owes (suc n) (fields_of x), e, rows_in_turn k c n (suc seen) (suc line) next ls)

-- ---- lines behind lines

before_behind : (fs : List Field) (rs : List (List Field)) (r : Run) → before fs (behind rs r) ≡ behind (fs ∷ rs) r
before_behind fs rs (read qs ls l p) = refl
before_behind fs rs (refused n l) = refl

onward_at :
    (b : Bool) (fs : List Field) (r : Run) (n line : ℕ) (f : ℕ → ℕ → List (List ℕ) → Run) →
    cond b (before fs (onward r f)) (refused n line) ≡ onward (cond b (before fs r) (refused n line)) f
onward_at true fs (read rs ls l p) n line f = before_behind fs rs (f l p ls)
onward_at true fs (refused m l) n line f = refl
onward_at false fs r n line f = refl

behind_none : (r : Run) → r ≡ behind [] r
behind_none (read rs ls l p) = refl
behind_none (refused n l) = refl

turn_append : (ks ms : List Kind) (line at : ℕ) (ls : List (List ℕ)) → in_turn (ks ++ ms) line at ls ≡ onward (in_turn ks line at ls) (in_turn ms)
unfolding in_turn
turn_append [] ms line at ls = behind_none (in_turn ms line at ls)
turn_append (k ∷ ks) ms line at ls =
    let x : Option (List Field) = first_of k.letter ls in
    let n : ℕ = line_number k 0 (next_of at ls) x in
    rw (turn_append ks ms (suc line) (next_of at ls) (tail ls)) (onward_at (eqb n 0) (fields_of x) (in_turn ks (suc line) (next_of at ls) (tail ls)) n line (in_turn ms))

pub chain_in_turn : (cs : List Stage) → Each (λ c. Counted c.kind) cs → (line at : ℕ) (ls : List (List ℕ)) → chain cs line at ls ≡ in_turn (kinds_of cs) line at ls
unfolding chain in_turn
chain_in_turn [] e line at ls = refl
chain_in_turn (c ∷ cs) e line at ls =
    (λ j. onward (rows_in_turn c.kind e.0 c.count 0 line at ls j) (λ l p ms. chain_in_turn cs e.1 l p ms j))
    ∙ sym (turn_append (replicate c.count c.kind) (kinds_of cs) line at ls)

-- a row in front of what was read is a row in front of what the sheet is made of
pub ended_before : {A : Type 0} (whole : List (List Field) → Reading A) (fs : List Field) (r : Run) → ended whole (before fs r) ≡ ended (λ rs. whole (fs ∷ rs)) r
ended_before whole fs (read rs ls l p) = refl
ended_before whole fs (refused n l) = refl

-- ---- a head line, and the stages that its fields ask for

module _ {A : Type 0} (stages : List Field → List Stage) (whole : List Field → List (List Field) → Reading A) where
  -- the rows of all lines
  abbrev pub whole_rows : List (List Field) → Reading A
  whole_rows rs = whole (head_of rs) (drop 1 rs)

  head_at :
      (b : Bool) (fs : List Field) (n line at : ℕ) (ls : List (List ℕ)) → Each (λ c. Counted c.kind) (stages fs) →
      after_head stages whole (cond b (read (fs ∷ []) ls line at) (refused n 1)) ≡ ended whole_rows (cond b (before fs (in_turn (kinds_of (stages fs)) line at ls)) (refused n 1))
  head_at true fs n line at ls e = rw (chain_in_turn (stages fs) e line at ls) (sym (ended_before whole_rows fs (in_turn (kinds_of (stages fs)) line at ls)))
  head_at false fs n line at ls e = refl

  pub head_in_turn :
      (k : Kind) → Counted k → ((fs : List Field) → Each (λ c. Counted c.kind) (stages fs)) → (ls : List (List ℕ)) →
      after_head stages whole (rows_of k 1 0 1 0 ls) ≡ ended whole_rows (in_turn (k ∷ kinds_of (stages (fields_of (first_of k.letter ls)))) 1 0 ls)
  unfolding in_turn
  head_in_turn k c e ls =
      let x : Option (List Field) = first_of k.letter ls in
      let n : ℕ = line_number k 0 (next_of 0 ls) x in
      rw (rows_in_turn k c 1 0 1 0 ls) (head_at (eqb n 0) (fields_of x) n 2 (next_of 0 ls) (tail ls) (e (fields_of x)))
