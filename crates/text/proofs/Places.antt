-- Lines by their places and lines as a list: a line at a place of a text is the first of the lines from that place on.
-- Assumes nothing.
use mathlib.Core.Path.{◌≡◌, refl, sym}
use mathlib.Core.List.{List, [], ◌∷◌, tail}
use mathlib.Core.Option.{Option, none, some}
use mathlib.Core.Bool.{Bool, true, false, cond}
use Prim.Native.Nat.{ℕ, suc, ◌+◌, ◌≤◌, ◌<◌}
use native.Mathlib.Omega.{arith}
use lib.Dec.{eqb, ltb}
use lib.ListN.{length, take, drop, length-drop}
use lib.Seq.{drop-drop}
use borrow.Author.Tests.{ltb-true, ltb-false}
use Rattle.text.specs.declared.field.Field.{Field}
use Rattle.text.specs.Text.{until, onto, parts, line, line_fields, line_at, after}
use Rattle.text.specs.Lines.{first_of, next_of}
use Rattle.text.proofs.Parts.{until_le, parts_last, parts_more}

onto_first : (letter x : ℕ) (l : List ℕ) (ps : List (List ℕ)) → first_of letter (l ∷ onto x ps) ≡ line_fields letter l
unfolding first_of onto
onto_first letter x l [] = refl
onto_first letter x l (p ∷ ps) = refl

first_at_lem : (t : Bool) (letter x : ℕ) (l : List ℕ) (ps : List (List ℕ)) → first_of letter (l ∷ cond t ([] ∷ ps) (onto x ps)) ≡ line_fields letter l
unfolding first_of
first_at_lem true letter x l ps = refl
first_at_lem false letter x l ps = onto_first letter x l ps

-- a part follows every line that is ended
pub first_cons : (letter b : ℕ) (l xs : List ℕ) → first_of letter (l ∷ parts b xs) ≡ line_fields letter l
unfolding first_of parts
first_cons letter b l [] = refl
first_cons letter b l (x ∷ xs) = first_at_lem (eqb x b) letter x l (parts b xs)

bridge_at : (letter : ℕ) (r : List ℕ) (t : Bool) → ltb (until 10 r) (length r) ≡ t → cond t (line_fields letter (line r)) none ≡ first_of letter (parts 10 r)
unfolding first_of line
bridge_at letter r true e = rw (parts_more 10 r (ltb-true (until 10 r) (length r) e)) (sym (first_cons letter 10 (take (until 10 r) r) (drop (suc (until 10 r)) r)))
bridge_at letter r false e =
    let all : until 10 r ≡ length r = omega (arith, until_le 10 r, ltb-false (until 10 r) (length r) e) in
    rw (parts_last 10 r all)

pub bridge : (letter : ℕ) (s : List ℕ) (at : ℕ) → line_at letter s at ≡ first_of letter (parts 10 (drop at s))
unfolding line_at
bridge letter s at = bridge_at letter (drop at s) (ltb (until 10 (drop at s)) (length (drop at s))) refl

pub onward : (s : List ℕ) (at : ℕ) → until 10 (drop at s) < length (drop at s) → parts 10 (drop (after s at) s) ≡ tail (parts 10 (drop at s))
unfolding after
onward s at h =
    let e : at + until 10 (drop at s) + 1 ≡ at + suc (until 10 (drop at s)) = omega arith in
    rw (parts_more 10 (drop at s) h, e, drop-drop (suc (until 10 (drop at s))) at s)

-- the place after the first line
onto_next : (x : ℕ) (ps : List (List ℕ)) (u at : ℕ) → next_of at ps ≡ suc (at + u) → next_of at (onto x ps) ≡ suc (at + suc u)
unfolding onto
onto_next x [] u at e = absurd (omega arith)
onto_next x (p ∷ ps) u at e = omega arith

next_at : (t : Bool) (at x : ℕ) (ps : List (List ℕ)) (u : ℕ) → next_of at ps ≡ suc (at + u) → next_of at (cond t ([] ∷ ps) (onto x ps)) ≡ suc (at + cond t 0 (suc u))
next_at true at x ps u e = refl
next_at false at x ps u e = onto_next x ps u at e

next_until : (b at : ℕ) (xs : List ℕ) → next_of at (parts b xs) ≡ suc (at + until b xs)
unfolding until parts
next_until b at [] = refl
next_until b at (x ∷ xs) = next_at (eqb x b) at x (parts b xs) (until b xs) (next_until b at xs)

pub after_next : (s : List ℕ) (at : ℕ) → next_of at (parts 10 (drop at s)) ≡ after s at
unfolding after
after_next s at = omega (arith, next_until 10 at (drop at s))

ended_at : (t : Bool) (x : Option (List Field)) (fs : List Field) → cond t x none ≡ some fs → t ≡ true
ended_at true x fs e = refl
ended_at false x fs e = absurd (cc)

-- a line that was read is ended
pub ended : (letter : ℕ) (s : List ℕ) (at : ℕ) (fs : List Field) → line_at letter s at ≡ some fs → until 10 (drop at s) < length (drop at s)
unfolding line_at
ended letter s at fs e = ltb-true (until 10 (drop at s)) (length (drop at s)) (ended_at (ltb (until 10 (drop at s)) (length (drop at s))) (line_fields letter (line (drop at s))) fs e)

fields_at_lem : (t : Bool) (x : Option (List Field)) (fs : List Field) → cond t x none ≡ some fs → x ≡ some fs
fields_at_lem true x fs e = e
fields_at_lem false x fs e = absurd (cc)

-- its fields are those of its bytes
pub read_fields : (letter : ℕ) (s : List ℕ) (at : ℕ) (fs : List Field) → line_at letter s at ≡ some fs → line_fields letter (line (drop at s)) ≡ some fs
unfolding line_at
read_fields letter s at fs e = fields_at_lem (ltb (until 10 (drop at s)) (length (drop at s))) _ fs e

-- the place after a line that was read, and the lines from there on
pub after_within : (letter : ℕ) (s : List ℕ) (at : ℕ) (fs : List Field) → line_at letter s at ≡ some fs → (at < after s at) × (after s at ≤ length s)
unfolding after
after_within letter s at fs e = let h = ended letter s at fs e in (omega arith, omega (arith, length-drop at s))

pub after_lines : (letter : ℕ) (s : List ℕ) (at : ℕ) (fs : List Field) → line_at letter s at ≡ some fs → parts 10 (drop (after s at) s) ≡ tail (parts 10 (drop at s))
after_lines letter s at fs e = onward s at (ended letter s at fs e)
