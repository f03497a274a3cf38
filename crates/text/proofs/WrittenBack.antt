-- Writing what was read gives the bytes: a field, a line without its LF, a line at a place of a text.
-- Assumes nothing.
use mathlib.Core.Path.{◌≡◌, refl, sym, ap, ap₂, ◌∙◌}
use mathlib.Core.List.{List, [], ◌∷◌, ◌++◌, append_assoc, map}
use mathlib.Core.Option.{none, some}
use mathlib.Core.Bool.{Bool, true, false, cond, ◌&&◌}
use Prim.Native.Nat.{ℕ, suc, ◌+◌, ◌<◌}
use native.Mathlib.Omega.{arith}
use lib.Dec.{leb, eqb}
use lib.ListN.{length, take, drop, length-append, length-drop, take-append-drop}
use lib.Seq.{drop-drop}
use borrow.Author.Tests.{eqb-true}
use Rattle.std.proofs.lemmas.Bool.{and_parts}
use Rattle.text.specs.declared.field.Field.{Field}
use Rattle.text.specs.declared.field.Field.TheVariants.{Number as number, Empty as empty, Malformed as malformed}
use Rattle.text.specs.Text.{most, state_of, until, onto, parts, field, fields, line, line_fields, line_at, after}
use Rattle.text.specs.Lines.{first_of}
use Rattle.text.specs.Bounds.{well_formed}
use Rattle.text.specs.Write.{field_text, fields_text, line_text}
use Rattle.text.proofs.Exact.{number_exact, empty_exact}
use Rattle.text.proofs.Places.{ended, read_fields, after_within}

-- ---- a field

again_at : (m : ℕ) (p : List ℕ) (f : Field) → field m p ≡ f → leb (state_of f) 1 ≡ true → field_text f ≡ p
unfolding field_text
again_at m p (number n) e h = sym ((number_exact m p n).0 e).0
again_at m p empty e h = sym ((empty_exact m p).0 e)
again_at m p malformed e h = absurd (cc)

pub field_again : (m : ℕ) (p : List ℕ) → leb (state_of (field m p)) 1 ≡ true → field_text (field m p) ≡ p
field_again m p = again_at m p (field m p) refl

-- ---- parts, a byte before each

unfoldable pub led : ℕ → List (List ℕ) → List ℕ
led b [] = []
led b (p ∷ ps) = b ∷ (p ++ led b ps)

led_onto : (b x : ℕ) (xs : List ℕ) (ps : List (List ℕ)) → led b ps ≡ b ∷ xs → led b (onto x ps) ≡ b ∷ (x ∷ xs)
unfolding led onto
led_onto b x xs [] e = absurd (cc)
led_onto b x xs (p ∷ ps) e = let q : p ++ led b ps ≡ xs = cc in ap (λ (ys : List ℕ). b ∷ (x ∷ ys)) q

led_at : (t : Bool) (b x : ℕ) (xs : List ℕ) (ps : List (List ℕ)) → eqb x b ≡ t → led b ps ≡ b ∷ xs → led b (cond t ([] ∷ ps) (onto x ps)) ≡ b ∷ (x ∷ xs)
unfolding led
led_at true b x xs ps t e = rw (eqb-true x b t) (ap (λ (ys : List ℕ). b ∷ ys) e)
led_at false b x xs ps t e = led_onto b x xs ps e

pub led_parts : (b : ℕ) (xs : List ℕ) → led b (parts b xs) ≡ b ∷ xs
unfolding led parts
led_parts b [] = refl
led_parts b (x ∷ xs) = led_at (eqb x b) b x xs (parts b xs) refl (led_parts b xs)

-- ---- a line without its LF

fields_again : (ps : List (List ℕ)) → well_formed (map (field most) ps) ≡ true → fields_text (map (field most) ps) ≡ led 44 ps
unfolding well_formed fields_text led
fields_again [] h = refl
fields_again (p ∷ ps) h =
    let q = and_parts (leb (state_of (field most p)) 1) (well_formed (map (field most) ps)) h in
    ap₂ (λ (x y : List ℕ). 44 ∷ (x ++ y)) (field_again most p q.0) (fields_again ps q.1)

bare_at : (t : Bool) (letter x : ℕ) (fs : List Field) → eqb x letter ≡ t → cond t (some []) none ≡ some fs → letter ∷ fields_text fs ≡ x ∷ []
unfolding fields_text
bare_at true letter x fs t e = let z : [] ≡ fs = cc in rw (← z, eqb-true x letter t)
bare_at false letter x fs t e = absurd (cc)

line_at_lem : (t : Bool) (letter x c : ℕ) (cs : List ℕ) (fs : List Field) → (eqb x letter && eqb c 44) ≡ t → cond t (some (map (field most) (parts 44 cs))) none ≡ some fs → well_formed fs ≡ true → letter ∷ fields_text fs ≡ x ∷ c ∷ cs
line_at_lem true letter x c cs fs t e l =
    let z : map (field most) (parts 44 cs) ≡ fs = cc in
    let q = and_parts (eqb x letter) (eqb c 44) t in
    rw (eqb-true x letter q.0, eqb-true c 44 q.1, ← z) (ap (λ (ys : List ℕ). letter ∷ ys) (fields_again (parts 44 cs) (rw z l) ∙ led_parts 44 cs))
line_at_lem false letter x c cs fs t e l = absurd (cc)

pub line_fields_again : (letter : ℕ) (l : List ℕ) (fs : List Field) → line_fields letter l ≡ some fs → well_formed fs ≡ true → letter ∷ fields_text fs ≡ l
unfolding line_fields fields
line_fields_again letter [] fs e h = absurd (cc)
line_fields_again letter (x ∷ []) fs e h = bare_at (eqb x letter) letter x fs refl e
line_fields_again letter (x ∷ c ∷ cs) fs e h = line_at_lem (eqb x letter && eqb c 44) letter x c cs fs refl e h

pub first_again : (letter : ℕ) (l : List ℕ) (ls : List (List ℕ)) (fs : List Field) → first_of letter (l ∷ ls) ≡ some fs → well_formed fs ≡ true → letter ∷ fields_text fs ≡ l
unfolding first_of
first_again letter l [] fs e h = absurd (cc)
first_again letter l (m ∷ ms) fs e h = line_fields_again letter l fs e h

-- ---- a line at a place

stop_at : (t : Bool) (b x u : ℕ) (xs : List ℕ) → eqb x b ≡ t → cond t 0 (suc u) < suc (length xs) → (u < length xs → drop u xs ≡ b ∷ drop (suc u) xs) → drop (cond t 0 (suc u)) (x ∷ xs) ≡ b ∷ drop (suc (cond t 0 (suc u))) (x ∷ xs)
stop_at true b x u xs t h ih = rw (eqb-true x b t)
stop_at false b x u xs t h ih = ih (omega arith)

-- the byte that a search finds
drop_until : (b : ℕ) (xs : List ℕ) → until b xs < length xs → drop (until b xs) xs ≡ b ∷ drop (suc (until b xs)) xs
unfolding until
drop_until b [] h = absurd (omega arith)
drop_until b (x ∷ xs) h = stop_at (eqb x b) b x (until b xs) xs refl h (drop_until b xs)

module _ (letter : ℕ) (s : List ℕ) (at : ℕ) (fs : List Field) (read : line_at letter s at ≡ some fs) (well : well_formed fs ≡ true) where
  -- the text from the place on is the line, written, and what follows it
  pub line_again : drop at s ≡ line_text letter fs ++ drop (after s at) s
  unfolding after line_text line
  line_again =
      let r : List ℕ = drop at s in
      let u : ℕ = until 10 (drop at s) in
      let e : at + u + 1 ≡ at + suc u = omega arith in
      let l : letter ∷ fields_text fs ≡ take u r = line_fields_again letter (line r) fs (read_fields letter s at fs read) well in
      sym (take-append-drop u r)
      ∙ ap₂ (λ (x y : List ℕ). x ++ y) (sym l) (drop_until 10 r (ended letter s at fs read))
      ∙ sym (append_assoc (letter ∷ fields_text fs) (10 ∷ []) (drop (suc u) r))
      ∙ ap (λ (t : List ℕ). line_text letter fs ++ t) (drop-drop (suc u) at s ∙ ap (λ (i : ℕ). drop i s) (sym e))

  pub after_again : after s at ≡ at + length (line_text letter fs)
  after_again =
      let w = after_within letter s at fs read in
      omega (arith, ap length line_again, length-append (line_text letter fs) (drop (after s at) s), length-drop at s, length-drop (after s at) s)
