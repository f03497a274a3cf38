-- Reading what was written gives it back: a field, the fields of a line, a line between any text before and after it.
-- Assumes nothing.
use mathlib.Core.Path.{◌≡◌, refl, ap, ◌∙◌}
use mathlib.Core.List.{List, [], ◌∷◌, ◌++◌, append-nil, append_assoc}
use mathlib.Core.Option.{some}
use mathlib.Core.Bool.{Bool, true, false, cond}
use Prim.Native.Nat.{ℕ, suc, ◌+◌, ◌/◌, ◌%◌, ◌<◌}
use native.Mathlib.Omega.{arith}
use lib.Dec.{eqb}
use lib.ListN.{length, drop, length-append}
use lib.Seq.{take-append_seam, drop-append_seam, drop-append-add}
use borrow.Author.Tests.{lt-ltb, leb-true, eq-eqb, ne_eqb}
use Rattle.std.proofs.lemmas.Bool.{and_parts}
use Rattle.text.specs.declared.field.Field.{Field}
use Rattle.text.specs.declared.field.Field.TheVariants.{Number as number, Empty as empty, Malformed as malformed}
use Rattle.text.specs.Text.{most, until, parts, field, fields, line, line_fields, line_at, after}
use Rattle.text.specs.Lines.{first_of}
use Rattle.text.specs.Bounds.{widest, allows, allows_all}
use Rattle.text.specs.Write.{decimal, field_text, fields_text, line_text}
use Rattle.text.proofs.Decimal.{decimal_one, decimal_more, by_tenths}
use Rattle.text.proofs.Exact.{number_exact, empty_exact}
use Rattle.text.proofs.Parts.{parts_last, parts_more}
use Rattle.text.proofs.Places.{first_cons}

-- ---- a field

pub field_back : (f : Field) → allows widest f ≡ true → field most (field_text f) ≡ f
unfolding field_text
field_back (number n) e = (number_exact most (decimal n) n).1 refl (leb-true n most e)
field_back empty e = (empty_exact most []).1 refl
field_back malformed e = absurd (cc)

-- ---- a byte that a text has not

-- xs has no b
abbrev pub Free : ℕ → List ℕ → Type 0
Free b xs = until b xs ≡ length xs

append_at : (t : Bool) (u l v w : ℕ) → cond t 0 (suc u) ≡ suc l → (u ≡ l → v ≡ l + w) → cond t 0 (suc v) ≡ suc l + w
append_at true u l v w e ih = absurd (omega arith)
append_at false u l v w e ih = omega (arith, ih (omega arith))

pub until_append : (b : ℕ) (xs ys : List ℕ) → Free b xs → until b (xs ++ ys) ≡ length xs + until b ys
unfolding until
until_append b [] ys e = omega arith
until_append b (x ∷ xs) ys e = append_at (eqb x b) (until b xs) (length xs) (until b (xs ++ ys)) (until b ys) e (until_append b xs ys)

pub free_append : (b : ℕ) (xs ys : List ℕ) → Free b xs → Free b ys → Free b (xs ++ ys)
free_append b xs ys e h = until_append b xs ys e ∙ omega (arith, h, length-append xs ys)

pub free_one : (b x : ℕ) → (x ≡ b → ⊥) → Free b (x ∷ [])
unfolding until
free_one b x ne = rw (ne_eqb x b ne)

pub free_decimal : (b : ℕ) → b < 48 → (n : ℕ) → Free b (decimal n)
free_decimal b h = by_tenths (λ n. Free b (decimal n))
    (λ n l. rw (decimal_one n l) (free_one b (48 + n) (λ e. omega arith)))
    (λ n l ih. rw (decimal_more n l) (free_append b (decimal (n / 10)) ((48 + n % 10) ∷ []) ih (free_one b (48 + n % 10) (λ e. omega arith))))

pub free_text : (b : ℕ) → b < 48 → (f : Field) → Free b (field_text f)
unfolding until field_text
free_text b h (number n) = free_decimal b h n
free_text b h empty = refl
free_text b h malformed = refl

pub free_fields : (b : ℕ) → b < 44 → (fs : List Field) → Free b (fields_text fs)
unfolding until fields_text
free_fields b h [] = refl
free_fields b h (f ∷ fs) = free_append b (44 ∷ field_text f) (fields_text fs) (free_append b (44 ∷ []) (field_text f) (free_one b 44 (λ e. omega arith)) (free_text b (omega arith) f)) (free_fields b h fs)

-- ---- the fields of a line

until_self : (b : ℕ) (ys : List ℕ) → until b (b ∷ ys) ≡ 0
unfolding until
until_self b ys = rw (eq-eqb b b refl)

pub parts_append : (b : ℕ) (xs ys : List ℕ) → Free b xs → parts b (xs ++ b ∷ ys) ≡ xs ∷ parts b ys
parts_append b xs ys e =
    let u : until b (xs ++ b ∷ ys) ≡ length xs = omega (arith, until_append b xs (b ∷ ys) e, until_self b ys) in
    let s : suc (length xs) ≡ length xs + 1 = omega arith in
    parts_more b (xs ++ b ∷ ys) (omega (arith, length-append xs (b ∷ ys)))
    ∙ rw (u, take-append_seam xs (b ∷ ys), s, drop-append-add xs (b ∷ ys) 1)

fields_back : (f : Field) (fs : List Field) → allows widest f ≡ true → allows_all widest fs ≡ true → fields (field_text f ++ fields_text fs) ≡ f ∷ fs
unfolding fields fields_text allows_all
fields_back f [] l ls = rw (append-nil (field_text f), parts_last 44 (field_text f) (free_text 44 (omega arith) f), field_back f l)
fields_back f (g ∷ gs) l ls =
    let p = and_parts (allows widest g) (allows_all widest gs) ls in
    rw (parts_append 44 (field_text f) (field_text g ++ fields_text gs) (free_text 44 (omega arith) f), field_back f l)
    (ap (λ (t : List Field). f ∷ t) (fields_back g gs p.0 p.1))

pub line_fields_back : (letter : ℕ) (fs : List Field) → allows_all widest fs ≡ true → line_fields letter (letter ∷ fields_text fs) ≡ some fs
unfolding line_fields fields_text allows_all
line_fields_back letter [] ls = rw (eq-eqb letter letter refl)
line_fields_back letter (f ∷ fs) ls =
    let p = and_parts (allows widest f) (allows_all widest fs) ls in
    rw (eq-eqb letter letter refl, fields_back f fs p.0 p.1)

-- ---- a line within a text

module _ (letter : ℕ) (fs : List Field) (plain : letter ≡ 10 → ⊥) where
  free : Free 10 (letter ∷ fields_text fs)
  free = free_append 10 (letter ∷ []) (fields_text fs) (free_one 10 letter plain) (free_fields 10 (omega arith) fs)

  -- a line that is written is one line
  pub parts_line : (post : List ℕ) → parts 10 (line_text letter fs ++ post) ≡ (letter ∷ fields_text fs) ∷ parts 10 post
  unfolding line_text
  parts_line post = rw (append_assoc (letter ∷ fields_text fs) (10 ∷ []) post) (parts_append 10 (letter ∷ fields_text fs) post free)

  module _ (legal : allows_all widest fs ≡ true) where
    pub first_back : (post : List ℕ) → first_of letter (parts 10 (line_text letter fs ++ post)) ≡ some fs
    first_back post = ap (first_of letter) (parts_line post) ∙ first_cons letter 10 (letter ∷ fields_text fs) post ∙ line_fields_back letter fs legal

    module _ (pre post : List ℕ) where
      rest : drop (length pre) (pre ++ (line_text letter fs ++ post)) ≡ (letter ∷ fields_text fs) ++ (10 ∷ post)
      unfolding line_text
      rest = drop-append_seam pre (line_text letter fs ++ post) ∙ ap (λ (t : List ℕ). letter ∷ t) (append_assoc (fields_text fs) (10 ∷ []) post)

      ends : until 10 ((letter ∷ fields_text fs) ++ (10 ∷ post)) ≡ length (letter ∷ fields_text fs)
      ends = until_append 10 (letter ∷ fields_text fs) (10 ∷ post) free ∙ omega (arith, until_self 10 post)

      pub line_back : line_at letter (pre ++ (line_text letter fs ++ post)) (length pre) ≡ some fs
      unfolding line_at line
      line_back =
          rw (rest, ends, lt-ltb (length (letter ∷ fields_text fs)) (length ((letter ∷ fields_text fs) ++ (10 ∷ post))) (omega (arith, length-append (letter ∷ fields_text fs) (10 ∷ post))))
          (ap (line_fields letter) (take-append_seam (letter ∷ fields_text fs) (10 ∷ post)) ∙ line_fields_back letter fs legal)

      -- the place after it is that of the text after it
      pub after_back : after (pre ++ (line_text letter fs ++ post)) (length pre) ≡ length pre + length (line_text letter fs)
      unfolding after line_text
      after_back = rw (rest, ends) (omega (arith, length-append (fields_text fs) (10 ∷ [])))
