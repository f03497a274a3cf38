-- A line's text is that of one line only: its letter, its fields and what follows it are known from the bytes. The numbers have no bound.
--     line_once           any letter, any fields but `malformed`, which is written as an empty field is
--     numbers_line_once    a line of numbers
--     exprs_line_once      a line of expressions
use Prim.Native.Nat.{ℕ, ◌+◌, ◌/◌, ◌%◌, ◌≤◌, ◌<◌}
use mathlib.Core.Path.{◌≡◌, refl, sym, ap}
use mathlib.Core.List.{List, [], ◌∷◌, ◌++◌, map, append_assoc}
use native.Mathlib.Omega.{arith}
use lib.ListN.{length}
use Rattle.text.specs.declared.field.Field.{Field}
use Rattle.text.specs.declared.field.Field.TheVariants.{Number as number, Empty as empty, Malformed as malformed}
use Rattle.text.specs.Write.{decimal, field_text, fields_text, line_text}
use Rattle.text.proofs.Decimal.{decimal_one, decimal_more, decimal_some, by_tenths}
use Rattle.text.proofs.Exact.{decimal_injective}
use Rattle.keys.specs.Expressions.{Expression}
use Rattle.sheet.specs.KeyAnswers.{numbers_line, expr_numbers, exprs_line}

-- a number, or nothing
abbrev pub PlainField : Field → Type 0
PlainField (number n) = Unit {0}
PlainField empty = Unit {0}
PlainField malformed = ⊥

abbrev pub Plain : List Field → Type 0
Plain [] = Unit {0}
Plain (f ∷ fs) = PlainField f × Plain fs

-- ---- a text of digits ends where a comma or a LF stands

-- no byte is below the digit 0
abbrev Digits : List ℕ → Type 0
Digits [] = Unit {0}
Digits (b ∷ bs) = (48 ≤ b) × Digits bs

-- the first byte is
abbrev Parted : List ℕ → Type 0
Parted [] = ⊥
Parted (b ∷ bs) = b < 48

digits_append : (xs ys : List ℕ) → Digits xs → Digits ys → Digits (xs ++ ys)
digits_append [] ys h k = k
digits_append (x ∷ xs) ys h k = (h.0, digits_append xs ys h.1 k)

decimal_digits : (n : ℕ) → Digits (decimal n)
decimal_digits = by_tenths (λ n. Digits (decimal n))
    (λ n h. rw (decimal_one n h) (omega arith, tt))
    (λ n h ih. rw (decimal_more n h) (digits_append (decimal (n / 10)) ((48 + n % 10) ∷ []) ih (omega arith, tt)))

field_digits : (f : Field) → Digits (field_text f)
unfolding field_text
field_digits (number n) = decimal_digits n
field_digits empty = tt
field_digits malformed = tt

parted : (xs ys us vs : List ℕ) → Digits xs → Digits ys → Parted us → Parted vs → xs ++ us ≡ ys ++ vs → (xs ≡ ys) × (us ≡ vs)
parted [] [] us vs p q h k e = (refl, e)
parted [] (y ∷ ys) [] vs p q h k e = absurd h
parted [] (y ∷ ys) (u ∷ us) vs p q h k e = let z : u ≡ y = cc in absurd (omega (arith, q.0))
parted (x ∷ xs) [] us [] p q h k e = absurd k
parted (x ∷ xs) [] us (v ∷ vs) p q h k e = let z : x ≡ v = cc in absurd (omega (arith, p.0))
parted (x ∷ xs) (y ∷ ys) us vs p q h k e =
    let a : x ≡ y = cc in
    let r = parted xs ys us vs p.1 q.1 h k (cc) in
    (λ j. a j ∷ r.0 j, r.1)

-- ---- fields

no_digits : (n : ℕ) → decimal n ≡ [] → ⊥
no_digits n e = let z : length (decimal n) ≡ 0 = ap length e in omega (arith, decimal_some n)

field_once : (f g : Field) → PlainField f → PlainField g → field_text f ≡ field_text g → f ≡ g
unfolding field_text
field_once (number n) (number m) p q e = ap number (decimal_injective n m e)
field_once (number n) empty p q e = absurd (no_digits n e)
field_once (number n) malformed p q e = absurd q
field_once empty (number m) p q e = absurd (no_digits m (sym e))
field_once empty empty p q e = refl
field_once empty malformed p q e = absurd q
field_once malformed g p q e = absurd p

fields_parted : (fs : List Field) (xs : List ℕ) → Parted (fields_text fs ++ (10 ∷ xs))
unfolding fields_text
fields_parted [] xs = omega arith
fields_parted (f ∷ fs) xs = omega arith

fields_once : (fs gs : List Field) (xs ys : List ℕ) → Plain fs → Plain gs → fields_text fs ++ (10 ∷ xs) ≡ fields_text gs ++ (10 ∷ ys) → (fs ≡ gs) × (xs ≡ ys)
unfolding fields_text
fields_once [] [] xs ys p q e = (refl, cc)
fields_once [] (g ∷ gs) xs ys p q e = absurd (cc)
fields_once (f ∷ fs) [] xs ys p q e = absurd (cc)
fields_once (f ∷ fs) (g ∷ gs) xs ys p q e =
    let t : (field_text f ++ fields_text fs) ++ (10 ∷ xs) ≡ (field_text g ++ fields_text gs) ++ (10 ∷ ys) = cc in
    let u : field_text f ++ (fields_text fs ++ (10 ∷ xs)) ≡ field_text g ++ (fields_text gs ++ (10 ∷ ys)) = simp append_assoc at t in
    let r = parted (field_text f) (field_text g) _ _ (field_digits f) (field_digits g) (fields_parted fs xs) (fields_parted gs ys) u in
    let a : f ≡ g = field_once f g p.0 q.0 r.0 in
    let s = fields_once fs gs xs ys p.1 q.1 r.1 in
    (λ j. a j ∷ s.0 j, s.1)

-- ---- lines

pub record SameLine {A : Type 0} (a b : ℕ) (fs gs : A) (xs ys : List ℕ) : Type 0 where
  pub letter : a ≡ b
  pub fields : fs ≡ gs
  pub rest : xs ≡ ys

pub line_once : (a b : ℕ) (fs gs : List Field) (xs ys : List ℕ) → Plain fs → Plain gs → line_text a fs ++ xs ≡ line_text b gs ++ ys → SameLine a b fs gs xs ys
unfolding line_text
line_once a b fs gs xs ys p q e =
    let t : (fields_text fs ++ (10 ∷ [])) ++ xs ≡ (fields_text gs ++ (10 ∷ [])) ++ ys = cc in
    let u : fields_text fs ++ (10 ∷ xs) ≡ fields_text gs ++ (10 ∷ ys) = simp append_assoc at t in
    let r = fields_once fs gs xs ys p q u in
    record { letter = cc; fields = r.0; rest = r.1 }

numbers_plain : (ns : List ℕ) → Plain (map number ns)
numbers_plain [] = tt
numbers_plain (n ∷ ns) = (tt, numbers_plain ns)

-- a text from which the first element and that of the rest are known, and which is another where there is none, is that of one list only
pub each_once : {A B : Type 0} (f : List A → B) → ((y : A) (ys : List A) → f [] ≡ f (y ∷ ys) → ⊥)
    → ((x y : A) (xs ys : List A) → f (x ∷ xs) ≡ f (y ∷ ys) → (x ≡ y) × (f xs ≡ f ys)) → (xs ys : List A) → f xs ≡ f ys → xs ≡ ys
each_once f none one [] [] e = refl
each_once f none one [] (y ∷ ys) e = absurd (none y ys e)
each_once f none one (x ∷ xs) [] e = absurd (none x xs (sym e))
each_once f none one (x ∷ xs) (y ∷ ys) e =
    let r = one x y xs ys e in
    let s = each_once f none one xs ys r.1 in
    λ j. r.0 j ∷ s j

map_number_once : (ms ns : List ℕ) → map number ms ≡ map number ns → ms ≡ ns
map_number_once = each_once (map number) (λ n ns e. absurd (cc)) (λ m n ms ns e. (cc, cc))

pub numbers_line_once : (a b : ℕ) (ms ns xs ys : List ℕ) → numbers_line a ms ++ xs ≡ numbers_line b ns ++ ys → SameLine a b ms ns xs ys
numbers_line_once a b ms ns xs ys e =
    let r = line_once a b (map number ms) (map number ns) xs ys (numbers_plain ms) (numbers_plain ns) e in
    record { letter = r.letter; fields = map_number_once ms ns r.fields; rest = r.rest }

pub expr_numbers_once : (es fs : List Expression) → expr_numbers es ≡ expr_numbers fs → es ≡ fs
expr_numbers_once = each_once expr_numbers (λ y fs e. absurd (cc)) (λ x y es fs e.
    let k : x.kind ≡ y.kind = cc in
    let n : x.name ≡ y.name = cc in
    let i : x.index ≡ y.index = cc in
    (λ j. record { kind = k j; name = n j; index = i j }, cc))

pub exprs_line_once : (a b : ℕ) (es fs : List Expression) (xs ys : List ℕ) → exprs_line a es ++ xs ≡ exprs_line b fs ++ ys → SameLine a b es fs xs ys
exprs_line_once a b es fs xs ys e =
    let r = numbers_line_once a b (expr_numbers es) (expr_numbers fs) xs ys e in
    record { letter = r.letter; fields = expr_numbers_once es fs r.fields; rest = r.rest }
