-- The number of a line of plain fields, by what `line_at` answered, is `line_number` of its kind.
-- Assumes nothing.
use mathlib.Core.Path.{◌≡◌, refl, sym, ap, ◌∙◌}
use Prim.Native.Nat.{ℕ, zero, suc}
use native.Mathlib.Omega.{arith}
use mathlib.Core.List.{List, [], ◌∷◌, map}
use mathlib.Core.Bool.{Bool, true, false, cond, ◌&&◌, ◌||◌}
use mathlib.Core.Option.{Option, some}
use lib.Dec.{eqb, leb, ltb}
use lib.ListN.{length, replicate}
use borrow.Author.Tests.{eqb-true, eqb-false, eq-eqb, ne_eqb}
use Rattle.text.specs.declared.field.Field.{Field}
use Rattle.text.specs.Text.{value_of, state_of, greatest}
use Rattle.text.specs.Bounds.{fits, allows, allows_all}
use Rattle.std.specs.Prelude.{None}
use Rattle.text.specs.Read.{line_read}
use Rattle.text.specs.declared.line.Fields.{Fields}
use Rattle.text.proofs.Answers.{Opened, wrong_none}
use Rattle.text.proofs.Limits.{all_largest}
use Rattle.linekinds.specs.Lines.{Kind, plain, most_bytes, line_number}
use Rattle.linekinds.specs.KeyLines.{values}
use Rattle.linekinds.specs.Reading.{read_by}
use Rattle.linekinds.specs.declared.line.Read.TheVariants.{Line, Refused}
use Rattle.refusals.specs.Refusals.{refusal_of}
use Rattle.refusals.specs.declared.Refusal.TheVariants.{WrongLine, UndefinedCode}
use Rattle.plansheet.specs.Shapes.{plain_shape, over_any, fixed_line}
use Rattle.plansheet.specs.ReadRows.{plain_number}
use Rattle.plansheet.proofs.Shaped.{number_fixed}

-- ---- masks

count_at : (t : Bool) (n m : ℕ) → eqb n m ≡ t → eqb (suc n) (suc m) ≡ t
count_at true n m e = eq-eqb (suc n) (suc m) (ap suc (eqb-true n m e))
count_at false n m e = let ne : n ≡ m → ⊥ = eqb-false n m e in ne_eqb (suc n) (suc m) (λ z. ne (omega arith))

and_at : (a b c : Bool) → a && (b && c) ≡ b && (a && c)
and_at true true c = refl
and_at true false c = refl
and_at false true c = refl
and_at false false c = refl

plain_fits : (n : ℕ) (fs : List Field) → fits (replicate n plain) fs ≡ eqb (length fs) n && allows_all plain fs
unfolding fits allows_all
plain_fits zero [] = refl
plain_fits zero (f ∷ fs) = rw (ne_eqb (suc (length fs)) 0 (λ z. omega arith))
plain_fits (suc n) [] = rw (ne_eqb 0 (suc n) (λ z. omega arith))
plain_fits (suc n) (f ∷ fs) =
    ap (λ (b : Bool). allows plain f && b) (plain_fits n fs) ∙ and_at (allows plain f) (eqb (length fs) n) (allows_all plain fs)
    ∙ ap (λ (b : Bool). b && (allows plain f && allows_all plain fs)) (sym (count_at (eqb (length fs) n) (length fs) n refl))

or_none : (a : Bool) → a || false ≡ a
or_none true = refl
or_none false = refl

-- ---- plain fields with codes

-- number 4 is asked last
plain_at : (a l o : Bool) → ◌≡◌ {A = ℕ} (cond a (cond l 3 (cond o 4 0)) 2) (cond (eqb (cond a (cond l 3 0) 2) 0) (cond o 4 0) (cond a (cond l 3 0) 2))
plain_at true true o = refl
plain_at true false o = refl
plain_at false l o = refl

count_of_at : (a : Bool) (n m : ℕ) → cond a n 2 ≡ 0 → a ≡ true
count_of_at true n m e = refl
count_of_at false n m e = absurd (omega arith)

and_first : (a b : Bool) → a && b ≡ true → a ≡ true
and_first true b e = refl
and_first false b e = e

pub plain_counted : (sets count worst largest next : ℕ) → plain_number sets count worst largest next ≡ 0 → count ≡ sets
plain_counted sets count worst largest next e =
    eqb-true count sets (and_first (eqb count sets) (leb worst 0 && leb largest 65535) (count_of_at (eqb count sets && (leb worst 0 && leb largest 65535)) _ 0 e))

module _ (letter width : ℕ) (codes : List ℕ) where
  abbrev P : Kind
  P = fixed_line (plain_shape letter width codes)

  pub plain_line_number :
      (seen next : ℕ) (fs : List Field) →
      line_number P seen next (some fs)
      ≡ cond (eqb (length fs) width && (leb (greatest 0 (map state_of fs)) 0 && leb (greatest 0 (map value_of fs)) 65535)) (cond (ltb most_bytes next) 3 (cond (over_any codes (values fs)) 4 0)) 2
  unfolding over_any
  plain_line_number seen next fs = number_fixed P refl fs seen next ∙ rw (plain_fits width fs, all_largest plain fs, or_none (ltb most_bytes next))

  -- what `line_at` answered of such a line
  module _ (seen next : ℕ) (x : Option (List Field)) where
    pub plain_wrong : None ≡ line_read next x → Refused WrongLine ≡ read_by (line_number P seen next x) next x
    unfolding line_number
    plain_wrong e = rw (wrong_none next x e)

    module _ (f : Fields) (o : Opened next x f) (m : ℕ) (is : m ≡ plain_number width f.count f.worst f.largest f.next) where
      plain_is : line_number P seen next x ≡ cond (eqb m 0) (cond (over_any codes (values o.fs)) 4 0) m
      plain_is =
          ap (line_number P seen next) o.is ∙ plain_line_number seen next o.fs
          ∙ plain_at (eqb (length o.fs) width && (leb (greatest 0 (map state_of o.fs)) 0 && leb (greatest 0 (map value_of o.fs)) 65535)) (ltb most_bytes next) (over_any codes (values o.fs))
          ∙ ap (λ (k : ℕ). cond (eqb k 0) (cond (over_any codes (values o.fs)) 4 0) k) (sym (is ∙ (λ i. plain_number width (o.counts i) (o.states i) (o.values i) (o.goes i))))

      pub plain_turned : (m ≡ 0 → ⊥) → Refused (refusal_of m) ≡ read_by (line_number P seen next x) next x
      plain_turned h =
          let q : line_number P seen next x ≡ m = plain_is ∙ rw (ne_eqb m 0 h) in
          rw (q, ne_eqb m 0 h)

      module _ (z : m ≡ 0) where
        pub plain_coded : over_any codes (values o.fs) ≡ true → Refused UndefinedCode ≡ read_by (line_number P seen next x) next x
        plain_coded h =
            let q : line_number P seen next x ≡ 4 = plain_is ∙ rw (eq-eqb m 0 z, h) in
            rw q

        pub plain_read : over_any codes (values o.fs) ≡ false → Line f.count f.next ≡ read_by (line_number P seen next x) next x
        plain_read h =
            let q : line_number P seen next x ≡ 0 = plain_is ∙ rw (eq-eqb m 0 z, h) in
            rw (q, o.is) (λ i. Line (o.counts i) (o.goes i))
