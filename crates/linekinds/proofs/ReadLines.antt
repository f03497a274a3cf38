-- What `read_line` answers, by the tests that it makes.
-- Assumes nothing.
use Prim.Native.Nat.{ℕ}
use mathlib.Core.Path.{◌≡◌, refl, ap, sym, ◌∙◌}
use mathlib.Core.Bool.{cond}
use mathlib.Core.Option.{Option}
use mathlib.Core.List.{List, [], ◌∷◌, map}
use borrow.Author.Tests.{eq-eqb, ne_eqb}
use lib.Dec.{eqb}
use Rattle.text.specs.declared.field.Field.{Field}
use Rattle.text.specs.Text.{value_of, row}
use Rattle.text.specs.declared.line.Fields.{Fields}
use Rattle.std.specs.Prelude.{None}
use Rattle.text.specs.Read.{line_read}
use Rattle.text.proofs.Answers.{Opened, wrong_none}
use Rattle.refusals.specs.Refusals.{refusal_of}
use Rattle.refusals.specs.declared.Refusal.TheVariants.{WrongLine}
use Rattle.linekinds.specs.Lines.{line_number}
use Rattle.linekinds.specs.KeyLines.{values}
use Rattle.linekinds.specs.Reading.{kind_of, codes_number, counts_number, read_by, row_values}
use Rattle.linekinds.specs.declared.kind.Codes.{Codes}
use Rattle.linekinds.specs.declared.line.Read.TheVariants.{Line, Refused}
use Rattle.linekinds.proofs.LineNumbers.{line_number_lem}

pub row_values_lem : (fs : List Field) → row_values (map row fs) ≡ values fs
row_values_lem [] = refl
row_values_lem (f ∷ fs) = ap (λ (ns : List ℕ). value_of f ∷ ns) (row_values_lem fs)

module _ (c : Codes) (letter seen next : ℕ) (x : Option (List Field)) where
  pub read_wrong : None ≡ line_read next x → Refused WrongLine ≡ read_by (line_number (kind_of c letter) seen next x) next x
  unfolding line_number
  read_wrong e = rw (wrong_none next x e)

  module _ (f : Fields) (o : Opened next x f) where
    abbrev M : ℕ
    M = counts_number c f.count f.worst f.largest f.next

    number_is : line_number (kind_of c letter) seen next x ≡ cond (eqb M 0) (codes_number c (values o.fs)) M
    number_is =
        ap (line_number (kind_of c letter) seen next) o.is
        ∙ line_number_lem c letter seen next o.fs
        ∙ ap (λ (m : ℕ). cond (eqb m 0) (codes_number c (values o.fs)) m) (sym (λ k. counts_number c (o.counts k) (o.states k) (o.values k) (o.goes k)))

    pub read_counts : (M ≡ 0 → ⊥) → Refused (refusal_of M) ≡ read_by (line_number (kind_of c letter) seen next x) next x
    read_counts h = rw (number_is, ne_eqb M 0 h, ne_eqb M 0 h)

    module _ (e : M ≡ 0) (n : ℕ) (is : n ≡ codes_number c (values o.fs)) where
      coded : line_number (kind_of c letter) seen next x ≡ n
      coded = number_is ∙ rw (eq-eqb M 0 e) (sym is)

      pub read_codes : (n ≡ 0 → ⊥) → Refused (refusal_of n) ≡ read_by (line_number (kind_of c letter) seen next x) next x
      read_codes h = rw (coded, ne_eqb n 0 h)

      pub read_good : n ≡ 0 → Line f.count f.next ≡ read_by (line_number (kind_of c letter) seen next x) next x
      read_good h = rw (coded, eq-eqb n 0 h, o.is) (λ k. Line (o.counts k) (o.goes k))
