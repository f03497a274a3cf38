-- What `read_list` answers, from what `read_line` and `pack_line` answer.
-- Assumes nothing.
use Prim.Native.Nat.{ℕ, ◌-◌, ◌≤◌}
use mathlib.Core.Path.{◌≡◌, refl, ap, sym, ◌∙◌}
use mathlib.Core.Bool.{Bool, true, false, cond, false≢true}
use mathlib.Core.Option.{Option, none, some}
use mathlib.Core.List.{List, [], ◌∷◌, map}
use native.Mathlib.Omega.{arith}
use borrow.Author.Tests.{ne_eqb, eqb-true, eqb-false, leb-true}
use lib.Dec.{eqb, leb}
use lib.ListN.{length, take}
use lib.Seq.{length-take-le}
use Rattle.std.proofs.lemmas.Bool.{and_parts}
use Rattle.text.specs.declared.field.Field.{Field}
use Rattle.text.specs.declared.field.Field.TheVariants.{Number as number, Empty as empty, Malformed as malformed}
use Rattle.text.specs.Text.{state_of, value_of, greatest}
use Rattle.text.specs.Bounds.{allows_all}
use Rattle.text.proofs.Limits.{all_largest}
use Rattle.linekinds.specs.Lines.{plain, whole_entries, line_number, fields_of}
use Rattle.linekinds.specs.KeyLines.{values}
use Rattle.linekinds.specs.Reading.{kind_of, head_count, entry_width, counts_number, read_by, Small, Fits}
use Rattle.linekinds.specs.ListLines.{packed_list, listed_by}
use Rattle.linekinds.specs.declared.kind.Codes.{Codes}
use Rattle.linekinds.specs.declared.kind.Codes.TheVariants.{Key, Join, Exprs, Rules, Input, Directions, Names}
use Rattle.linekinds.specs.declared.line.Read.TheVariants as R
use Rattle.std.specs.Prelude.{Ok, Err}
use Rattle.refusals.specs.declared.Refusal.{Refusal}
use Rattle.refusals.specs.Refusals.{refusal_of}
use Rattle.linekinds.proofs.LineNumbers.{counts_enough, counts_few, counts_entries, counts_whole, counts_fields, counts_room, not_turned_counts}

-- ---- a line that was read

pub record Good (c : Codes) (letter seen next : ℕ) (x : Option (List Field)) (count after : ℕ) : Type 0 where
  pub zero : line_number (kind_of c letter) seen next x ≡ 0
  pub fs : List Field
  pub is : x ≡ some fs
  pub counts : count ≡ length fs
  pub goes : after ≡ next

module _ (c : Codes) (letter seen next : ℕ) where
  read_at : (x : Option (List Field)) (count after : ℕ) (t : Bool) → eqb (line_number (kind_of c letter) seen next x) 0 ≡ t →
      R.Line count after ≡ cond t (R.Line (length (fields_of x)) next) (R.Refused (refusal_of (line_number (kind_of c letter) seen next x))) → Good c letter seen next x count after
  unfolding line_number
  read_at none count after true p e = let z : ◌≡◌ {A = ℕ} 1 0 = eqb-true 1 0 p in absurd (omega arith)
  read_at (some fs) count after true p e = record { zero = eqb-true _ 0 p; fs = fs; is = refl; counts = cc; goes = cc }
  read_at x count after false p e = absurd (cc)

  pub was_read : (x : Option (List Field)) (count after : ℕ) → R.Line count after ≡ read_by (line_number (kind_of c letter) seen next x) next x → Good c letter seen next x count after
  was_read x count after e = read_at x count after (eqb (line_number (kind_of c letter) seen next x) 0) refl e

  turned_at : (x : Option (List Field)) (r : Refusal) (t : Bool) → eqb (line_number (kind_of c letter) seen next x) 0 ≡ t →
      R.Refused r ≡ cond t (R.Line (length (fields_of x)) next) (R.Refused (refusal_of (line_number (kind_of c letter) seen next x))) →
      (r ≡ refusal_of (line_number (kind_of c letter) seen next x)) × (line_number (kind_of c letter) seen next x ≡ 0 → ⊥)
  turned_at x r true p e = absurd (cc)
  turned_at x r false p e = (cc, eqb-false _ 0 p)

  pub was_turned : (x : Option (List Field)) (r : Refusal) → R.Refused r ≡ read_by (line_number (kind_of c letter) seen next x) next x →
      (r ≡ refusal_of (line_number (kind_of c letter) seen next x)) × (line_number (kind_of c letter) seen next x ≡ 0 → ⊥)
  was_turned x r e = turned_at x r (eqb (line_number (kind_of c letter) seen next x) 0) refl e

-- ---- its fields

pub counts_fit : (c : Codes) (count worst largest next : ℕ) → counts_number c count worst largest next ≡ 0 → Fits c count
counts_fit Key count worst largest next e = counts_whole Key count worst largest next e
counts_fit Join count worst largest next e = counts_whole Join count worst largest next e
counts_fit Exprs count worst largest next e = let h : count - 0 ≤ 96 = counts_few Exprs count worst largest next e in omega arith
counts_fit Rules count worst largest next e = let h : count - 0 ≤ 192 = counts_few Rules count worst largest next e in omega arith
counts_fit Input count worst largest next e =
    let h : count - 1 ≤ 96 = counts_few Input count worst largest next e in
    let k : 1 ≤ count = counts_enough Input count worst largest next e in
    (k, omega arith)
counts_fit Directions count worst largest next e = let h : count - 0 ≤ 32 = counts_few Directions count worst largest next e in omega arith
counts_fit Names count worst largest next e = let h : count - 0 ≤ 32 = counts_few Names count worst largest next e in omega arith

pub plain_small : (fs : List Field) → allows_all plain fs ≡ true → Small (values fs)
unfolding allows_all
plain_small [] e = tt
plain_small (number n ∷ fs) e = let p = and_parts (leb n 65535) (allows_all plain fs) e in (omega (arith, leb-true n 65535 p.0), plain_small fs p.1)
plain_small (empty ∷ fs) e = absurd (false≢true e)
plain_small (malformed ∷ fs) e = absurd (false≢true e)

pub good_small :
    (c : Codes) (letter seen next : ℕ) (fs : List Field) → line_number (kind_of c letter) seen next (some fs) ≡ 0 → Small (values fs)
good_small c letter seen next fs e =
    plain_small fs (all_largest plain fs ∙ counts_fields c (length fs) (greatest 0 (map state_of fs)) (greatest 0 (map value_of fs)) next (not_turned_counts c letter seen next fs e))

module _ (c : Codes) (letter seen next : ℕ) (fs : List Field) (e : line_number (kind_of c letter) seen next (some fs) ≡ 0) where
  pub good_fit : Fits c (length fs)
  good_fit = counts_fit c (length fs) (greatest 0 (map state_of fs)) (greatest 0 (map value_of fs)) next (not_turned_counts c letter seen next fs e)

  pub good_entries : whole_entries (entry_width c) (length fs - head_count c) ≡ true
  good_entries = counts_entries c (length fs) (greatest 0 (map state_of fs)) (greatest 0 (map value_of fs)) next (not_turned_counts c letter seen next fs e)

  pub good_room : length fs ≤ 192
  good_room = counts_room c (length fs) (greatest 0 (map state_of fs)) (greatest 0 (map value_of fs)) next (not_turned_counts c letter seen next fs e)

-- ---- the answers

module _ (n next : ℕ) (c : Codes) (x : Option (List Field)) where
  pub list_turned : (r : Refusal) → r ≡ refusal_of n → (n ≡ 0 → ⊥) → Err r ≡ listed_by n next c x
  list_turned r e h = rw (ne_eqb n 0 h, e)

  -- a list that was packed is as long as what it stands for
  pub packed_long : (count : ℕ) (out : List ℕ) → length out ≡ 64 → count ≤ 64 → take count out ≡ packed_list c x → count ≡ length (packed_list c x)
  packed_long count out f h e = sym (length-take-le count out (omega arith)) ∙ ap length e

  pub list_packed : n ≡ 0 → (count after : ℕ) → count ≡ length (packed_list c x) → after ≡ next → Ok (record { count = count; next = after }) ≡ listed_by n next c x
  list_packed z count after p q = rw (z) (λ k. Ok (record { count = p k; next = q k }))
