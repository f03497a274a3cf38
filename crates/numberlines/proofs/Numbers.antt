-- Numbers that stand one after another on a line, and the row that holds them.
-- Assumes nothing.
use Prim.Native.Nat.{ℕ, suc, ◌+◌, ◌≤◌, ◌<◌}
use mathlib.Core.Path.{◌≡◌, refl, ap, subst, ◌∙◌}
use mathlib.Core.List.{List, [], ◌∷◌, ◌++◌, map, append-nil}
use native.Mathlib.Omega.{arith}
use lib.ListN.{length, set, take, drop, drop_of_length-le}
use lib.Seq.{sets, sets-eq, take-suc-set}
use Rattle.text.specs.declared.field.Field.TheVariants.{Number as number}
use Rattle.text.specs.Write.{fields_text}
use Rattle.linekinds.specs.Reading.{Small}
use Rattle.linekinds.specs.PlainText.{StandsAt, TextAt, numbers_text}
use Rattle.linekinds.specs.declared.plain.Number.{Number}
use Rattle.linekinds.proofs.PlainText.{field_text_lem, small_append, more_fields}
use Rattle.linekinds.proofs.PlainLines.{small_wide, line_text_lem, line_is, after_is}
use Rattle.std.specs.Prelude.{Option, Some, None, Result, Ok, Err}
use Rattle.std.specs.Option.{ok_or}
use Rattle.numberlines.specs.NumberLines.{Closed, Begins, NumberAt, NumberTo, NumbersAt, RowFound, LineOf}
use Rattle.numberlines.specs.Runs.{CommaAt, BegunTo, NumbersTo, LastTo}
use Rattle.numberlines.specs.declared.comma.Comma.{Comma}
use Rattle.numberlines.specs.declared.row.Unread.{Unread}
use Rattle.numberlines.specs.declared.row.Unread.TheVariants.{Unusual}
use Rattle.numberlines.proofs.Closed.{begun}

-- ---- numbers, one more, and the last

pub numbers_none : (s : List ℕ) (at : ℕ) → StandsAt s at 44 → NumbersAt s at [] at
unfolding fields_text
numbers_none s at h = record { text = record { text = refl; place = omega arith }; small = tt; ends = h }

module _ (s : List ℕ) (at : ℕ) (ns : List ℕ) (p : ℕ) (o : NumbersAt s at ns p) (n end b : ℕ) (e : NumberAt s (p + 1) n end b) where
  pub longer_text : TextAt s at (numbers_text (ns ++ (n ∷ []))) end
  longer_text = more_fields s ns (n ∷ []) at p end o.text (field_text_lem s p n end o.ends e.text)

  pub longer_small : Small (ns ++ (n ∷ []))
  longer_small = small_append ns (n ∷ []) o.small (e.small, tt)

-- a number is stored in a row behind those before it
pub numbers_more : (s : List ℕ) (at : ℕ) (row : List ℕ) (i p : ℕ) → i < length row → NumbersAt s at (take i row) p → (n end : ℕ) → NumberAt s (p + 1) n end 44 →
    NumbersAt s at (take (i + 1) (set row i n)) end
numbers_more s at row i p h o n end e =
    let t : take (i + 1) (set row i n) ≡ take i row ++ (n ∷ []) = let z : i + 1 ≡ suc i = omega arith in rw z (take-suc-set row i n h) in
    rw t (record { text = longer_text s at (take i row) p o n end 44 e; small = longer_small s at (take i row) p o n end 44 e; ends = e.ends })

-- ---- a row

-- a row that is filled holds the numbers alone
pub filled : (row ns : List ℕ) → length ns ≡ length row → sets row 0 ns ≡ ns
filled row ns e = sets-eq ns row 0 (omega (arith, e)) ∙ rw (drop_of_length-le row {i = 0 + length ns} (omega (arith, e)), append-nil ns)

-- numbers at its front, and one in its last place
filled_last : (ns row : List ℕ) (n : ℕ) → length ns + 1 ≡ length row → set (ns ++ drop (length ns) row) (length ns) n ≡ ns ++ (n ∷ [])
filled_last [] [] n e = absurd (omega arith)
filled_last [] (x ∷ []) n e = refl
filled_last [] (x ∷ y ∷ row) n e = absurd (omega arith)
filled_last (m ∷ ns) [] n e = absurd (omega arith)
filled_last (m ∷ ns) (x ∷ row) n e = ap (λ (r : List ℕ). m ∷ r) (filled_last ns row n (omega arith))

-- the line of them
row_line : (letter : ℕ) (s : List ℕ) (at : ℕ) → (letter ≡ 10 → ⊥) → Begins s at letter → (ns : List ℕ) (end : ℕ) → TextAt s (at + 1) (numbers_text ns) end → StandsAt s end 10 → Small ns → end < 65536 →
    LineOf letter s at (map number ns) end × Small ns
row_line letter s at other b ns end t l g early =
    let v = line_text_lem s at letter (map number ns) end b.0 t l in
    let i : at ≤ length s = omega (arith, b.0.0) in (
      record { is = line_is s at letter (map number ns) (end + 1) v i other (small_wide ns g); goes = after_is s at letter (map number ns) (end + 1) v i other (small_wide ns g); early = early },
      g,
    )

-- ---- what was found, where the numbers go on, and that they do not

module _ {A : Type 0} where
  pub found_at : (o : Option A) (x : A) → Ok x ≡ ok_or o Unusual → o ≡ Some x
  found_at (Some y) x e = cc
  found_at None x e = let z : ◌≡◌ {A = ℕ} 0 1 = cc in absurd (omega arith)

  pub unusual_is : (o : Option A) (u : Unread) → Err u ≡ ok_or o Unusual → u ≡ Unusual
  unusual_is (Some y) u e = let z : ◌≡◌ {A = ℕ} 0 1 = cc in absurd (omega arith)
  unusual_is None u e = cc

pub none_is : (s : List ℕ) (at b : ℕ) (o : Option Number) → NumberTo s at b o → (u : Unread) → Err u ≡ ok_or o Unusual → (n end : ℕ) → NumberAt s at n end b → ⊥
none_is s at b (Some r) h u e = let z : ◌≡◌ {A = ℕ} 0 1 = cc in absurd (omega arith)
none_is s at b None h u e = h

pub number_is : (s : List ℕ) (at b : ℕ) (o : Option Number) → NumberTo s at b o → (r : Number) → Ok r ≡ ok_or o Unusual → NumberAt s at r.value r.end b
number_is s at b o h r e = subst (λ (x : Option Number). NumberTo s at b x) (found_at o r e) h

-- so many numbers don't stand there
pub numbers_lost : (from : Comma) (r : Result Comma Unread) (u : Unread) (row : List ℕ) → r ≡ Err u → u ≡ Unusual →
    ((ms : List ℕ) (end : ℕ) → length ms ≡ length row → NumbersAt from.s.now from.at ms end → ⊥) → NumbersTo from r row
numbers_lost from r u row e z h = rw e (z, h)

-- from one comma to the next, in the text that the line stands in
pub goes_on : (s : List ℕ) (at : ℕ) (from c : Comma) (ns : List ℕ) → CommaAt s at from → NumbersTo from (Ok c) ns → CommaAt s c.at c × NumbersAt s at ns c.at
goes_on s at from c ns f h = ((h.0 ∙ f.0, refl), subst (λ (i : ℕ). NumbersAt s i ns c.at) f.1 (subst (λ (t : List ℕ). NumbersAt t from.at ns c.at) f.0 h.1))

pub ends_there : (s : List ℕ) (at : ℕ) (from : Comma) (end last : ℕ) → CommaAt s at from → LastTo from (Ok end) last → NumberAt s (at + 1) last end 10
ends_there s at from end last f h = subst (λ (i : ℕ). NumberAt s (i + 1) last end 10) f.1 (subst (λ (t : List ℕ). NumberAt t (from.at + 1) last end 10) f.0 h.0)

-- ---- numbers for all places of a row

module _ (letter : ℕ) (s : List ℕ) (at : ℕ) (row : List ℕ) (from : Comma) (b : BegunTo s at letter (Ok from)) where
  pub row_unusual : (r : Result ℕ Unread) (row' : List ℕ) → r ≡ Err Unusual → RowFound letter s at row r row'
  row_unusual r row' e = rw e (begun s at letter (subst Closed b.0.0 from.closed) b.1 b.2)

  row_found : (c : Comma) (ns : List ℕ) (last end : ℕ) → length ns + 1 ≡ length row → NumbersTo from (Ok c) ns → LastTo c (Ok end) last →
      RowFound letter s at row (Ok end) (set (ns ++ drop (length ns) row) (length ns) last)
  row_found c ns last end e o z =
      let g = goes_on s (at + 1) from c ns b.0 o in
      let n = ends_there s c.at c end last g.0 z in
      rw (filled_last ns row last e) (row_line letter s at b.2 b.1 (ns ++ (last ∷ [])) end (longer_text s (at + 1) ns c.at g.1 last end 10 n) n.ends (longer_small s (at + 1) ns c.at g.1 last end 10 n) z.1)

  -- the place of the last number is the row's last
  pub row_done : (c : Comma) (ns : List ℕ) (k last : ℕ) (r : Result ℕ Unread) → length ns ≡ k → k + 1 ≡ length row → NumbersTo from (Ok c) ns → LastTo c r last → RowFound letter s at row r (set (ns ++ drop k row) k last)
  row_done c ns k last (Ok end) l e o z = rw (← l) (row_found c ns last end (rw l e) o z)
  row_done c ns k last (Err u) l e o z = row_unusual (Err u) _ (ap Err z.0)
