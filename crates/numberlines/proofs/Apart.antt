-- Numbers of a line taken apart again: where they end is one place (`numbers_end`), and a number follows those before it (`numbers_next`).
-- Assumes nothing.
use Prim.Native.Nat.{ℕ, ◌+◌, ◌<◌}
use mathlib.Core.Path.{◌≡◌, refl, sym, ap, subst, ◌∙◌}
use mathlib.Core.List.{List, [], ◌∷◌, ◌++◌, map, map-append, append_assoc, append-nil}
use native.Mathlib.Omega.{arith}
use lib.ListN.{length, drop, length-append}
use lib.Seq.{drop-drop, drop-append_seam}
use Rattle.text.specs.declared.field.Field.TheVariants.{Number as number}
use Rattle.text.specs.Write.{decimal, field_text, fields_text}
use Rattle.text.proofs.Lengths.{fields_append}
use Rattle.linekinds.specs.PlainText.{StandsAt, TextAt, numbers_text}
use Rattle.numberlines.specs.NumberLines.{NumberAt, NumbersAt}
use Rattle.numberlines.proofs.OneNumber.{text_byte, number_ends}

-- ---- a text in two

pub parted : (s xs ys : List ℕ) (at end : ℕ) → TextAt s at (xs ++ ys) end → TextAt s at xs (at + length xs) × TextAt s (at + length xs) ys end
parted s xs ys at end t =
    let u : drop at s ≡ xs ++ (ys ++ drop end s) = t.text ∙ append_assoc xs ys (drop end s) in
    let w : drop (at + length xs) s ≡ ys ++ drop end s = sym (drop-drop (length xs) at s) ∙ ap (drop (length xs)) u ∙ drop-append_seam xs (ys ++ drop end s) in
    (record { text = u ∙ ap (λ (r : List ℕ). xs ++ r) (sym w); place = refl }, record { text = w; place = omega (arith, t.place, length-append xs ys) })

pub stands_first : (s : List ℕ) (at b : ℕ) (xs : List ℕ) (end : ℕ) → TextAt s at (b ∷ xs) end → StandsAt s at b
stands_first s at b xs end t = let z : at + 0 ≡ at = omega arith in subst (λ (i : ℕ). StandsAt s i b) z (text_byte s at (b ∷ xs) end 0 t (omega arith))

-- ---- fields in two

pub fields_parted : (s xs ys : List ℕ) (at end : ℕ) → TextAt s at (numbers_text (xs ++ ys)) end → TextAt s at (numbers_text xs) (at + length (numbers_text xs)) × TextAt s (at + length (numbers_text xs)) (numbers_text ys) end
fields_parted s xs ys at end t = parted s (numbers_text xs) (numbers_text ys) at end (rw (map-append number xs ys, fields_append (map number xs) (map number ys)) at t)

pub one_field : (s : List ℕ) (at n end b : ℕ) → TextAt s at (numbers_text (n ∷ [])) end → n < 65536 → StandsAt s end b → NumberAt s (at + 1) n end b
unfolding fields_text field_text
one_field s at n end b t h k = record { text = rw (append-nil (decimal n)) at (parted s (44 ∷ []) (decimal n ++ []) at end t).1; small = h; ends = k }

-- a comma is before fields, and where there is none it is the one after them
pub comma_first : (s : List ℕ) (at : ℕ) (ns : List ℕ) (end : ℕ) → TextAt s at (numbers_text ns) end → StandsAt s end 44 → StandsAt s at 44
unfolding fields_text
comma_first s at [] end t h = let z : end ≡ at = omega (arith, t.place) in subst (λ (i : ℕ). StandsAt s i 44) z h
comma_first s at (n ∷ ns) end t h = stands_first s at 44 _ end t

-- ---- the first of the numbers, and the rest

record FirstOf (s : List ℕ) (at n : ℕ) (ns : List ℕ) (end : ℕ) : Type 0 where
  next : ℕ
  is : NumberAt s (at + 1) n next 44
  rest : NumbersAt s next ns end

first_of : (s : List ℕ) (at n : ℕ) (ns : List ℕ) (end : ℕ) → NumbersAt s at (n ∷ ns) end → FirstOf s at n ns end
first_of s at n ns end o =
    let p = fields_parted s (n ∷ []) ns at end o.text in
    record {
      next = at + length (numbers_text (n ∷ []));
      is = one_field s at n _ 44 p.0 o.small.0 (comma_first s _ ns end p.1 o.ends);
      rest = record { text = p.1; small = o.small.1; ends = o.ends };
    }

none_end : (s : List ℕ) (at end : ℕ) → NumbersAt s at [] end → end ≡ at
unfolding fields_text
none_end s at end o = omega (arith, o.text.place)

-- the same place after either first number
same_next : (s : List ℕ) (at n m : ℕ) (ns ms : List ℕ) (p q : ℕ) (a : FirstOf s at n ns p) (b : FirstOf s at m ms q) → a.next ≡ b.next
same_next s at n m ns ms p q a b = number_ends s (at + 1) n a.next 44 m b.next 44 (omega arith) (omega arith) a.is b.is

pub numbers_end : (s : List ℕ) (at : ℕ) (ns ms : List ℕ) (p q : ℕ) → length ns ≡ length ms → NumbersAt s at ns p → NumbersAt s at ms q → p ≡ q
numbers_end s at [] [] p q e o o' = none_end s at p o ∙ sym (none_end s at q o')
numbers_end s at [] (m ∷ ms) p q e o o' = absurd (omega arith)
numbers_end s at (n ∷ ns) [] p q e o o' = absurd (omega arith)
numbers_end s at (n ∷ ns) (m ∷ ms) p q e o o' =
    let a = first_of s at n ns p o in let b = first_of s at m ms q o' in
    numbers_end s b.next ns ms p q (omega (arith, e)) (subst (λ (i : ℕ). NumbersAt s i ns p) (same_next s at n m ns ms p q a b) a.rest) b.rest

-- a number, and a comma after it
pub record CommaAfter (s : List ℕ) (at : ℕ) : Type 0 where
  pub n : ℕ
  pub end : ℕ
  pub is : NumberAt s at n end 44

pub numbers_next : (s : List ℕ) (at : ℕ) (ns ms : List ℕ) (p q : ℕ) → length ns < length ms → NumbersAt s at ns p → NumbersAt s at ms q → CommaAfter s (p + 1)
numbers_next s at ns [] p q e o o' = absurd (omega arith)
numbers_next s at [] (m ∷ ms) p q e o o' =
    let b = first_of s at m ms q o' in
    record { n = m; end = b.next; is = subst (λ (i : ℕ). NumberAt s (i + 1) m b.next 44) (sym (none_end s at p o)) b.is }
numbers_next s at (n ∷ ns) (m ∷ ms) p q e o o' =
    let a = first_of s at n ns p o in let b = first_of s at m ms q o' in
    numbers_next s b.next ns ms p q (omega (arith, e)) (subst (λ (i : ℕ). NumbersAt s i ns p) (same_next s at n m ns ms p q a b) a.rest) b.rest
