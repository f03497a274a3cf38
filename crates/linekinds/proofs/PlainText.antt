-- Text that stands at a place: one text after another, digit after digit, entry after entry.
-- Assumes nothing.
use Prim.Native.Nat.{ℕ, zero, suc, ◌+◌, ◌-◌, ◌*◌, ◌/◌, ◌%◌, ◌≤◌, ◌<◌}
use mathlib.Core.Path.{◌≡◌, refl, sym, ap, subst, ◌∙◌}
use mathlib.Core.Bool.{Bool, true, false, not, ◌||◌}
use mathlib.Core.List.{List, [], ◌∷◌, ◌++◌, map, map-append, append_assoc, append-nil}
use native.Mathlib.Omega.{arith}
use borrow.Author.Tests.{le-ltb}
use lib.Dec.{ltb}
use lib.ListN.{length, get_or, take, drop, set, length-append, length-drop}
use lib.Seq.{drop-cons}
use Rattle.text.specs.declared.field.Field.TheVariants.{Number as number}
use Rattle.text.specs.Write.{decimal, field_text, fields_text}
use Rattle.text.proofs.Decimal.{decimal_one, decimal_more}
use Rattle.text.proofs.Lengths.{fields_append}
use Rattle.keys.specs.Expressions.{packed}
use Rattle.keys.proofs.Lists.{first_pushed}
use Rattle.linekinds.specs.KeyLines.{defined_expr, undefined_exprs, over}
use Rattle.linekinds.specs.Reading.{packs, Small}
use Rattle.linekinds.specs.PlainText.{StandsAt, DigitAt, TextAt, DigitsFound, numbers_text, FieldFound, EntryAt, EntriesAt, EndFound, EntriesFound, NumbersHeld, NumbersFound}
use Rattle.std.specs.Prelude.{Option, Some, None}
use Rattle.linekinds.specs.declared.plain.Number.{Number}
use Rattle.linekinds.specs.declared.plain.Entries.{Entries}

pub byte_text : (s : List ℕ) (at b : ℕ) → StandsAt s at b → TextAt s at (b ∷ []) (at + 1)
byte_text s at b h = let e : suc at ≡ at + 1 = omega arith in record { text = drop-cons s at 0 h.0 ∙ rw (h.1, e); place = refl }

pub joined : (s xs ys : List ℕ) (at i end : ℕ) → TextAt s at xs i → TextAt s i ys end → TextAt s at (xs ++ ys) end
joined s xs ys at i end t u = record {
  text = t.text ∙ ap (λ (r : List ℕ). xs ++ r) u.text ∙ sym (append_assoc xs ys (drop end s));
  place = omega (arith, t.place, u.place, length-append xs ys);
}

-- a text that begins within another ends within it
pub text_within : (s : List ℕ) (at : ℕ) (xs : List ℕ) (end : ℕ) → TextAt s at xs end → at ≤ length s → end ≤ length s
text_within s at xs end t h =
    let e : length s - at ≡ length xs + (length s - end) = sym (length-drop at s) ∙ ap length t.text ∙ length-append xs (drop end s) ∙ rw (length-drop end s) in
    omega (arith, t.place)

-- ---- digits

pub first_digit : (s : List ℕ) (at n : ℕ) → DigitAt s at → n ≡ get_or s at 0 - 48 → TextAt s at (decimal n) (at + 1)
first_digit s at n h e = rw (decimal_one n (omega (arith, h.2))) (byte_text s at (48 + n) (h.0, omega (arith, h.1)))

pub next_digit : (s : List ℕ) (at n p m : ℕ) → TextAt s at (decimal n) p → DigitAt s p → (n ≡ 0 → ⊥) → m ≡ n * 10 + (get_or s p 0 - 48) → TextAt s at (decimal m) (p + 1)
next_digit s at n p m t h z e =
    let q : m / 10 ≡ n = omega (arith, h.2) in
    let r : m % 10 ≡ get_or s p 0 - 48 = omega (arith, h.2) in
    rw (decimal_more m (omega arith), q, r) (joined s (decimal n) ((48 + (get_or s p 0 - 48)) ∷ []) at p (p + 1) t (byte_text s p (48 + (get_or s p 0 - 48)) (h.0, omega (arith, h.1))))

-- ---- fields

pub field_text_lem : (s : List ℕ) (at n end : ℕ) → StandsAt s at 44 → TextAt s (at + 1) (decimal n) end → TextAt s at (numbers_text (n ∷ [])) end
unfolding fields_text field_text
field_text_lem s at n end h t = rw (append-nil (decimal n)) (joined s (44 ∷ []) (decimal n) at (at + 1) end (byte_text s at 44 h) t)

pub more_fields : (s xs ys : List ℕ) (at i end : ℕ) → TextAt s at (numbers_text xs) i → TextAt s i (numbers_text ys) end → TextAt s at (numbers_text (xs ++ ys)) end
more_fields s xs ys at i end t u = rw (map-append number xs ys, fields_append (map number xs) (map number ys)) (joined s (numbers_text xs) (numbers_text ys) at i end t u)

-- ---- entries

pub small_append : (xs ys : List ℕ) → Small xs → Small ys → Small (xs ++ ys)
small_append [] ys h k = k
small_append (x ∷ xs) ys h k = (h.0, small_append xs ys h.1 k)

or_false : (t a b : Bool) → (a ≡ false → b ≡ false) → t || a ≡ false → t || b ≡ false
or_false true a b f h = h
or_false false a b f h = f h

module _ (a b c : ℕ) where
  packs_more : (m : ℕ) (ns : List ℕ) → length ns ≡ m * 3 → packs (ns ++ (a ∷ b ∷ c ∷ [])) ≡ packs ns ++ (packed a b c ∷ [])
  unfolding packs
  packs_more zero [] e = refl
  packs_more zero (x ∷ ns) e = absurd (omega arith)
  packs_more (suc m) [] e = absurd (omega arith)
  packs_more (suc m) (x ∷ []) e = absurd (omega arith)
  packs_more (suc m) (x ∷ y ∷ []) e = absurd (omega arith)
  packs_more (suc m) (x ∷ y ∷ z ∷ ns) e = ap (λ (r : List ℕ). packed x y z ∷ r) (packs_more m ns (omega arith))

  undefined_more : (m : ℕ) (ns : List ℕ) → length ns ≡ m * 3 → undefined_exprs ns ≡ false → defined_expr a b c ≡ true → undefined_exprs (ns ++ (a ∷ b ∷ c ∷ [])) ≡ false
  unfolding undefined_exprs
  undefined_more zero [] e u d = rw (d)
  undefined_more zero (x ∷ ns) e u d = absurd (omega arith)
  undefined_more (suc m) [] e u d = absurd (omega arith)
  undefined_more (suc m) (x ∷ []) e u d = absurd (omega arith)
  undefined_more (suc m) (x ∷ y ∷ []) e u d = absurd (omega arith)
  undefined_more (suc m) (x ∷ y ∷ z ∷ ns) e u d = or_false (not (defined_expr x y z)) (undefined_exprs ns) (undefined_exprs (ns ++ (a ∷ b ∷ c ∷ []))) (λ h. undefined_more m ns (omega arith) h d) u

pub entries_none : (s : List ℕ) (at from : ℕ) (list : List ℕ) → EntriesAt s at from from at list list
unfolding fields_text undefined_exprs packs
entries_none s at from list = record {
  ns = [];
  text = record { text = refl; place = omega arith };
  small = tt;
  defined = refl;
  more = omega arith;
  whole = omega arith;
  packed = sym (append-nil (take from list));
}

pub entries_more : (s : List ℕ) (at from n p x end : ℕ) (list list' : List ℕ) → EntriesAt s at from n p list list' → EntryAt s p x end → n < length list' →
    EntriesAt s at from (n + 1) end list (set list' n x)
entries_more s at from n p x end list list' o e h =
    let three : List ℕ = e.kind ∷ e.name ∷ e.index ∷ [] in
    record {
      ns = o.ns ++ three;
      text = more_fields s o.ns three at p end o.text e.text;
      small = small_append o.ns three o.small e.small;
      defined = undefined_more e.kind e.name e.index (n - from) o.ns o.whole o.defined e.defined;
      more = omega (arith, o.more);
      whole = omega (arith, length-append o.ns three, o.whole, o.more);
      packed =
          first_pushed list' n x h ∙ ap (λ (r : List ℕ). r ++ (x ∷ [])) o.packed ∙ append_assoc (take from list) (packs o.ns) (x ∷ [])
          ∙ ap (λ (r : List ℕ). take from list ++ r) (ap (λ (y : ℕ). packs o.ns ++ (y ∷ [])) e.packs ∙ sym (packs_more e.kind e.name e.index (n - from) o.ns o.whole));
    }

-- ---- numbers

over_more : (m x : ℕ) (ns : List ℕ) → over m ns ≡ false → x ≤ m → over m (ns ++ (x ∷ [])) ≡ false
unfolding over
over_more m x [] e h = rw (le-ltb m x h)
over_more m x (n ∷ ns) e h = or_false (ltb m n) (over m ns) (over m (ns ++ (x ∷ []))) (λ f. over_more m x ns f h) e

pub numbers_none : (s : List ℕ) (at largest : ℕ) (list : List ℕ) → NumbersHeld s at largest 0 at list
unfolding fields_text over
numbers_none s at largest list = record { ns = []; text = record { text = refl; place = omega arith }; small = tt; within = refl; long = refl; held = refl }

pub numbers_more : (s : List ℕ) (at largest n p : ℕ) (r : Number) (list : List ℕ) → NumbersHeld s at largest n p list → FieldFound s p (Some r) → r.value ≤ largest → n < length list →
    NumbersHeld s at largest (n + 1) r.end (set list n r.value)
numbers_more s at largest n p r list o e l h = let x : ℕ = r.value in record {
  ns = o.ns ++ (x ∷ []);
  text = more_fields s o.ns (x ∷ []) at p r.end o.text e.0;
  small = small_append o.ns (x ∷ []) o.small (e.1, tt);
  within = over_more largest x o.ns o.within l;
  long = omega (arith, length-append o.ns (x ∷ []), o.long);
  held = first_pushed list n x h ∙ ap (λ (l : List ℕ). l ++ (x ∷ [])) o.held;
}

-- ---- what each call finds

pub field_found : (s : List ℕ) (at : ℕ) (r : Option Number) → StandsAt s at 44 → DigitsFound s (at + 1) r → FieldFound s at r
field_found s at (Some r) h d = (field_text_lem s at r.value r.end h d.0, d.1)
field_found s at None h d = tt

-- a field takes bytes
pub field_goes : (s : List ℕ) (at : ℕ) (r : Number) → FieldFound s at (Some r) → at < length s → (at < r.end) × (r.end ≤ length s)
unfolding fields_text
field_goes s at r e h = (omega (arith, e.0.place), text_within s at (numbers_text (r.value ∷ [])) r.end e.0 (omega arith))

-- so does an entry
pub entry_goes : (s : List ℕ) (at x end : ℕ) → EntryAt s at x end → at < length s → (at < end) × (end ≤ length s)
unfolding fields_text
entry_goes s at x end e h = (omega (arith, e.text.place), text_within s at (numbers_text (e.kind ∷ e.name ∷ e.index ∷ [])) end e.text (omega arith))

-- the line's end after what was read
pub entries_found : (s : List ℕ) (at from most n p : ℕ) (list list' : List ℕ) → EntriesAt s at from n p list list' → n ≤ most →
    (r : Option Entries) → EndFound s p n r → EntriesFound s at from most list r list'
entries_found s at from most n p list list' o h (Some r) e = record {
  end = p;
  entries = subst (λ (m : ℕ). EntriesAt s at from m p list list') (sym e.0) o;
  few = omega (arith, e.0);
  close = e.1;
}
entries_found s at from most n p list list' o h None e = tt

pub numbers_found : (s : List ℕ) (at largest n p : ℕ) (list : List ℕ) → NumbersHeld s at largest n p list → n ≤ 32 →
    (r : Option Entries) → EndFound s p n r → NumbersFound s at largest r list
numbers_found s at largest n p list o h (Some r) e = record {
  end = p;
  numbers = subst (λ (m : ℕ). NumbersHeld s at largest m p list) (sym e.0) o;
  few = omega (arith, e.0);
  close = e.1;
}
numbers_found s at largest n p list o h None e = tt
