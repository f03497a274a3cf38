-- A line that a quick reading found is accepted, and its list is what was packed.
-- Assumes nothing.
use Prim.Native.Nat.{ℕ, ◌+◌, ◌-◌, ◌*◌, ◌%◌, ◌≤◌, ◌<◌}
use mathlib.Core.Path.{◌≡◌, refl, sym, ap, ◌∙◌}
use mathlib.Core.Bool.{true}
use mathlib.Core.Option.{Option, some}
use mathlib.Core.List.{List, [], ◌∷◌, ◌++◌, map}
use native.Mathlib.Omega.{arith}
use borrow.Author.Tests.{eq-eqb, le-leb, le-ltb}
use lib.ListN.{length, take, drop, set, length-map, take-append-drop}
use lib.Seq.{length-take-le}
use Rattle.text.specs.declared.field.Field.{Field}
use Rattle.text.specs.declared.field.Field.TheVariants.{Number as number}
use Rattle.text.specs.Text.{line_at, after}
use Rattle.text.specs.Write.{fields_text, line_text}
use Rattle.text.specs.Bounds.{allows_all, widest}
use Rattle.text.proofs.Limits.{all_largest}
use Rattle.text.proofs.RoundTrip.{line_back, after_back}
use Rattle.linekinds.specs.Lines.{plain, whole_entries, line_number}
use Rattle.linekinds.specs.KeyLines.{values}
use Rattle.linekinds.specs.Reading.{kind_of, head_count, entry_width, codes_number, packs, packed_by, Small}
use Rattle.linekinds.specs.ListLines.{line_letter, line_codes, line_kind, ListRead}
use Rattle.linekinds.specs.PlainText.{StandsAt, TextAt, numbers_text, LineEntries, EntriesFound, RulesFound, NumbersFound, InputFound, ListAt, ListFound}
use Rattle.linekinds.specs.declared.kind.Codes.{Codes}
use Rattle.linekinds.specs.declared.kind.Codes.TheVariants.{Exprs, Rules, Input, Directions, Names}
use Rattle.linekinds.specs.declared.plain.Entries.{Entries}
use Rattle.std.specs.Prelude.{Some, None, Ok}
use Rattle.std.specs.Prelude.{Option as StdOption}
use Rattle.linekinds.specs.declared.lists.SheetKind.{SheetKind}
use Rattle.linekinds.proofs.LineNumbers.{line_number_lem}
use Rattle.linekinds.proofs.Packing.{first_put}
use Rattle.linekinds.proofs.ReadLists.{packed_long, list_packed}
use Rattle.linekinds.proofs.PlainText.{byte_text, joined, more_fields}

-- ---- small numbers are fields that a line may have

pub small_plain : (ns : List ℕ) → Small ns → allows_all plain (map number ns) ≡ true
unfolding allows_all
small_plain [] h = refl
small_plain (n ∷ ns) h = rw (le-leb n 65535 (omega (arith, h.0))) (small_plain ns h.1)

pub small_wide : (ns : List ℕ) → Small ns → allows_all widest (map number ns) ≡ true
unfolding allows_all
small_wide [] h = refl
small_wide (n ∷ ns) h = rw (le-leb n 18446744073709551615 (omega (arith, h.0))) (small_wide ns h.1)

pub number_values : (ns : List ℕ) → values (map number ns) ≡ ns
number_values [] = refl
number_values (n ∷ ns) = ap (λ (r : List ℕ). n ∷ r) (number_values ns)

-- ---- a line of fields

module _ (s : List ℕ) (at letter : ℕ) (fs : List Field) where
  pub line_text_lem : (end : ℕ) → StandsAt s at letter → TextAt s (at + 1) (fields_text fs) end → StandsAt s end 10 → TextAt s at (line_text letter fs) (end + 1)
  unfolding line_text
  line_text_lem end h t e = joined s (letter ∷ []) (fields_text fs ++ (10 ∷ [])) at (at + 1) (end + 1) (byte_text s at letter h) (joined s (fields_text fs) (10 ∷ []) (at + 1) end (end + 1) t (byte_text s end 10 e))

  module _ (next : ℕ) (t : TextAt s at (line_text letter fs) next) (inside : at ≤ length s) (other : letter ≡ 10 → ⊥) (wide : allows_all widest fs ≡ true) where
    whole : s ≡ take at s ++ (line_text letter fs ++ drop next s)
    whole = sym (take-append-drop at s) ∙ ap (λ (r : List ℕ). take at s ++ r) t.text

    long : length (take at s) ≡ at
    long = length-take-le at s inside

    pub line_is : line_at letter s at ≡ some fs
    line_is = (λ j. line_at letter (whole j) (sym long j)) ∙ line_back letter fs other wide (take at s) (drop next s)

    pub after_is : after s at ≡ next
    after_is = (λ j. after (whole j) (sym long j)) ∙ after_back letter fs other wide (take at s) (drop next s) ∙ omega (arith, long, t.place)

-- ---- a line of small numbers

module _ (s : List ℕ) (at letter : ℕ) (ns : List ℕ) where
  module _ (next : ℕ) (t : TextAt s at (line_text letter (map number ns)) next) (inside : at ≤ length s) (other : letter ≡ 10 → ⊥) (small : Small ns) where
    numbers_are : line_at letter s at ≡ some (map number ns)
    numbers_are = line_is s at letter (map number ns) next t inside other (small_wide ns small)

    numbers_end : after s at ≡ next
    numbers_end = after_is s at letter (map number ns) next t inside other (small_wide ns small)

    module _ (c : Codes) (heads : head_count c ≤ length ns) (entries : whole_entries (entry_width c) (length ns - head_count c) ≡ true) (few : length ns - head_count c ≤ 32 * entry_width c) (early : next ≤ 65536) (codes : codes_number c ns ≡ 0) where
      line_zero : line_number (kind_of c letter) 0 next (some (map number ns)) ≡ 0
      line_zero =
          line_number_lem c letter 0 next (map number ns)
          ∙ rw (length-map ns number, le-leb (head_count c) (length ns) heads, ← all_largest plain (map number ns), small_plain ns small, entries, le-ltb 65536 next early, le-ltb (32 * entry_width c) (length ns - head_count c) few, number_values ns) codes

      pub list_at : (count : ℕ) (list : List ℕ) → count ≤ 64 → take count list ≡ packed_by c ns → ListAt c letter s at count next list
      list_at count list m e = record {
        zero = rw (numbers_are, numbers_end) line_zero;
        goes = sym numbers_end;
        early = early;
        few = m;
        held = e ∙ rw (numbers_are, number_values ns);
      }

-- ---- what was found on a line of each kind

pub marked_found : (s : List ℕ) (at mark end : ℕ) (list : List ℕ) → TextAt s at (numbers_text (mark ∷ [])) end → mark ≤ 1 →
    (r : StdOption Entries) (list' : List ℕ) → EntriesFound s end 1 33 (set list 0 mark) r list' → InputFound s at list r list'
marked_found s at mark end list t h (Some r) list' e = record { mark = mark; end = end; text = t; small = h; entries = e }
marked_found s at mark end list t h None list' e = tt

module _ (s : List ℕ) (at letter : ℕ) (other : letter ≡ 10 → ⊥) (h : StandsAt s at letter) (list : List ℕ) where
  exprs_at : (most count next : ℕ) (list' : List ℕ) → most ≤ 32 → LineEntries s (at + 1) 0 most count next list list' → ListAt Exprs letter s at count next list'
  exprs_at most count next list' m e =
      let o = e.entries in
      list_at s at letter o.ns next (rw e.close.goes (line_text_lem s at letter (map number o.ns) e.end h o.text e.close.ends)) (omega (arith, h.0)) other o.small Exprs
      (omega arith) (eq-eqb ((length o.ns - 0) % 3) 0 (omega (arith, o.whole))) (omega (arith, o.whole, e.few)) e.close.early (rw o.defined) count list' (omega (arith, e.few)) o.packed

  pub exprs_found : (r : StdOption Entries) (list' : List ℕ) → EntriesFound s (at + 1) 0 32 list r list' → ListFound Exprs letter s at r list'
  exprs_found (Some r) list' e = exprs_at 32 r.count (r.end + 1) list' (omega arith) e
  exprs_found None list' e = tt

  pub rules_found : (r : StdOption Entries) (list' : List ℕ) → RulesFound s (at + 1) list r list' → ListFound Rules letter s at r list'
  rules_found (Some r) list' (e, even) =
      let o = e.entries in
      list_at s at letter o.ns (r.end + 1) (rw e.close.goes (line_text_lem s at letter (map number o.ns) e.end h o.text e.close.ends)) (omega (arith, h.0)) other o.small Rules
      (omega arith) (eq-eqb ((length o.ns - 0) % 6) 0 (omega (arith, o.whole))) (omega (arith, o.whole, e.few)) e.close.early (rw o.defined) r.count list' e.few o.packed
  rules_found None list' e = tt

  pub input_found : (r : StdOption Entries) (list' : List ℕ) → 0 < length list → InputFound s (at + 1) list r list' → ListFound Input letter s at r list'
  input_found (Some r) list' full e =
      let l = e.entries in
      let o = l.entries in
      let ns : List ℕ = e.mark ∷ o.ns in
      let t = more_fields s (e.mark ∷ []) o.ns (at + 1) e.end l.end e.text o.text in
      list_at s at letter ns (r.end + 1) (rw l.close.goes (line_text_lem s at letter (map number ns) l.end h t l.close.ends)) (omega (arith, h.0)) other (omega (arith, e.small), o.small) Input
      (omega arith) (eq-eqb ((length ns - 1) % 3) 0 (omega (arith, o.whole))) (omega (arith, o.whole, l.few)) l.close.early (rw (le-ltb 1 e.mark e.small, o.defined)) r.count list' (omega (arith, l.few))
      (o.packed ∙ ap (λ (q : List ℕ). q ++ packs o.ns) (first_put list (e.mark ∷ []) e.mark full (omega arith) refl))
  input_found None list' full e = tt

  -- each number is an entry
  each : (n : ℕ) → whole_entries 1 n ≡ true
  each n = eq-eqb (n % 1) 0 (omega arith)

  pub directions_found : (r : StdOption Entries) (list' : List ℕ) → NumbersFound s (at + 1) 3 r list' → ListFound Directions letter s at r list'
  directions_found (Some r) list' e =
      let o = e.numbers in
      list_at s at letter o.ns (r.end + 1) (rw e.close.goes (line_text_lem s at letter (map number o.ns) e.end h o.text e.close.ends)) (omega (arith, h.0)) other o.small Directions
      (omega arith) (each (length o.ns - 0)) (omega (arith, o.long, e.few)) e.close.early (rw o.within) r.count list' (omega (arith, e.few)) o.held
  directions_found None list' e = tt

  pub names_found : (r : StdOption Entries) (list' : List ℕ) → NumbersFound s (at + 1) 65535 r list' → ListFound Names letter s at r list'
  names_found (Some r) list' e =
      let o = e.numbers in
      list_at s at letter o.ns (r.end + 1) (rw e.close.goes (line_text_lem s at letter (map number o.ns) e.end h o.text e.close.ends)) (omega (arith, h.0)) other o.small Names
      (omega arith) (each (length o.ns - 0)) (omega (arith, o.long, e.few)) e.close.early refl r.count list' (omega (arith, e.few)) o.held
  names_found None list' e = tt

-- ---- line i of a sheet

pub list_read : (s : List ℕ) (at : ℕ) (k : SheetKind) (i count next : ℕ) (list : List ℕ) → length list ≡ 64 →
    ListAt (line_codes k i) (line_letter k i) s at count next list → ListRead s at k i (Ok (record { count = count; next = next })) list
list_read s at k i count next list f o =
    let x : Option (List Field) = line_at (line_letter k i) s at in
    let n = packed_long 0 0 (line_codes k i) x count list f o.few o.held in
    record {
      answer = list_packed (line_number (line_kind k i) 0 (after s at) x) (after s at) (line_codes k i) x o.zero count next n o.goes;
      full = f;
      held = λ z. rw (← n) o.held;
    }
