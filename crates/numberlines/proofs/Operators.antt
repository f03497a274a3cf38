-- A tree line without a limit, put together from its numbers.
-- Assumes nothing.
use Prim.Native.Nat.{ℕ, ◌+◌, ◌≤◌, ◌<◌}
use mathlib.Core.Path.{◌≡◌, refl, sym, ap, subst, ◌∙◌}
use mathlib.Core.Bool.{true}
use mathlib.Core.Option.{none}
use Rattle.keys.proofs.Truths.{none_some}
use mathlib.Core.List.{List, [], ◌∷◌, ◌++◌, map}
use native.Mathlib.Omega.{arith}
use borrow.Author.Tests.{le-leb, lt-ltb}
use borrow.Rule.Slice.PartMut.{put_mid}
use lib.ListN.{length, get_or, drop, set}
use Rattle.text.specs.declared.field.Field.{Field}
use Rattle.text.specs.declared.field.Field.TheVariants.{Number as number, Empty as empty}
use Rattle.text.specs.Text.{until, line, line_fields, line_at}
use Rattle.text.specs.Write.{fields_text, field_text, line_text}
use Rattle.text.specs.Bounds.{allows_all, widest, well_formed}
use Rattle.text.proofs.Lengths.{fields_append}
use Rattle.text.proofs.WrittenBack.{line_again, after_again}
use Rattle.linekinds.specs.Reading.{Small}
use Rattle.linekinds.specs.PlainText.{StandsAt, TextAt, numbers_text}
use Rattle.linekinds.proofs.PlainText.{byte_text, joined, small_append, more_fields}
use Rattle.linekinds.proofs.PlainLines.{small_wide, line_text_lem, line_is, after_is}
use Rattle.numberlines.specs.NumberLines.{Begins, NumberAt, NumbersAt, OperatorLine, OperatorFound}
use Rattle.numberlines.specs.Runs.{CommaAt, BegunTo, NumbersTo, EmptyTo, LastTo}
use Rattle.numberlines.specs.declared.comma.Comma.{Comma}
use Rattle.numberlines.proofs.Apart.{parted, stands_first, fields_parted, one_field, numbers_end}
use Rattle.numberlines.proofs.Numbers.{goes_on, ends_there, longer_text, longer_small}
use Rattle.std.specs.Prelude.{Result, Ok, Err}
use Rattle.numberlines.specs.declared.row.Unread.{Unread}
use Rattle.numberlines.specs.declared.row.Unread.TheVariants.{Unusual}

-- the row of an operator, part by part
abbrev row_of : List ℕ → List ℕ → List ℕ → List ℕ → ℕ → List ℕ
row_of row xs ds es g = set (put_mid 8 2 (set (put_mid 6 1 (set (set (put_mid 1 3 row xs) 4 0) 5 0) ds) 7 0) es) 10 g

row_held : (row : List ℕ) (a b c d e f g : ℕ) → length row ≡ 11 → row_of row (a ∷ b ∷ c ∷ []) (d ∷ []) (e ∷ f ∷ []) g ≡ get_or row 0 0 ∷ a ∷ b ∷ c ∷ 0 ∷ 0 ∷ d ∷ 0 ∷ e ∷ f ∷ g ∷ []
row_held (r0 ∷ r1 ∷ r2 ∷ r3 ∷ r4 ∷ r5 ∷ r6 ∷ r7 ∷ r8 ∷ r9 ∷ r10 ∷ []) a b c d e f g h = refl
row_held [] a b c d e f g h = absurd (omega arith)
row_held (r0 ∷ []) a b c d e f g h = absurd (omega arith)
row_held (r0 ∷ r1 ∷ []) a b c d e f g h = absurd (omega arith)
row_held (r0 ∷ r1 ∷ r2 ∷ []) a b c d e f g h = absurd (omega arith)
row_held (r0 ∷ r1 ∷ r2 ∷ r3 ∷ []) a b c d e f g h = absurd (omega arith)
row_held (r0 ∷ r1 ∷ r2 ∷ r3 ∷ r4 ∷ []) a b c d e f g h = absurd (omega arith)
row_held (r0 ∷ r1 ∷ r2 ∷ r3 ∷ r4 ∷ r5 ∷ []) a b c d e f g h = absurd (omega arith)
row_held (r0 ∷ r1 ∷ r2 ∷ r3 ∷ r4 ∷ r5 ∷ r6 ∷ []) a b c d e f g h = absurd (omega arith)
row_held (r0 ∷ r1 ∷ r2 ∷ r3 ∷ r4 ∷ r5 ∷ r6 ∷ r7 ∷ []) a b c d e f g h = absurd (omega arith)
row_held (r0 ∷ r1 ∷ r2 ∷ r3 ∷ r4 ∷ r5 ∷ r6 ∷ r7 ∷ r8 ∷ []) a b c d e f g h = absurd (omega arith)
row_held (r0 ∷ r1 ∷ r2 ∷ r3 ∷ r4 ∷ r5 ∷ r6 ∷ r7 ∷ r8 ∷ r9 ∷ []) a b c d e f g h = absurd (omega arith)
row_held (r0 ∷ r1 ∷ r2 ∷ r3 ∷ r4 ∷ r5 ∷ r6 ∷ r7 ∷ r8 ∷ r9 ∷ r10 ∷ r11 ∷ rs) a b c d e f g h = absurd (omega arith)

-- an empty field between numbers
abbrev limitless : List ℕ → List ℕ → List Field
limitless xs ys = map number xs ++ (empty ∷ map number ys)

limitless_wide : (xs ys : List ℕ) → Small xs → Small ys → allows_all widest (limitless xs ys) ≡ true
unfolding allows_all
limitless_wide [] ys g h = small_wide ys h
limitless_wide (x ∷ xs) ys g h = rw (le-leb x 18446744073709551615 (omega (arith, g.0))) (limitless_wide xs ys g.1 h)

limitless_text : (s : List ℕ) (at p end : ℕ) (xs ys : List ℕ) → TextAt s at (numbers_text xs) p → StandsAt s p 44 → TextAt s (p + 1) (numbers_text ys) end → TextAt s at (fields_text (limitless xs ys)) end
unfolding fields_text field_text
limitless_text s at p end xs ys t k u =
    rw (fields_append (map number xs) (empty ∷ map number ys)) (joined s (numbers_text xs) (44 ∷ numbers_text ys) at p end t (joined s (44 ∷ []) (numbers_text ys) p (p + 1) end (byte_text s p 44 k) u))

-- ---- such a line's text, part by part

-- an LF ends a line before its letter
lf_line : (s : List ℕ) (at : ℕ) (xs : List ℕ) → drop at s ≡ 10 ∷ xs → line_at 10 s at ≡ none
unfolding line_at line until line_fields
lf_line s at xs e = rw (e, lt-ltb 0 (length (10 ∷ xs)) (omega arith))

module _ {letter : ℕ} {s : List ℕ} {at : ℕ} {row : List ℕ} {end : ℕ} {ns : List ℕ} where
  -- where its parts end
  pub record OperatorText (l : OperatorLine letter s at row end ns) : Type 0 where
    pub gap : ℕ
    pub first : NumbersAt s (at + 1) (l.kind ∷ l.count ∷ l.keeps ∷ []) gap
    pub empty : StandsAt s (gap + 1) 44
    pub order : ℕ
    pub second : NumbersAt s (gap + 1) (l.order ∷ []) order
    pub need : ℕ
    pub third : NumbersAt s order (l.tracked ∷ l.need ∷ []) need
    pub last : NumberAt s (need + 1) l.children end 10

  line_is_text : (l : OperatorLine letter s at row end ns) → TextAt s at (line_text letter (limitless (l.kind ∷ l.count ∷ l.keeps ∷ []) (l.order ∷ l.tracked ∷ l.need ∷ l.children ∷ []))) (end + 1)
  unfolding well_formed
  line_is_text l =
      let fs : List Field = limitless (l.kind ∷ l.count ∷ l.keeps ∷ []) (l.order ∷ l.tracked ∷ l.need ∷ l.children ∷ []) in
      record { text = line_again letter s at fs l.line.is refl ∙ ap (λ (i : ℕ). line_text letter fs ++ drop i s) l.line.goes; place = sym l.line.goes ∙ after_again letter s at fs l.line.is refl }

  line_begins : (l : OperatorLine letter s at row end ns) → Begins s at letter
  unfolding fields_text line_text
  line_begins l =
      let t = line_is_text l in
      (stands_first s at letter _ (end + 1) t, stands_first s (at + 1) 44 _ (end + 1) (parted s (letter ∷ []) _ at (end + 1) t).1)

  other_letter : (l : OperatorLine letter s at row end ns) → letter ≡ 10 → ⊥
  unfolding line_text
  other_letter l e =
      let fs : List Field = limitless (l.kind ∷ l.count ∷ l.keeps ∷ []) (l.order ∷ l.tracked ∷ l.need ∷ l.children ∷ []) in
      let rest : List ℕ = (fields_text fs ++ (10 ∷ [])) ++ drop (end + 1) s in
      none_some (lf_line s at rest ((line_is_text l).text ∙ ap (λ (b : ℕ). b ∷ rest) e)) (rw e at l.line.is)

  pub operator_text : (l : OperatorLine letter s at row end ns) → OperatorText l
  unfolding fields_text field_text line_text
  operator_text l =
      let xs : List ℕ = l.kind ∷ l.count ∷ l.keeps ∷ [] in
      let ys : List ℕ = l.order ∷ l.tracked ∷ l.need ∷ l.children ∷ [] in
      let fs : List Field = limitless xs ys in
      let m = l.small in
      let t = line_is_text l in
      let u = (parted s (letter ∷ []) (fields_text fs ++ (10 ∷ [])) at (end + 1) t).1 in
      let v = parted s (fields_text fs) (10 ∷ []) (at + 1) (end + 1) u in
      let stop : at + 1 + length (fields_text fs) ≡ end = omega (arith, v.1.place) in
      let w : TextAt s (at + 1) (numbers_text xs ++ (44 ∷ numbers_text ys)) end = subst (TextAt s (at + 1) (numbers_text xs ++ (44 ∷ numbers_text ys))) stop (rw (fields_append (map number xs) (empty ∷ map number ys)) at v.0) in
      let a = parted s (numbers_text xs) (44 ∷ numbers_text ys) (at + 1) end w in
      let p : ℕ = at + 1 + length (numbers_text xs) in
      let b = (parted s (44 ∷ []) (numbers_text ys) p end a.1).1 in
      let c = fields_parted s (l.order ∷ []) (l.tracked ∷ l.need ∷ l.children ∷ []) (p + 1) end b in
      let q : ℕ = p + 1 + length (numbers_text (l.order ∷ [])) in
      let d = fields_parted s (l.tracked ∷ l.need ∷ []) (l.children ∷ []) q end c.1 in
      record {
        gap = p;
        first = record { text = a.0; small = (m.0, (m.1.0, (m.1.1.0, tt))); ends = stands_first s p 44 (numbers_text ys) end a.1 };
        empty = stands_first s (p + 1) 44 _ end b;
        order = q;
        second = record { text = c.0; small = (m.1.1.1.0, tt); ends = stands_first s q 44 _ end c.1 };
        need = q + length (numbers_text (l.tracked ∷ l.need ∷ []));
        third = record { text = d.0; small = (m.1.1.1.1.0, (m.1.1.1.1.1.0, tt)); ends = stands_first s _ 44 _ end d.1 };
        last = one_field s _ l.children end 10 d.1 m.1.1.1.1.1.1.0 (subst (λ (i : ℕ). StandsAt s i 10) stop (stands_first s _ 10 [] (end + 1) v.1));
      }

-- ---- from one comma to the next, on a line where the numbers ms stand

module _ (s : List ℕ) (at end : ℕ) (from : Comma) where
  kept : (c : Comma) (ns ms : List ℕ) → CommaAt s at from → NumbersTo from (Ok c) ns → length ms ≡ length ns → NumbersAt s at ms end → CommaAt s end c
  kept c ns ms f h e o = let g = goes_on s at from c ns f h in (g.0.0, numbers_end s at ns ms c.at end (sym e) g.1 o)

  lost : (u : Unread) (ns ms : List ℕ) → CommaAt s at from → NumbersTo from (Err u) ns → length ms ≡ length ns → NumbersAt s at ms end → ⊥
  lost u ns ms f h e o = h.1 ms end e (subst (λ (i : ℕ). NumbersAt from.s.now i ms end) (sym f.1) (subst (λ (r : List ℕ). NumbersAt r at ms end) (sym f.0) o))

module _ (letter : ℕ) (s : List ℕ) (at : ℕ) (row : List ℕ) (eleven : length row ≡ 11) where
  line_of :
      (other : letter ≡ 10 → ⊥) (b : Begins s at letter) (xs ds es : List ℕ) (g p end : ℕ) → length xs ≡ 3 → length ds ≡ 1 → length es ≡ 2 → TextAt s (at + 1) (numbers_text xs) p → StandsAt s p 44 →
      TextAt s (p + 1) (numbers_text (ds ++ (es ++ (g ∷ [])))) end → StandsAt s end 10 → Small xs → Small (ds ++ (es ++ (g ∷ []))) → end < 65536 → OperatorLine letter s at row end (row_of row xs ds es g)
  line_of other b (x ∷ y ∷ z ∷ []) (d ∷ []) (e ∷ f ∷ []) g p end i j k t h u l m o early =
      let os : List ℕ = d ∷ e ∷ f ∷ g ∷ [] in
      let fs : List Field = limitless (x ∷ y ∷ z ∷ []) os in
      let v = line_text_lem s at letter fs end b.0 (limitless_text s (at + 1) p end (x ∷ y ∷ z ∷ []) os t h u) l in
      let w = limitless_wide (x ∷ y ∷ z ∷ []) os m o in
      let within : at ≤ length s = omega (arith, b.0.0) in
      record {
        kind = x;
        count = y;
        keeps = z;
        order = d;
        tracked = e;
        need = f;
        children = g;
        line = record { is = line_is s at letter fs (end + 1) v within other w; goes = after_is s at letter fs (end + 1) v within other w; early = early };
        small = (m.0, (m.1.0, (m.1.1.0, o)));
        held = row_held row x y z d e f g eleven;
      }
  line_of other b [] ds es g p end i j k t h u l m o early = absurd (omega arith)
  line_of other b (x ∷ []) ds es g p end i j k t h u l m o early = absurd (omega arith)
  line_of other b (x ∷ y ∷ []) ds es g p end i j k t h u l m o early = absurd (omega arith)
  line_of other b (x ∷ y ∷ z ∷ z' ∷ zs) ds es g p end i j k t h u l m o early = absurd (omega arith)
  line_of other b (x ∷ y ∷ z ∷ []) [] es g p end i j k t h u l m o early = absurd (omega arith)
  line_of other b (x ∷ y ∷ z ∷ []) (d ∷ d' ∷ ds) es g p end i j k t h u l m o early = absurd (omega arith)
  line_of other b (x ∷ y ∷ z ∷ []) (d ∷ []) [] g p end i j k t h u l m o early = absurd (omega arith)
  line_of other b (x ∷ y ∷ z ∷ []) (d ∷ []) (e ∷ []) g p end i j k t h u l m o early = absurd (omega arith)
  line_of other b (x ∷ y ∷ z ∷ []) (d ∷ []) (e ∷ f ∷ f' ∷ es) g p end i j k t h u l m o early = absurd (omega arith)

  -- no line of an operator is there
  abbrev NoLine : Type 0
  NoLine = (end : ℕ) (ns : List ℕ) → OperatorLine letter s at row end ns → ⊥

  pub operator_unusual : (r : Result ℕ Unread) (u : Unread) (row' : List ℕ) → r ≡ Err u → u ≡ Unusual → NoLine → OperatorFound letter s at row r row'
  operator_unusual r u row' e z h = rw (e, z) h

  pub operator_other : (r : Result ℕ Unread) (u : Unread) → r ≡ Err u → BegunTo s at letter (Err u) → OperatorFound letter s at row r row
  operator_other r u e b = rw (e, b.0) (refl, λ k end ns l. b.1 k (other_letter l) (line_begins l))

  module _ (from : Comma) (b : BegunTo s at letter (Ok from)) where
    pub first_unusual : (u : Unread) (xs : List ℕ) → length xs ≡ 3 → NumbersTo from (Err u) xs → NoLine
    first_unusual u xs i h end ns l = let o = operator_text l in lost s (at + 1) _ from u xs _ b.0 h (omega (arith, i)) o.first

    module _ (p' : Comma) (xs : List ℕ) (i : length xs ≡ 3) (t : NumbersTo from (Ok p') xs) where
      gap_at : (end : ℕ) (ns : List ℕ) (l : OperatorLine letter s at row end ns) → CommaAt s (operator_text l).gap p'
      gap_at end ns l = let o = operator_text l in kept s (at + 1) o.gap from p' xs _ b.0 t (omega (arith, i)) o.first

      pub gap_unusual : (u : Unread) → EmptyTo p' (Err u) → NoLine
      gap_unusual u h end ns l =
          let o = operator_text l in let z = gap_at end ns l in
          h.1 (subst (λ (i : ℕ). StandsAt p'.s.now (i + 1) 44) (sym z.1) (subst (λ (r : List ℕ). StandsAt r (o.gap + 1) 44) (sym z.0) o.empty))

      module _ (p : Comma) (a : EmptyTo p' (Ok p)) where
        after_gap : (end : ℕ) (ns : List ℕ) (l : OperatorLine letter s at row end ns) → CommaAt s ((operator_text l).gap + 1) p
        after_gap end ns l = let z = gap_at end ns l in (a.0 ∙ z.0, a.1 ∙ ap (λ (i : ℕ). i + 1) z.1)

        pub order_unusual : (u : Unread) (ds : List ℕ) → length ds ≡ 1 → NumbersTo p (Err u) ds → NoLine
        order_unusual u ds j h end ns l = let o = operator_text l in lost s (o.gap + 1) _ p u ds _ (after_gap end ns l) h (omega (arith, j)) o.second

        module _ (q : Comma) (ds : List ℕ) (j : length ds ≡ 1) (v : NumbersTo p (Ok q) ds) where
          order_at : (end : ℕ) (ns : List ℕ) (l : OperatorLine letter s at row end ns) → CommaAt s (operator_text l).order q
          order_at end ns l = let o = operator_text l in kept s (o.gap + 1) o.order p q ds _ (after_gap end ns l) v (omega (arith, j)) o.second

          pub need_unusual : (u : Unread) (es : List ℕ) → length es ≡ 2 → NumbersTo q (Err u) es → NoLine
          need_unusual u es k h end ns l = let o = operator_text l in lost s o.order _ q u es _ (order_at end ns l) h (omega (arith, k)) o.third

          module _ (c : Comma) (es : List ℕ) (k : length es ≡ 2) (w : NumbersTo q (Ok c) es) where
            pub last_unusual : (u : Unread) (g : ℕ) → LastTo c (Err u) g → NoLine
            last_unusual u g h end ns l =
                let o = operator_text l in let z = kept s o.order o.need q c es _ (order_at end ns l) w (omega (arith, k)) o.third in
                h.1 l.children end (subst (λ (i : ℕ). NumberAt c.s.now (i + 1) l.children end 10) (sym z.1) (subst (λ (r : List ℕ). NumberAt r (o.need + 1) l.children end 10) (sym z.0) o.last)) l.line.early

  pub operator_found :
      (from p' p q c : Comma) (xs ds es : List ℕ) (g : ℕ) → BegunTo s at letter (Ok from) → length xs ≡ 3 → length ds ≡ 1 → length es ≡ 2 →
      NumbersTo from (Ok p') xs → EmptyTo p' (Ok p) → NumbersTo p (Ok q) ds → NumbersTo q (Ok c) es → (r : Result ℕ Unread) → LastTo c r g → OperatorFound letter s at row r (row_of row xs ds es g)
  operator_found from p' p q c xs ds es g b i j k t a u v (Ok end) w =
      let x = goes_on s (at + 1) from p' xs b.0 t in
      let here : CommaAt s (p'.at + 1) p = (a.0 ∙ x.0.0, a.1) in
      let y = goes_on s (p'.at + 1) p q ds here u in
      let z = goes_on s q.at q c es y.0 v in
      let n = ends_there s c.at c end g z.0 w in
      let l = longer_text s q.at es c.at z.1 g end 10 n in
      line_of b.2 b.1 xs ds es g p'.at end i j k x.1.text x.1.ends (more_fields s ds (es ++ (g ∷ [])) (p'.at + 1) q.at end y.1.text l) n.ends x.1.small
      (small_append ds (es ++ (g ∷ [])) y.1.small (longer_small s q.at es c.at z.1 g end 10 n)) w.1
  operator_found from p' p q c xs ds es g b i j k t a u v (Err e) w = operator_unusual (Err e) e _ refl w.0 (last_unusual from b p' xs i t p a q ds j u c es k v e g w)
