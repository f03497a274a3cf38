-- The rows of legal lists are fine, and fine rows are those of legal lists.
use mathlib.Core.Path.{◌≡◌, refl, ap}
use Prim.Native.Nat.{ℕ, zero, suc, ◌*◌, ◌%◌, ◌≤◌}
use native.Mathlib.Omega.{arith}
use mathlib.Core.List.{List, [], ◌∷◌, map}
use mathlib.Core.Bool.{Bool, true, false, cond, not, ◌&&◌, ◌||◌}
use mathlib.Core.Option.{Option, none, some}
use lib.Dec.{eqb, leb, ltb}
use lib.ListN.{length, get_or, length-map, replicate}
use borrow.Author.Tests.{eqb-true, eq-eqb, leb-true, le-leb, ltb-false, le-ltb, not-false}
use Rattle.std.proofs.lemmas.Bool.{and_parts, or_parts}
use Rattle.text.specs.declared.field.Field.{Field}
use Rattle.text.specs.declared.field.Field.TheVariants.{Number as number, Empty as empty, Malformed as malformed}
use Rattle.text.specs.Text.{value_of}
use Rattle.text.specs.Bounds.{allows, allows_all, fits}
use Rattle.keys.specs.Reorder.{Rule}
use Rattle.keys.specs.Expressions.{Expression}
use Rattle.linekinds.specs.Lines.{plain, whole_entries, never, most_entries}
use Rattle.linekinds.specs.KeyLines.{values, defined_mode, defined_expr, undefined_exprs, over, list_line, expr_line, rule_line, direction_line, name_line, input_line}
use Rattle.sheet.specs.KeySheets.{exprs, rules_of, mark, input_of, unused_keys}
use Rattle.sheet.specs.KeyAnswers.{expr_numbers}
use Rattle.sheet.specs.KeyTexts.{mark_number, rule_exprs, input_numbers}
use Rattle.sheet.specs.Sizes.{Each}
use Rattle.sheet.proofs.InTurn.{Fine}
use Rattle.sheet.specs.LegalSheets.{Small, LegalExpr, LegalRule, Listed, LegalExprs, LegalInput}
use Rattle.sheet.proofs.Entries.{each_weaker}
use Rattle.sheet.proofs.Numbers.{fit_list, exprs_length, exprs_even, rules_length}

-- ---- numbers

abbrev pub numbers : List ℕ → List Field
numbers ns = map number ns

pub values_numbers : (ns : List ℕ) → values (numbers ns) ≡ ns
values_numbers [] = refl
values_numbers (n ∷ ns) = ap (λ (ms : List ℕ). n ∷ ms) (values_numbers ns)

small_allowed : (ns : List ℕ) → Each Small ns → allows_all plain (numbers ns) ≡ true
unfolding allows_all
small_allowed [] h = refl
small_allowed (n ∷ ns) h = rw (le-leb n 65535 h.0) (small_allowed ns h.1)

pub small_fits : (ns : List ℕ) → Each Small ns → fits (replicate (length ns) plain) (numbers ns) ≡ true
unfolding fits
small_fits [] h = refl
small_fits (n ∷ ns) h = rw (le-leb n 65535 h.0) (small_fits ns h.1)

allowed_at_lem : (f : Field) → allows plain f ≡ true → Small (value_of f)
allowed_at_lem (number n) e = leb-true n 65535 e
allowed_at_lem empty e = omega arith
allowed_at_lem malformed e = omega arith

pub allowed_small : (fs : List Field) → allows_all plain fs ≡ true → Each Small (values fs)
unfolding allows_all
allowed_small [] e = tt
allowed_small (f ∷ fs) e = let p = and_parts (allows plain f) (allows_all plain fs) e in (allowed_at_lem f p.0, allowed_small fs p.1)

pub allowed_at : (fs : List Field) (i : ℕ) → allows_all plain fs ≡ true → Small (value_of (get_or fs i (number 0)))
unfolding allows_all
allowed_at [] i e = omega arith
allowed_at (f ∷ fs) zero e = allowed_at_lem f (and_parts (allows plain f) (allows_all plain fs) e).0
allowed_at (f ∷ fs) (suc i) e = allowed_at fs i (and_parts (allows plain f) (allows_all plain fs) e).1

pub fits_plain : (n : ℕ) (fs : List Field) → fits (replicate n plain) fs ≡ true → allows_all plain fs ≡ true
unfolding fits allows_all
fits_plain zero [] e = refl
fits_plain zero (f ∷ fs) e = absurd (cc)
fits_plain (suc n) [] e = refl
fits_plain (suc n) (f ∷ fs) e = let p = and_parts (allows plain f) (fits (replicate n plain) fs) e in rw p.0 (fits_plain n fs p.1)

over_none : (m : ℕ) (ns : List ℕ) → Each (λ n. n ≤ m) ns → over m ns ≡ false
unfolding over
over_none m [] h = refl
over_none m (n ∷ ns) h = rw (le-ltb m n h.0) (over_none m ns h.1)

none_over : (m : ℕ) (ns : List ℕ) → over m ns ≡ false → Each (λ n. n ≤ m) ns
unfolding over
none_over m [] e = tt
none_over m (n ∷ ns) e = let p = or_parts (ltb m n) (over m ns) e in (ltb-false m n p.0, none_over m ns p.1)

-- ---- expressions and rules as numbers

pub exprs_back : (es : List Expression) → exprs (expr_numbers es) ≡ es
unfolding exprs
exprs_back [] = refl
exprs_back (e ∷ es) = ap (λ (fs : List Expression). e ∷ fs) (exprs_back es)

pub rules_back : (rs : List (Rule Expression)) → rules_of (rule_exprs rs) ≡ rs
unfolding rules_of
rules_back [] = refl
rules_back (r ∷ rs) = ap (λ (qs : List (Rule Expression)). r ∷ qs) (rules_back rs)

pub exprs_count : (es : List Expression) → length (expr_numbers es) ≡ length es * 3
exprs_count [] = refl
exprs_count (e ∷ es) = omega (arith, exprs_count es)

pub rules_count : (rs : List (Rule Expression)) → length (rule_exprs rs) ≡ length rs * 2
rules_count [] = refl
rules_count (r ∷ rs) = omega (arith, rules_count rs)

-- a defined kind is 0, 1 or 2
kind_at_lem : (a b c : Bool) (k n i : ℕ) → eqb k 0 ≡ a → eqb k 1 ≡ b → eqb k 2 ≡ c → (a || ((b && eqb i 0) || (c && (eqb n 0 && eqb i 0)))) ≡ true → k ≤ 2
kind_at_lem true b c k n i p q r e = omega (arith, eqb-true k 0 p)
kind_at_lem false true c k n i p q r e = omega (arith, eqb-true k 1 q)
kind_at_lem false false true k n i p q r e = omega (arith, eqb-true k 2 r)
kind_at_lem false false false k n i p q r e = absurd (cc)

pub kind_small : (e : Expression) → LegalExpr e → e.kind ≤ 2
kind_small e l = kind_at_lem (eqb e.kind 0) (eqb e.kind 1) (eqb e.kind 2) e.kind e.name e.index refl refl refl l.defined

pub exprs_small : (es : List Expression) → Each LegalExpr es → Each Small (expr_numbers es)
exprs_small [] h = tt
exprs_small (e ∷ es) h = (omega (arith, kind_small e h.0), (h.0.name, (h.0.index, exprs_small es h.1)))

exprs_defined : (es : List Expression) → Each LegalExpr es → undefined_exprs (expr_numbers es) ≡ false
unfolding undefined_exprs
exprs_defined [] h = refl
exprs_defined (e ∷ es) h = rw h.0.defined (exprs_defined es h.1)

defined_exprs : (ns : List ℕ) → Each Small ns → undefined_exprs ns ≡ false → Each LegalExpr (exprs ns)
unfolding exprs undefined_exprs
defined_exprs [] h e = tt
defined_exprs (k ∷ []) h e = tt
defined_exprs (k ∷ n ∷ []) h e = tt
defined_exprs (k ∷ n ∷ i ∷ ns) h e =
    let p = or_parts (not (defined_expr k n i)) (undefined_exprs ns) e in
    (record { defined = not-false (defined_expr k n i) p.0; name = h.1.0; index = h.1.1.0 }, defined_exprs ns h.1.1.1 p.1)

rules_exprs : (rs : List (Rule Expression)) → Each LegalRule rs → Each LegalExpr (rule_exprs rs)
rules_exprs [] h = tt
rules_exprs (r ∷ rs) h = (h.0.from, (h.0.to, rules_exprs rs h.1))

exprs_rules : (es : List Expression) → Each LegalExpr es → Each LegalRule (rules_of es)
unfolding rules_of
exprs_rules [] h = tt
exprs_rules (e ∷ []) h = tt
exprs_rules (e ∷ f ∷ es) h = (record { from = h.0; to = h.1.0 }, exprs_rules es h.1.1)

-- ---- list lines

list_fine :
    (letter width : ℕ) (undefined : List Field → Bool) (ns : List ℕ) →
    Each Small ns → whole_entries width (length ns) ≡ true → length ns ≤ most_entries * width → undefined (numbers ns) ≡ false →
    Fine (list_line letter width undefined) (numbers ns)
unfolding fits
list_fine letter width undefined ns h w l u =
    let n : length (numbers ns) ≡ length ns = length-map ns number in
    record {
      fit = rw (small_allowed ns h, n, w);
      formed = refl;
      few = rw n (le-ltb (most_entries * width) (length ns) l);
      small = refl;
      defined = u;
      suited = refl;
    }

pub exprs_fine : (letter : ℕ) (es : List Expression) → LegalExprs es → Fine (expr_line letter) (numbers (expr_numbers es))
exprs_fine letter es l =
    let n = exprs_count es in
    list_fine letter 3 _ (expr_numbers es) (exprs_small es l.each) (eq-eqb (length (expr_numbers es) % 3) 0 (omega arith)) (omega (arith, l.few))
    (rw (values_numbers (expr_numbers es)) (exprs_defined es l.each))

pub rules_fine : (letter : ℕ) (rs : List (Rule Expression)) → Listed LegalRule rs → Fine (rule_line letter) (numbers (expr_numbers (rule_exprs rs)))
rules_fine letter rs l =
    let es : List Expression = rule_exprs rs in
    let n = exprs_count es in
    let m = rules_count rs in
    let h = rules_exprs rs l.each in
    list_fine letter 6 _ (expr_numbers es) (exprs_small es h) (eq-eqb (length (expr_numbers es) % 6) 0 (omega arith)) (omega (arith, l.few))
    (rw (values_numbers (expr_numbers es)) (exprs_defined es h))

one_wide : (n : ℕ) → whole_entries 1 n ≡ true
one_wide n = eq-eqb (n % 1) 0 (omega arith)

pub directions_fine : (letter : ℕ) (ns : List ℕ) → Listed (λ d. d ≤ 3) ns → Fine (direction_line letter) (numbers ns)
directions_fine letter ns l =
    list_fine letter 1 _ ns (each_weaker (λ d. d ≤ 3) Small (λ d h. omega arith) ns l.each) (one_wide (length ns)) (omega (arith, l.few))
    (rw (values_numbers ns) (over_none 3 ns l.each))

pub names_fine : (letter : ℕ) (ns : List ℕ) → Listed Small ns → Fine (name_line letter) (numbers ns)
names_fine letter ns l = list_fine letter 1 never ns l.each (one_wide (length ns)) (omega (arith, l.few)) refl

module _ (letter width : ℕ) (undefined : List Field → Bool) (fs : List Field) (fine : Fine (list_line letter width undefined) fs) where
  list_small : Each Small (values fs)
  list_small = allowed_small fs (fit_list (list_line letter width undefined) fs fine).0

  list_few : length (values fs) ≤ most_entries * width
  list_few = rw (length-map fs value_of) (ltb-false (most_entries * width) (length fs) fine.few)

  list_whole : whole_entries width (length (values fs)) ≡ true
  list_whole = rw (length-map fs value_of) (fit_list (list_line letter width undefined) fs fine).1

pub fine_exprs : (letter : ℕ) (fs : List Field) → Fine (expr_line letter) fs → LegalExprs (exprs (values fs))
fine_exprs letter fs fine =
    let n = exprs_length (values fs) (eqb-true (length (values fs) % 3) 0 (list_whole letter 3 _ fs fine)) in
    record { few = omega (arith, list_few letter 3 _ fs fine); each = defined_exprs (values fs) (list_small letter 3 _ fs fine) fine.defined }

pub fine_rules : (letter : ℕ) (fs : List Field) → Fine (rule_line letter) fs → Listed LegalRule (rules_of (exprs (values fs)))
fine_rules letter fs fine =
    let w : length (values fs) % 6 ≡ 0 = eqb-true (length (values fs) % 6) 0 (list_whole letter 6 _ fs fine) in
    let n = exprs_length (values fs) (omega arith) in
    let m = rules_length (exprs (values fs)) (exprs_even (values fs) w) in
    record { few = omega (arith, list_few letter 6 _ fs fine); each = exprs_rules (exprs (values fs)) (defined_exprs (values fs) (list_small letter 6 _ fs fine) fine.defined) }

pub fine_directions : (letter : ℕ) (fs : List Field) → Fine (direction_line letter) fs → Listed (λ d. d ≤ 3) (values fs)
fine_directions letter fs fine = record { few = omega (arith, list_few letter 1 _ fs fine); each = none_over 3 (values fs) fine.defined }

pub fine_names : (letter : ℕ) (fs : List Field) → Fine (name_line letter) fs → Listed Small (values fs)
fine_names letter fs fine = record { few = omega (arith, list_few letter 1 _ fs fine); each = list_small letter 1 _ fs fine }

-- ---- a mark, then keys

pub input_fine : (letter : ℕ) (o : Option (List Expression)) → LegalInput o → Fine (input_line letter) (numbers (input_numbers o))
unfolding fits allows_all undefined_exprs
input_fine letter none l = record { fit = refl; formed = refl; few = refl; small = refl; defined = refl; suited = refl }
input_fine letter (some es) l =
    let f = exprs_fine letter es l in
    record { fit = f.fit; formed = refl; few = f.few; small = refl; defined = f.defined; suited = refl }

input_at : (t : Bool) (letter : ℕ) (ns : List Field) → Fine (expr_line letter) ns → LegalInput (cond t (some (exprs (values ns))) none)
input_at true letter ns f = fine_exprs letter ns f
input_at false letter ns f = tt

pub fine_input : (letter : ℕ) (fs : List Field) → Fine (input_line letter) fs → LegalInput (input_of (values fs))
unfolding fits
fine_input letter [] fine = tt
fine_input letter (f ∷ gs) fine =
    let l = fit_list (input_line letter) (f ∷ gs) fine in
    input_at (mark (value_of f)) letter gs
    (record {
      fit = rw l.0 l.1;
      formed = refl;
      few = fine.few;
      small = refl;
      defined = (or_parts (ltb 1 (value_of f)) (undefined_exprs (values gs)) fine.defined).1;
      suited = refl;
    })

pub used_keys : (o : Option (List Expression)) → unused_keys (input_numbers o) ≡ false
used_keys none = refl
used_keys (some es) = refl

pub input_back : (o : Option (List Expression)) → input_of (input_numbers o) ≡ o
input_back none = refl
input_back (some es) = ap {B = Option (List Expression)} some (exprs_back es)

pub mark_back : (b : Bool) → mark (mark_number b) ≡ b
mark_back true = refl
mark_back false = refl

-- ---- what the rows of both kinds of sheets give back

mode_at : (a b : Bool) (m : ℕ) → cond a (leb m 2) (cond b (leb m 1) (eqb m 0)) ≡ true → m ≤ 2
mode_at true b m e = leb-true m 2 e
mode_at false true m e = omega (arith, leb-true m 1 e)
mode_at false false m e = omega (arith, eqb-true m 0 e)

pub mode_small : (op m : ℕ) → defined_mode op m ≡ true → m ≤ 2
mode_small op m e = mode_at (eqb op 0) (eqb op 3) m e

pub expr_back : (es : List Expression) → exprs (values (numbers (expr_numbers es))) ≡ es
expr_back es = rw (values_numbers (expr_numbers es)) (exprs_back es)

pub rule_back : (rs : List (Rule Expression)) → rules_of (exprs (values (numbers (expr_numbers (rule_exprs rs))))) ≡ rs
rule_back rs = rw (expr_back (rule_exprs rs)) (rules_back rs)
