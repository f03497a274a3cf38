-- An output of 65,536 bytes suffices for the answer of every accepted K or I sheet.
use mathlib.Core.Path.{◌≡◌, refl, ap}
use Prim.Native.Nat.{ℕ, zero, suc, ◌+◌, ◌*◌, ◌^◌, ◌≤◌, ◌<◌}
use native.Mathlib.Nat.{mul-le-mul_right, suc-mul}
use native.Mathlib.Omega.{arith}
use mathlib.Core.List.{List, [], ◌∷◌, map}
use mathlib.Core.Bool.{true, false}
use mathlib.Core.Option.{Option, none, some}
use lib.ListN.{length, length-map, length-append}
use borrow.Author.Tests.{le-leb}
use Rattle.text.specs.declared.field.Field.TheVariants.{Number as number}
use Rattle.text.specs.Bounds.{Bound, allows_all}
use Rattle.text.proofs.Lengths.{line_bound, all_short}
use Rattle.keys.specs.Expressions.{Expression, same_expr}
use Rattle.keys.specs.Adjust.{KeySheet, KeyAnswer, Projected, Adjustment, answered, name_not_found, adjust_input_keys_ordering}
use Rattle.keys.specs.Inputs.{JoinSheet, JoinAnswer, reorder_join_keys_to_inputs}
use Rattle.linekinds.specs.Lines.{most_bytes}
use Rattle.sheet.specs.KeySheets.{Reading, sheet, turned, read_key_sheet, read_join_sheet}
use Rattle.sheet.specs.KeyAnswers.{Outcome, numbers_line, expr_numbers, exprs_line, projected_numbers, child_lines, key_answer_text, join_answer_text, adjusted, key_outcome, join_outcome, adjust_decision, inputs_decision}
use Rattle.sheet.specs.Outcomes.{FitsIn}
use Rattle.sheet.specs.Sizes.{Each, Few, Within, PlacedWithin, NumberList, ExprList, InputList, SizedKeySheet, SizedKeyAnswer, SizedJoinSheet, SizedJoinAnswer, line_most, key_answer_most, join_answer_most}
use Rattle.sheet.specs.LegalSheets.{LegalExpr, LegalExprs, LegalInput, LegalKeySheet, LegalJoinSheet}
use Rattle.sheet.proofs.Entries.{each_weaker, few_weaker}
use Rattle.sheet.proofs.LegalRows.{kind_small, exprs_count}
use Rattle.sheet.proofs.LegalSheets.{key_read_legal, join_read_legal}
use Rattle.sheet.proofs.KeySizes.{key_answer_sized}
use Rattle.sheet.proofs.JoinSizes.{join_answer_sized}

-- ---- how long lines are: numbers up to m have at most d + 1 digits

exprs_each : (m : ℕ) (es : List Expression) → Each (Within m) es → Each (λ n. n ≤ m) (expr_numbers es)
exprs_each m [] h = tt
exprs_each m (x ∷ es) h = (h.0.kind, (h.0.name, (h.0.index, exprs_each m es h.1)))

projected_each : (m : ℕ) (ps : List Projected) → Each (PlacedWithin m) ps → Each (λ n. n ≤ m) (projected_numbers ps)
projected_each m [] h = tt
projected_each m (p ∷ ps) h = (h.0.name, (h.0.place, projected_each m ps h.1))

projected_count : (ps : List Projected) → length (projected_numbers ps) ≡ length ps * 2
projected_count [] = refl
projected_count (p ∷ ps) = omega (arith, projected_count ps)

all_below : (m : ℕ) (ns : List ℕ) → Each (λ n. n ≤ m) ns → allows_all (record { optional = false; largest = m }) (map number ns) ≡ true
unfolding allows_all
all_below m [] h = refl
all_below m (n ∷ ns) h = rw (le-leb n m h.0) (all_below m ns h.1)

module _ (m d e : ℕ) (digits : m < 10 ^ suc d) where
  abbrev w : ℕ
  w = suc d + 1

  numbers_long : (letter n : ℕ) (ns : List ℕ) → length ns ≤ n → Each (λ x. x ≤ m) ns → length (numbers_line letter ns) ≤ line_most w n
  numbers_long letter n ns l h =
      let b : Bound = record { optional = false; largest = m } in
      let long : length ns * w ≤ n * w = mul-le-mul_right w l in
      let same : length (map number ns) * w ≡ length ns * w = ap (λ (k : ℕ). k * w) (length-map ns number) in
      omega (arith, line_bound letter (suc d) (map number ns) (all_short b d digits (map number ns) (all_below m ns h)))

  list_long : (letter : ℕ) (ns : List ℕ) → NumberList m e ns → length (numbers_line letter ns) ≤ line_most w e
  list_long letter ns h = numbers_long letter e ns h.few h.each

  exprs_long : (letter : ℕ) (es : List Expression) → ExprList m e es → length (exprs_line letter es) ≤ line_most w (e * 3)
  exprs_long letter es h = numbers_long letter (e * 3) (expr_numbers es) (omega (arith, exprs_count es, h.few)) (exprs_each m es h.each)

  children_long : (c : ℕ) (cs : List (List Expression)) → length cs ≤ c → Each (ExprList m e) cs → length (child_lines cs) ≤ c * line_most w (e * 3)
  children_long c [] l h = omega arith
  children_long zero (x ∷ cs) l h = absurd (omega arith)
  children_long (suc c) (x ∷ cs) l h =
      let p : suc c * line_most w (e * 3) ≡ c * line_most w (e * 3) + line_most w (e * 3) = suc-mul c (line_most w (e * 3)) in
      omega (arith, children_long c cs (omega arith) h.1, exprs_long 67 x h.0, length-append (exprs_line 67 x) (child_lines cs))

  pub key_answer_long : (c : ℕ) (a : KeyAnswer) → SizedKeyAnswer m e c a → length (key_answer_text a) ≤ key_answer_most w e c
  unfolding key_answer_text
  key_answer_long c a h =
      let projected : length (projected_numbers a.projection) ≤ (e + e) * 2 = omega (arith, projected_count a.projection, h.projection.few) in
      simp length-append
      (omega (
        arith,
        numbers_long 107 2 (a.changed ∷ a.report ∷ []) (omega arith) (h.changed, (h.report, tt)),
        list_long 80 a.positions h.positions,
        exprs_long 82 a.required h.required,
        exprs_long 76 a.left h.left,
        exprs_long 71 a.right h.right,
        list_long 83 a.directions h.directions,
        numbers_long 74 ((e + e) * 2) (projected_numbers a.projection) projected (projected_each m a.projection h.projection.each),
        children_long c a.children h.children.few h.children.each,
      ))

  pub join_answer_long : (a : JoinAnswer) → SizedJoinAnswer m e a → length (join_answer_text a) ≤ join_answer_most w e
  unfolding join_answer_text
  join_answer_long a h =
      simp length-append
      (omega (
        arith,
        numbers_long 105 2 (a.report ∷ a.followed ∷ []) (omega arith) (h.report, (h.followed, tt)),
        list_long 80 a.positions h.positions,
        exprs_long 76 a.left h.left,
        exprs_long 71 a.right h.right,
        list_long 83 a.directions h.directions,
      ))

-- ---- legal sheets

exprs_sized : (es : List Expression) → LegalExprs es → ExprList 65535 32 es
exprs_sized = few_weaker 32 LegalExpr (Within 65535) (λ x h. record { kind = omega (arith, kind_small x h); name = h.name; index = h.index })

directions_small : (ns : List ℕ) → Few 32 (λ d. d ≤ 3) ns → NumberList 65535 32 ns
directions_small = few_weaker 32 (λ d. d ≤ 3) (λ d. d ≤ 65535) (λ d h. omega arith)

key_sized : (x : KeySheet) → LegalKeySheet x → SizedKeySheet 65535 32 8 x
key_sized x l = record {
  required = exprs_sized x.required l.required;
  left = exprs_sized x.left l.left;
  right = exprs_sized x.right l.right;
  directions = directions_small x.directions l.directions;
  groups = l.groups;
  aggregates = l.aggregates;
  mapped = exprs_sized x.mapped l.mapped;
  children = record { few = l.few; each = each_weaker LegalExprs (ExprList 65535 32) exprs_sized x.children l.children };
}

input_sized : (o : Option (List Expression)) → LegalInput o → InputList 65535 32 o
input_sized none h = tt
input_sized (some es) h = exprs_sized es h

join_sized : (x : JoinSheet) → LegalJoinSheet x → SizedJoinSheet 65535 32 x
join_sized x l = record {
  left = exprs_sized x.left l.left;
  right = exprs_sized x.right l.right;
  directions = directions_small x.directions l.directions;
  left_input = input_sized x.left_input l.left_input;
  right_input = input_sized x.right_input l.right_input;
}

-- ---- the answer fits

pub key_answer_fits :
    (s : List ℕ) (x : KeySheet) (a : KeyAnswer) → read_key_sheet s ≡ sheet x → adjust_input_keys_ordering same_expr x ≡ answered a →
    length (key_answer_text a) ≤ most_bytes
key_answer_fits s x a r e =
    let z = key_answer_sized 65535 32 8 (omega arith) (omega arith) same_expr x (key_sized x (key_read_legal s x r)) a e in
    omega (arith, key_answer_long 65535 4 32 (omega arith) 8 a z)

pub join_answer_fits : (s : List ℕ) (x : JoinSheet) → read_join_sheet s ≡ sheet x → length (join_answer_text (reorder_join_keys_to_inputs x same_expr)) ≤ most_bytes
join_answer_fits s x r =
    let z = join_answer_sized 65535 32 (omega arith) (omega arith) same_expr x (join_sized x (join_read_legal s x r)) in
    omega (arith, join_answer_long 65535 4 32 (omega arith) (reorder_join_keys_to_inputs x same_expr) z)

-- what is written, if anything, has at most 65,536 bytes
abbrev pub Fits : Outcome → Type 0
Fits o = FitsIn most_bytes o

adjusted_fits : (s : List ℕ) (x : KeySheet) (o : Adjustment) → read_key_sheet s ≡ sheet x → adjust_input_keys_ordering same_expr x ≡ o → Fits (adjusted o)
adjusted_fits s x (answered a) r e = key_answer_fits s x a r e
adjusted_fits s x name_not_found r e = tt

key_fits : (s : List ℕ) (r : Reading KeySheet) → read_key_sheet s ≡ r → Fits (key_outcome r)
key_fits s (sheet x) r = adjusted_fits s x (adjust_input_keys_ordering same_expr x) r refl
key_fits s (turned n l) r = tt

join_fits_lem : (s : List ℕ) (r : Reading JoinSheet) → read_join_sheet s ≡ r → Fits (join_outcome r)
join_fits_lem s (sheet x) r = join_answer_fits s x r
join_fits_lem s (turned n l) r = tt

pub adjust_fits : (s : List ℕ) → Fits (adjust_decision s)
unfolding adjust_decision
adjust_fits s = key_fits s (read_key_sheet s) refl

pub inputs_fits : (s : List ℕ) → Fits (inputs_decision s)
unfolding inputs_decision
inputs_fits s = join_fits_lem s (read_join_sheet s) refl
