-- An answer's bytes are the text of one answer only.
--     key_answer_once     K sheets
--     join_answer_once    I sheets
use Prim.Native.Nat.{ℕ}
use mathlib.Core.Path.{◌≡◌}
use mathlib.Core.List.{List, [], ◌∷◌, ◌++◌, append-nil}
use Rattle.text.specs.Write.{line_text}
use Rattle.keys.specs.Expressions.{Expression}
use Rattle.keys.specs.Adjust.{KeyAnswer, Projected}
use Rattle.keys.specs.Inputs.{JoinAnswer}
use Rattle.sheet.specs.KeyAnswers.{numbers_line, projected_numbers, child_lines, key_answer_text, join_answer_text}
use Rattle.guarantee.proofs.LinesOnce.{each_once, numbers_line_once, exprs_line_once}

projected_once : (ps qs : List Projected) → projected_numbers ps ≡ projected_numbers qs → ps ≡ qs
projected_once = each_once projected_numbers (λ q qs e. absurd (cc)) (λ p q ps qs e.
    let n : p.name ≡ q.name = cc in
    let k : p.place ≡ q.place = cc in
    (λ j. record { name = n j; place = k j }, cc))

-- the C lines are the last: the text ends with them
pub children_once : (cs ds : List (List Expression)) → child_lines cs ≡ child_lines ds → cs ≡ ds
unfolding line_text
children_once = each_once child_lines (λ d ds e. absurd (cc)) (λ c d cs ds e.
    let r = exprs_line_once 67 67 c d (child_lines cs) (child_lines ds) e in
    (r.fields, r.rest))

pub key_answer_once : (a b : KeyAnswer) → key_answer_text a ≡ key_answer_text b → a ≡ b
unfolding key_answer_text
key_answer_once a b e =
    let k = numbers_line_once 107 107 (a.changed ∷ a.report ∷ []) (b.changed ∷ b.report ∷ []) _ _ e in
    let p = numbers_line_once 80 80 a.positions b.positions _ _ k.rest in
    let r = exprs_line_once 82 82 a.required b.required _ _ p.rest in
    let l = exprs_line_once 76 76 a.left b.left _ _ r.rest in
    let g = exprs_line_once 71 71 a.right b.right _ _ l.rest in
    let s = numbers_line_once 83 83 a.directions b.directions _ _ g.rest in
    let n = numbers_line_once 74 74 (projected_numbers a.projection) (projected_numbers b.projection) _ _ s.rest in
    let heads : (a.changed ∷ a.report ∷ []) ≡ (b.changed ∷ b.report ∷ []) = k.fields in
    let changed : a.changed ≡ b.changed = cc heads in
    let report : a.report ≡ b.report = cc heads in
    λ j. record {
      changed = changed j;
      report = report j;
      positions = p.fields j;
      required = r.fields j;
      left = l.fields j;
      right = g.fields j;
      directions = s.fields j;
      projection = projected_once a.projection b.projection n.fields j;
      children = children_once a.children b.children n.rest j;
    }

-- the S line ends an I answer
pub last_once : (x y : ℕ) (ms ns : List ℕ) → numbers_line x ms ≡ numbers_line y ns → ms ≡ ns
last_once x y ms ns e =
    let h : numbers_line x ms ++ [] ≡ numbers_line y ns ++ [] = simp append-nil e in
    (numbers_line_once x y ms ns [] [] h).fields

pub join_answer_once : (a b : JoinAnswer) → join_answer_text a ≡ join_answer_text b → a ≡ b
unfolding join_answer_text
join_answer_once a b e =
    let i = numbers_line_once 105 105 (a.report ∷ a.followed ∷ []) (b.report ∷ b.followed ∷ []) _ _ e in
    let p = numbers_line_once 80 80 a.positions b.positions _ _ i.rest in
    let l = exprs_line_once 76 76 a.left b.left _ _ p.rest in
    let g = exprs_line_once 71 71 a.right b.right _ _ l.rest in
    let heads : (a.report ∷ a.followed ∷ []) ≡ (b.report ∷ b.followed ∷ []) = i.fields in
    let report : a.report ≡ b.report = cc heads in
    let followed : a.followed ≡ b.followed = cc heads in
    λ j. record {
      report = report j;
      followed = followed j;
      positions = p.fields j;
      left = l.fields j;
      right = g.fields j;
      directions = last_once 83 83 a.directions b.directions g.rest j;
    }
