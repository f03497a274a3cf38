-- The rows of a tree give its t lines, and how long the lines of rows are.
-- Assumes nothing.
use mathlib.Core.Path.{◌≡◌, refl, sym, ap, ◌∙◌}
use mathlib.Core.List.{List, [], ◌∷◌, ◌++◌, append_assoc}
use mathlib.Core.Option.{Option, some, none as absent}
use Prim.Native.Nat.{ℕ, ◌+◌, ◌≤◌, ◌<◌}
use native.Mathlib.Numerals.{add-one}
use native.Mathlib.Omega.{arith}
use lib.ListN.{length, get_or, take, drop, length-append}
use lib.Seq.{sets, sets-eq, take_at, drop-cons}
use Rattle.std.proofs.lemmas.List.{drop_all}
use Rattle.text.specs.declared.field.Field.{Field}
use Rattle.text.specs.declared.field.Field.TheVariants.{Number as number}
use Rattle.text.specs.Write.{decimal, field_text, fields_text}
use Rattle.text.proofs.Lengths.{line_length}
use Rattle.exchange.specs.Trees.{node, none, ◌∷ᶠ◌, trees, Operator, Plan, Plans}
use Rattle.exchange.specs.Rows.{limit_mark, limit_number, limit_of, row_of, flatten, flattens}
use Rattle.exchange.specs.Ensure.{Answer}
use Rattle.plananswer.specs.PlanTexts.{limit_field, operator_fields, operator_line, plan_lines, plans_lines, plan_answer_text}
use Rattle.plananswer.specs.RowTexts.{of_row, lines_of, row_line, head_line, rows_text}

-- ---- a tree's rows

limit_again : (l : Option ℕ) → limit_of (limit_mark l) (limit_number l) ≡ l
limit_again absent = refl
limit_again (some l) = refl

lines_append : {A : Type 0} (line : A → List ℕ) (xs ys : List A) → lines_of line (xs ++ ys) ≡ lines_of line xs ++ lines_of line ys
unfolding lines_of
lines_append line [] ys = refl
lines_append line (x ∷ xs) ys = ap (λ (t : List ℕ). line x ++ t) (lines_append line xs ys) ∙ sym (append_assoc (line x) (lines_of line xs) (lines_of line ys))

module _ (line : Operator → ℕ → List ℕ) where
  row_operator : (o : Operator) (children : ℕ) → of_row line (row_of o children) ≡ line o children
  unfolding row_of
  row_operator o children = rw (limit_again o.limit)

  mutual
    unfolding lines_of flatten plan_lines

    pub plan_lines_lem : (t : Plan) → lines_of (of_row line) (flatten t) ≡ plan_lines line t
    plan_lines_lem (node o ts) =
        ap (λ (x : List ℕ). x ++ lines_of (of_row line) (flattens ts)) (row_operator o (trees ts)) ∙ ap (λ (x : List ℕ). line o (trees ts) ++ x) (plans_lines_lem ts)

    pub plans_lines_lem : (ts : Plans) → lines_of (of_row line) (flattens ts) ≡ plans_lines line ts
    plans_lines_lem none = refl
    plans_lines_lem (t ∷ᶠ ts) =
        lines_append (of_row line) (flatten t) (flattens ts)
        ∙ ap (λ (x : List ℕ). x ++ lines_of (of_row line) (flattens ts)) (plan_lines_lem t)
        ∙ ap (λ (x : List ℕ). plan_lines line t ++ x) (plans_lines_lem ts)

-- an answer's text is that of its numbers and the rows of its tree
pub rows_answer : (a : Answer) → rows_text a.changed a.window a.interleave a.tracked (flatten a.plan) ≡ plan_answer_text a
unfolding rows_text head_line row_line plan_answer_text
rows_answer a = rw (plan_lines_lem operator_line a.plan)

-- the same where the rows were stored, n of them
pub stored_answer :
    (a : Answer) (before after : List (List ℕ)) (n : ℕ) → after ≡ sets before 0 (flatten a.plan) → n ≡ length (flatten a.plan) → n ≤ length before →
    rows_text a.changed a.window a.interleave a.tracked (take n after) ≡ plan_answer_text a
stored_answer a before after n e l h =
    let rows : List (List ℕ) = flatten a.plan in
    let z : take n after ≡ rows =
    ap (take n) (e ∙ sets-eq rows before 0 (omega arith)) ∙ take_at rows (drop (0 + length rows) before) n (sym l) in
    rw z (rows_answer a)

-- ---- the lines from a row on

pub lines_first : {A : Type 0} (line : A → List ℕ) (xs : List A) (i : ℕ) (d : A) → i < length xs
    → lines_of line (drop i xs) ≡ line (get_or xs i d) ++ lines_of line (drop (i + 1) xs)
unfolding lines_of
lines_first line xs i d h = rw (add-one i, drop-cons xs i d)

pub lines_none : {A : Type 0} (line : A → List ℕ) (xs : List A) (i : ℕ) → length xs ≤ i → lines_of line (drop i xs) ≡ []
unfolding lines_of
lines_none line xs i h = rw (drop_all i xs h)

-- ---- lengths

fields_cons : (f : Field) (fs : List Field) → length (fields_text (f ∷ fs)) ≡ 1 + length (field_text f) + length (fields_text fs)
unfolding fields_text
fields_cons f fs = omega (arith, length-append (field_text f) (fields_text fs))

-- a t line: a letter, nine commas, the digits, an LF
pub operator_long :
    (o : Operator) (children : ℕ) →
    length (operator_line o children)
    ≡ 11 + (length (decimal o.id) + length (decimal o.kind) + length (decimal o.count))
    + (length (decimal o.keeps) + length (field_text (limit_field o.limit)) + length (decimal o.order))
    + (length (decimal o.mask) + length (decimal o.tracked) + length (decimal children))
unfolding field_text fields_text
operator_long o children =
    let l = limit_field o.limit in
    let last = number o.order ∷ number o.mask ∷ number o.tracked ∷ number children ∷ [] in
    omega (
      arith,
      line_length 116 (operator_fields o children),
      fields_cons (number o.id) (number o.kind ∷ number o.count ∷ number o.keeps ∷ l ∷ last),
      fields_cons (number o.kind) (number o.count ∷ number o.keeps ∷ l ∷ last),
      fields_cons (number o.count) (number o.keeps ∷ l ∷ last),
      fields_cons (number o.keeps) (l ∷ last),
      fields_cons l last,
      fields_cons (number o.order) (number o.mask ∷ number o.tracked ∷ number children ∷ []),
      fields_cons (number o.mask) (number o.tracked ∷ number children ∷ []),
      fields_cons (number o.tracked) (number children ∷ []),
      fields_cons (number children) [],
    )

pub head_long :
    (a b c d : ℕ) → length (head_line a b c d) ≡ 6 + (length (decimal a) + length (decimal b)) + length (decimal c) + length (decimal d)
unfolding head_line field_text fields_text
head_long a b c d =
    omega (
      arith,
      line_length 100 (number a ∷ number b ∷ number c ∷ number d ∷ []),
      fields_cons (number a) (number b ∷ number c ∷ number d ∷ []),
      fields_cons (number b) (number c ∷ number d ∷ []),
      fields_cons (number c) (number d ∷ []),
      fields_cons (number d) [],
    )
