-- One side's try, and left before right: what each way through the code of `inputs` answers.
-- Assumes nothing.
use Prim.Native.Nat.{ℕ}
use mathlib.Core.Path.{◌≡◌, refl, ap, sym, ◌∙◌}
use mathlib.Core.Bool.{true, false}
use mathlib.Core.Option.{some}
use mathlib.Core.List.{List}
use lib.Dec.{eqb}
use Rattle.std.specs.Prelude.{Some}
use Rattle.keys.specs.Reorder.{try_reorder}
use Rattle.keys.specs.Expressions.{same_expr, placeholder, gone_number, expression, expressions, rules}
use Rattle.keys.specs.Inputs.{JoinSheet, JoinAnswer, as_stood, following, try_side, try_right, reorder_current_join_keys, reorder_join_keys_to_inputs}
use Rattle.keys.specs.Codes.{order_tried}
use Rattle.keys.specs.Values.{numbers, number_rules, report_of, positions_in, resulting, tried_of}
use Rattle.keys.specs.InputValues.{input_of, with_pairs, side_number, current_try, answer_by, attempt_of}
use Rattle.keys.specs.declared.reorder.Reordered.{Reordered}
use Rattle.keys.specs.declared.reorder.Reordered.TheVariants.{Met, Moved, Impossible}
use Rattle.keys.specs.declared.inputs.Side.{Side}
use Rattle.keys.specs.declared.inputs.Attempt.{Attempt}
use Rattle.keys.specs.declared.inputs.Attempt.TheVariants.{Untried, Followed, Failed}
use Rattle.keys.proofs.Packed.{map_tried, try_expressions, permute_expressions}

resulting_packed : (o : Reordered) (ks : List ℕ) → resulting placeholder o (expressions ks) ≡ expressions (resulting gone_number o ks)
resulting_packed Met ks = refl
resulting_packed (Moved at) ks = permute_expressions ks (numbers at)
resulting_packed Impossible ks = refl

possible : (o : Reordered) → (o ≡ Impossible → ⊥) → eqb (report_of o) 3 ≡ false
possible Met h = refl
possible (Moved at) h = refl
possible Impossible h = absurd (h refl)

-- one side, under its rewriting w
module _ (s : JoinSheet) (l g : List ℕ) (w : List (List ℕ)) (side : Side) (impossible untried : JoinAnswer) (h : List ℕ) where
  abbrev SideAnswered : Attempt → Type 0
  SideAnswered c =
      answer_by (with_pairs l g s) impossible untried c
      ≡ try_side (with_pairs l g s) same_expr (side_number (Some side)) (rules w) impossible untried (input_of h)

  -- its keys are ks, and r is what was tried
  module _ (ks : List ℕ) (r : Reordered) (i : input_of h ≡ some (expressions ks)) (e : tried_of l g r ≡ try_reorder eqb gone_number (number_rules w) ks l g) where
    tried_is : try_reorder same_expr placeholder (rules w) (expressions ks) (expressions l) (expressions g) ≡ map_tried expression (tried_of l g r)
    tried_is = try_expressions w ks l g ∙ ap (map_tried expression) (sym e)

    pub side_failed : r ≡ Impossible → SideAnswered Failed
    side_failed p = rw (i, tried_is, p)

    current_try_lem : current_try (with_pairs l g s) r ≡ map_tried expression (tried_of l g r)
    current_try_lem = λ k. record { report = report_of r; positions = positions_in r; left = resulting_packed r l k; right = resulting_packed r g k }

    pub side_followed : (r ≡ Impossible → ⊥) → SideAnswered (Followed side r)
    side_followed h = let p : eqb (report_of r) 3 ≡ false = possible r h in rw (i, tried_is, p) (ap (following (with_pairs l g s) (side_number (Some side))) current_try_lem)

abbrev Unfollowed : Attempt → Type 0
Unfollowed a = (side : Side) (o : Reordered) → a ≡ Followed side o → ⊥

-- left first: what the two tries come to
module _ (s : JoinSheet) (left : Attempt)
    (answer : (impossible untried : JoinAnswer) → answer_by s impossible untried left ≡ try_side s same_expr 1 s.left_rewriting impossible untried s.left_input) where
  abbrev Answers : Attempt → Type 0
  Answers c = attempt_of s c ≡ reorder_current_join_keys s same_expr

  abbrev by_left : Attempt → JoinAnswer
  by_left o = answer_by s (try_right s same_expr 3) (try_right s same_expr 0) o

  left_answers : by_left left ≡ reorder_current_join_keys s same_expr
  left_answers = answer (try_right s same_expr 3) (try_right s same_expr 0)

  pub left_followed : (side : Side) (o : Reordered) → left ≡ Followed side o → Answers left
  left_followed side o e = rw e (rw e at left_answers)

  module _ (right : Attempt) (again : (impossible untried : JoinAnswer) → answer_by s impossible untried right ≡ try_side s same_expr 2 s.right_rewriting impossible untried s.right_input) (u : Unfollowed left) where
    right_answers : (report : ℕ) → answer_by s (as_stood s 3) (as_stood s report) right ≡ try_right s same_expr report
    right_answers report = again (as_stood s 3) (as_stood s report)

    pub right_asked : (right ≡ Untried → ⊥) → Answers right
    right_asked k = go left u right k (right_answers 0) (right_answers 3) ∙ left_answers
      where
        go :
            (a : Attempt) → Unfollowed a → (b : Attempt) → (b ≡ Untried → ⊥) →
            answer_by s (as_stood s 3) (as_stood s 0) b ≡ try_right s same_expr 0 → answer_by s (as_stood s 3) (as_stood s 3) b ≡ try_right s same_expr 3 →
            answer_by s (as_stood s 3) (as_stood s 0) b ≡ by_left a
        go Untried u b k p q = p
        go (Followed side o) u b k p q = absurd (u side o refl)
        go Failed u Untried k p q = absurd (k refl)
        go Failed u (Followed side o) k p q = q
        go Failed u Failed k p q = q

    pub right_unasked : right ≡ Untried → Answers left
    right_unasked e = go left u (rw e at (right_answers 0)) (rw e at (right_answers 3)) ∙ left_answers
      where
        go : (a : Attempt) → Unfollowed a → as_stood s 0 ≡ try_right s same_expr 0 → as_stood s 3 ≡ try_right s same_expr 3 → answer_by s (as_stood s 3) (as_stood s 0) a ≡ by_left a
        go Untried u p q = p
        go (Followed side o) u p q = absurd (u side o refl)
        go Failed u p q = q

-- the tests on op and mode
pub order_tried_lem : (s : JoinSheet) (a : JoinAnswer) → order_tried s.op s.mode ≡ true → a ≡ reorder_current_join_keys s same_expr → a ≡ reorder_join_keys_to_inputs s same_expr
unfolding reorder_join_keys_to_inputs
order_tried_lem s a e p = rw e p

pub order_untried : (s : JoinSheet) → order_tried s.op s.mode ≡ false → attempt_of s Untried ≡ reorder_join_keys_to_inputs s same_expr
unfolding reorder_join_keys_to_inputs
order_untried s e = rw e
