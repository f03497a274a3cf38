-- The lists of an I sheet's answer, by its positions.
--     inputs_counted                   how many positions are reported, and that they are below the pairs' number
--     inputs_lists                     the answer's keys and directions are those at the positions, or as they stood
--     keys_handed                      the part of the lent lists that is handed back holds the keys that were followed
-- Assumes nothing.
use Prim.Native.Nat.{ℕ}
use mathlib.Core.Path.{◌≡◌, refl, ap, sym, ◌∙◌, subst}
use mathlib.Core.Bool.{Bool, cond}
use lib.Dec.{eqb}
use mathlib.Core.Option as maybe
use mathlib.Core.Option.{some}
use Rattle.std.specs.Prelude.{Option, Some, None}
use mathlib.Core.List.{List, []}
use native.Mathlib.Omega.{arith}
use lib.ListN.{length, drop, length-map}
use denote.Ref.{Bor}
use lib.Seq.{take_all}
use Rattle.keys.specs.Lists.{permute}
use Rattle.keys.specs.Reorder.{Rule, Tried, try_reorder}
use Rattle.keys.specs.Expressions.{Expression, same_expr, placeholder, expression, expressions, gone_number}
use Rattle.keys.specs.Arrange.{Below}
use Rattle.keys.specs.Inputs.{JoinSheet, JoinAnswer, as_stood, following, reorder_join_keys_to_inputs, followed_keys}
use Rattle.keys.specs.Kept.{asked_under}
use Rattle.keys.specs.InputValues.{input_of, join_sheet, side_number, HandedBack, attempt_of, report_by, side_by, positions_by}
use Rattle.keys.specs.declared.inputs.Side.{Side}
use Rattle.keys.specs.declared.inputs.Side.TheVariants.{Left, Right}
use Rattle.keys.specs.declared.inputs.Attempt.{Attempt}
use Rattle.keys.specs.declared.inputs.Attempt.TheVariants.{Untried, Followed, Failed}
use Rattle.keys.proofs.Lists.{found_below}
use Rattle.keys.proofs.Placement.{AllLong, searched_long, searched_below}
use Rattle.keys.proofs.Packed.{permute_expressions}
use Rattle.keys.proofs.Ways.{Way, unequal, meeting, moving, missing, way, searched}
use Rattle.keys.proofs.InputGuarantee.{InputWay, unasked, all_impossible, followed, input_way}
use Rattle.keys.proofs.InputMarks.{marked_keys, part_keys}

module _ {A : Type 0} (same : A → A → Bool) (gone : A) (w : List (Rule A)) (r l g : List A) (even : length l ≡ length g) (ps : List ℕ) (e : searched same gone w r l g ≡ some ps) where
  found_long : length l ≡ length r → length ps ≡ length l
  found_long z = subst (AllLong (length r)) e (searched_long same gone w r l g (sym even)) ∙ sym z

  found_within : Below (length l) ps
  found_within = found_below (length l) (searched same gone w r l g) ps (searched_below same gone w r l g (sym even)) e

-- how many positions are reported: one for each pair, where the pairs are moved
abbrev pub position_count : ℕ → List ℕ → ℕ
position_count report l = cond (eqb report 2) (length l) 0

-- the lists of an answer, packed: where the pairs are moved, what stands at the positions, and else what stood
pub record InputLists (l g s : List ℕ) (a : JoinAnswer) : Type 0 where
  pub left : a.report ≡ 2 → a.left ≡ expressions (permute gone_number l a.positions)
  pub right : a.report ≡ 2 → a.right ≡ expressions (permute gone_number g a.positions)
  pub directed : a.report ≡ 2 → length s ≡ length l → a.directions ≡ permute 0 s a.positions
  pub undirected : s ≡ [] → a.directions ≡ []
  pub stood : (a.report ≡ 2 → ⊥) → (a.left ≡ expressions l) × (a.right ≡ expressions g) × (a.directions ≡ s)

-- an answer on the pairs l, g: how many positions, and below what
pub record Counted (l : List ℕ) (a : JoinAnswer) : Type 0 where
  pub count : length a.positions ≡ position_count a.report l
  pub below : Below (length l) a.positions

module _ (op mode : ℕ) (l g s h n : List ℕ) (w v : List (List ℕ)) where
  abbrev pub sheet : JoinSheet
  sheet = join_sheet op mode l g s h n w v

  abbrev pub answered : JoinAnswer
  answered = reorder_join_keys_to_inputs sheet same_expr

  -- one try
  module _ (u : List (Rule Expression)) (r : List Expression) (even : length g ≡ length l) where
    abbrev TryWay : Tried Expression → Type 0
    TryWay t = Way same_expr placeholder u r (expressions l) (expressions g) t

    try_way : TryWay (try_reorder same_expr placeholder u r (expressions l) (expressions g))
    try_way = way same_expr placeholder u r (expressions l) (expressions g)

    pairs_even : length (expressions l) ≡ length (expressions g)
    pairs_even = length-map l expression ∙ sym even ∙ sym (length-map g expression)

    moved_long : (ps : List ℕ) → searched same_expr placeholder u r (expressions l) (expressions g) ≡ some ps → length (expressions l) ≡ length r → length ps ≡ length l
    moved_long ps e z = found_long same_expr placeholder u r (expressions l) (expressions g) pairs_even ps e z ∙ length-map l expression

    try_counted : (side : ℕ) (t : Tried Expression) → TryWay t → Counted l (following sheet side t)
    try_counted side t (unequal x) = record { count = refl; below = tt }
    try_counted side t (meeting z m) = record { count = refl; below = tt }
    try_counted side t (missing z m o) = record { count = refl; below = tt }
    try_counted side t (moving z ps o) = record {
      count = moved_long ps o z;
      below = rw (length-map l expression) at (found_within same_expr placeholder u r (expressions l) (expressions g) pairs_even ps o);
    }

    try_lists : (side : ℕ) (t : Tried Expression) → TryWay t → InputLists l g s (following sheet side t)
    try_lists side t (unequal x) = record { left = λ e. absurd (omega arith); right = λ e. absurd (omega arith); directed = λ e. absurd (omega arith); undirected = λ e. e; stood = λ k. (refl, refl, refl) }
    try_lists side t (meeting z m) = record { left = λ e. absurd (omega arith); right = λ e. absurd (omega arith); directed = λ e. absurd (omega arith); undirected = λ e. e; stood = λ k. (refl, refl, refl) }
    try_lists side t (missing z m o) = record { left = λ e. absurd (omega arith); right = λ e. absurd (omega arith); directed = λ e. absurd (omega arith); undirected = λ e. e; stood = λ k. (refl, refl, refl) }
    try_lists side t (moving z ps o) = record {
      left = λ e. permute_expressions l ps;
      right = λ e. permute_expressions g ps;
      directed = λ e d. ap (permute 0 s) (take_all (length s) ps (omega (arith, moved_long ps o z)));
      undirected = λ e. rw e;
      stood = λ k. absurd (k refl);
    }

  module _ (even : length g ≡ length l) where
    pub inputs_counted : Counted l answered
    inputs_counted = go answered (input_way same_expr sheet)
      where
        go : (a : JoinAnswer) → InputWay same_expr sheet a → Counted l a
        go a (unasked x) = record { count = refl; below = tt }
        go a (all_impossible x f) = record { count = refl; below = tt }
        go a (followed x side r e k) = try_counted (asked_under sheet side) r even side _ (try_way (asked_under sheet side) r even)

    pub inputs_lists : InputLists l g s answered
    inputs_lists = go answered (input_way same_expr sheet)
      where
        stood_lists : (report : ℕ) → (report ≡ 2 → ⊥) → InputLists l g s (as_stood sheet report)
        stood_lists report k = record { left = λ e. absurd (k e); right = λ e. absurd (k e); directed = λ e. absurd (k e); undirected = λ e. e; stood = λ k. (refl, refl, refl) }

        go : (a : JoinAnswer) → InputWay same_expr sheet a → InputLists l g s a
        go a (unasked x) = stood_lists 0 (λ e. omega arith)
        go a (all_impossible x f) = stood_lists 3 (λ e. omega arith)
        go a (followed x side r e k) = try_lists (asked_under sheet side) r even side _ (try_way (asked_under sheet side) r even)

  -- the side followed is a list with mark 1
  left_input_lem : (a : JoinAnswer) → InputWay same_expr sheet a → a.followed ≡ 1 → input_of h ≡ some (expressions (drop 1 h))
  left_input_lem a (unasked x) e = absurd (omega arith)
  left_input_lem a (all_impossible x f) e = absurd (omega arith)
  left_input_lem a (followed x side r k f) e = let i : input_of h ≡ some r = rw e at k in i ∙ ap {B = maybe.Option (List Expression)} some (marked_keys h r i)

  right_input_lem : (a : JoinAnswer) → InputWay same_expr sheet a → a.followed ≡ 2 → input_of n ≡ some (expressions (drop 1 n))
  right_input_lem a (unasked x) e = absurd (omega arith)
  right_input_lem a (all_impossible x f) e = absurd (omega arith)
  right_input_lem a (followed x side r k f) e = let i : input_of n ≡ some r = rw e at k in i ∙ ap {B = maybe.Option (List Expression)} some (marked_keys n r i)

  pub left_keys : answered.followed ≡ 1 → followed_keys sheet answered.followed ≡ expressions (drop 1 h)
  left_keys e = rw (e, left_input_lem answered (input_way same_expr sheet) e)

  pub right_keys : answered.followed ≡ 2 → followed_keys sheet answered.followed ≡ expressions (drop 1 n)
  right_keys e = rw (e, right_input_lem answered (input_way same_expr sheet) e)

-- what a case names is what its answer has
module _ (s : JoinSheet) where
  pub attempt_read : (o : Attempt) → let a = attempt_of s o in (report_by o ≡ a.report) × (side_number (side_by o) ≡ a.followed) × (positions_by o ≡ a.positions)
  attempt_read Untried = (refl, refl, refl)
  attempt_read (Followed side o) = (refl, refl, refl)
  attempt_read Failed = (refl, refl, refl)

-- the part handed back holds the keys that were followed
module _ (op mode : ℕ) (l g s : List ℕ) (h n : Bor (List ℕ)) (w v : List (List ℕ)) where
  abbrev the_sheet : JoinSheet
  the_sheet = sheet op mode l g s h.now n.now w v

  abbrev the_answer : JoinAnswer
  the_answer = answered op mode l g s h.now n.now w v

  keys_are : (side : Option Side) (r : Bor (List ℕ)) → side_number side ≡ the_answer.followed → HandedBack (side_number side) h n r → expressions r.now ≡ followed_keys the_sheet the_answer.followed
  keys_are None r z b = rw (← z, (b.neither refl).contents)
  keys_are (Some Left) r z b = rw (part_keys h r (b.left refl)) (sym (left_keys op mode l g s h.now n.now w v (sym z)))
  keys_are (Some Right) r z b = rw (part_keys n r (b.right refl)) (sym (right_keys op mode l g s h.now n.now w v (sym z)))

  pub keys_handed : (c : Attempt) → attempt_of the_sheet c ≡ the_answer → (r : Bor (List ℕ)) → HandedBack (side_number (side_by c)) h n r → expressions r.now ≡ followed_keys the_sheet the_answer.followed
  keys_handed c e r = keys_are (side_by c) r ((attempt_read the_sheet c).1 ∙ ap (λ (a : JoinAnswer). a.followed) e)
