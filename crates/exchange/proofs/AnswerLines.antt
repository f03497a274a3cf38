-- An answer has at most two lines for each line from the worked node on, and three more for each of its children: 536 for 256 lines and 8 children.
use Prim.Native.Nat.{ℕ, suc, ◌+◌, ◌*◌, ◌≤◌}
use mathlib.Core.Path.{◌≡◌, refl, ap, ap₂, ◌∙◌}
use mathlib.Core.Bool.{Bool, true, false, cond, not, ◌&&◌}
use mathlib.Core.Option.{Option, some, none as nothing}
use mathlib.Core.List.{List, [], ◌∷◌}
use lib.Dec.{eqb}
use lib.ListN.{length, length-append}
use native.Mathlib.Omega.{arith}
use borrow.Author.Tests.{not-true, eqb-false}
use Rattle.keys.proofs.Truths.{and_first}
use Rattle.exchange.specs.Trees.{node, none, ◌∷ᶠ◌, root, trees, Operator, Plan, Plans}
use Rattle.exchange.specs.declared.settings.Settings.{Settings}
use Rattle.exchange.specs.Settings.{is_set}
use Rattle.exchange.specs.Forms.{Form, plain_form, split_form, with_top, with_relationship}
use Rattle.exchange.specs.Facts.{NodeFacts, ChildFacts, Facts, Row, row_of}
use Rattle.exchange.specs.Operators.{is_keyed, mark, above, new_merge, new_exchange}
use Rattle.exchange.specs.Children.{update_child, update_each, update_children, is_removed, remove_dist_changing_operators, remove_above}
use Rattle.exchange.specs.States.{Child, ChildState, children_from, pass, started_by}
use Rattle.exchange.specs.Status.{RepartitionRequirementStatus}
use Rattle.exchange.specs.Step.{split_plan, merge_on, keyed_on, roundrobin_on, split_at_source, satisfy_distribution}
use Rattle.exchange.specs.Relationships.{is_given, already_target_hash}
use Rattle.exchange.specs.Order.{handle_order}
use Rattle.exchange.specs.Ensure.{Answer, answered, handled, finished, ensured}
use Rattle.exchange.specs.Skeleton.{below}
use Rattle.exchange.specs.Rows.{flatten, flattens}
use Rattle.exchange.specs.Sizes.{lines, liness}
use Rattle.exchange.specs.Partitioning.{worked_of}
use Rattle.exchange.proofs.StepWays.{holds_satisfied, holds_stepped}
use Rattle.exchange.proofs.Passing.{Holds, holds_cond, holds_pass, Alls, Steps, Relates}
use Rattle.exchange.proofs.Answered.{Finished, Came, leaf, worked, came_always}
use Rattle.exchange.proofs.OperatorsKept.{of_answer}
use Rattle.exchange.proofs.Weights.{weight, mark_one, weight_twice, weight_split, lines_handled}

-- what was put on a child, at most: one operator by its step, one by a round
abbrev added : Form → ℕ
added f = mark (not (eqb f.top 0)) + f.relationship

record Bounded (c : Child) (d : ChildState) : Type 0 where
  weighs : weight d.plan ≤ weight c.plan + added d.form
  once : d.form.relationship ≤ 1

-- nothing was put on it yet
record Bare (c : Child) (d : ChildState) : Type 0 where
  weighs : weight d.plan ≤ weight c.plan
  top : d.form.top ≡ 0
  unrelated : d.form.relationship ≡ 0

weight_above : (o : Operator) (t : Plan) → o.limit ≡ nothing → weight (above o t) ≡ suc (weight t)
unfolding weight
weight_above o t e = rw e (omega arith)

module _ (rows : List Row) where
  bare_bounded : (c : Child) (d : ChildState) → Bare c d → Bounded c d
  bare_bounded c d h =
      let p : weight d.plan ≤ weight c.plan = h.weighs in
      let q : d.form.relationship ≡ 0 = h.unrelated in
      record { weighs = omega arith; once = omega arith }

  -- one operator on top
  topped : (c : Child) (d : ChildState) (k : ℕ) (change : Row → Plan → Plan) → mark (not (eqb k 0)) ≡ 1
      → ((x : Row) → weight (change x d.plan) ≡ suc (weight d.plan)) → Bare c d → Holds (Bounded c) (pass rows (with_top k d.form) change d)
  topped c d k change one w h =
      holds_pass (Bounded c) rows d (with_top k d.form) change
      (λ x r. let e : weight (change x d.plan) ≡ suc (weight d.plan) = w x in
      let p : weight d.plan ≤ weight c.plan = h.weighs in
      let q : d.form.relationship ≡ 0 = h.unrelated in
      record { weighs = omega arith; once = omega arith })

  starts : (c : Child) (o : Option Row) → Holds (Bare c) (started_by c o)
  starts c nothing = tt
  starts c (some x) = record { weighs = omega arith; top = refl; unrelated = refl }

  module _ (s : Settings) (w : Operator) (b : NodeFacts) where
    splits : (t : RepartitionRequirementStatus) (c : Child) (d : ChildState) → Bare c d → Holds (Bare c) (split_at_source s rows t d)
    splits t c d h =
        holds_cond (Bare c) (is_set s.split && (t.roundrobin_beneficial_stats && is_set d.facts.splits)) (pass rows split_form split_plan d) (some d)
        (λ e. holds_pass (Bare c) rows d split_form split_plan (λ x r.
        let q : weight (split_plan x d.plan) ≡ weight d.plan = weight_split x d.plan in
        let p : weight d.plan ≤ weight c.plan = h.weighs in
        record { weighs = omega arith; top = refl; unrelated = refl }))
        (λ e. h)

    satisfies : (t : RepartitionRequirementStatus) (c : Child) (d : ChildState) → Bare c d → Holds (Bounded c) (satisfy_distribution s w b rows t d)
    satisfies t c d h =
        holds_satisfied s w b rows (Bounded c) t d (bare_bounded c d h)
        (topped c d 1 merge_on refl (λ x. weight_above (new_merge x (root d.plan)) d.plan refl) h)
        (topped c d 2 keyed_on refl (λ x. weight_above (new_exchange 12 x (root d.plan)) d.plan refl) h)
        (topped c d 3 roundrobin_on refl (λ x. weight_above (new_exchange 13 x (root d.plan)) d.plan refl) h)

    steps : Steps s w b rows Bounded
    steps t =
        holds_stepped s w b rows (Bare t.child) (Bare t.child) (Bounded t.child) t
        (starts t.child (row_of rows t.child.number plain_form)) (splits t t.child) (satisfies t t.child)

    relates : Relates s w b rows Bounded
    relates c d g h =
        holds_pass (Bounded c) rows d (with_relationship d.form) keyed_on
        (λ x r. let e : weight (keyed_on x d.plan) ≡ suc (weight d.plan) = weight_above (new_exchange 12 x (root d.plan)) d.plan refl in
        let p : weight d.plan ≤ weight c.plan + added d.form = h.weighs in
        let q : d.form.relationship ≡ 0 = unrelated in
        record { weighs = omega arith; once = omega arith })
      where
        unrelated : d.form.relationship ≡ 0
        unrelated =
            let l : d.form.relationship ≤ 1 = h.once in
            let n : d.form.relationship ≡ 1 → ⊥ =
            eqb-false d.form.relationship 1 (not-true (is_given d) (and_first (not (is_given d)) (is_keyed d.need && not (already_target_hash d)) g)) in
            omega (arith, n)

-- ---- what is taken off, and the marks

lines_updated : (t : Plan) → lines (update_child t) ≡ lines t
unfolding lines
lines_updated (node o ts) = refl

liness_updated : (ts : Plans) → liness (update_each ts) ≡ liness ts
unfolding liness update_each
liness_updated none = refl
liness_updated (t ∷ᶠ ts) =
    let h : lines (update_child t) ≡ lines t = lines_updated t in
    let k : liness (update_each ts) ≡ liness ts = liness_updated ts in
    omega arith

pub lines_updates : (t : Plan) → lines (update_children t) ≡ lines t
unfolding lines
lines_updates (node o ts) = ap suc (liness_updated ts)

mutual
  unfolding remove_dist_changing_operators lines

  lines_removed : (t : Plan) → lines (remove_dist_changing_operators t) ≤ lines t
  lines_removed (node o ts) = go (is_removed o) (lines_above o ts)
    where
      go : (b : Bool) → lines (remove_above (node o ts) ts) ≤ suc (liness ts) → lines (cond b (remove_above (node o ts) ts) (node o ts)) ≤ suc (liness ts)
      go true h = h
      go false h = omega arith

  lines_above : (o : Operator) (ts : Plans) → lines (remove_above (node o ts) ts) ≤ suc (liness ts)
  lines_above o none = omega arith
  lines_above o (t ∷ᶠ ts) = let h : lines (remove_dist_changing_operators t) ≤ lines t = lines_removed t in omega arith

-- ---- lines are rows

mutual
  unfolding lines flatten

  pub lines_rows : (t : Plan) → length (flatten t) ≡ lines t
  lines_rows (node o ts) = ap suc (liness_rows ts)

  liness_rows : (ts : Plans) → length (flattens ts) ≡ liness ts
  liness_rows none = refl
  liness_rows (t ∷ᶠ ts) = length-append (flatten t) (flattens ts) ∙ ap₂ ◌+◌ (lines_rows t) (liness_rows ts)

-- ---- the answer

module _ (s : Settings) (f : Facts) where
  lines_child : (w : Operator) (n : ℕ) (c : Child) (d : ChildState) → Bounded c d → lines (handle_order s f.node w n d) ≤ 2 * lines c.plan + 3
  lines_child w n c d h =
      let a : lines (handle_order s f.node w n d) ≤ weight d.plan + 1 = lines_handled s f.node w n d in
      let b : weight d.plan ≤ weight c.plan + added d.form = h.weighs in
      let e : mark (not (eqb d.form.top 0)) ≤ 1 = mark_one (not (eqb d.form.top 0)) in
      let r : d.form.relationship ≤ 1 = h.once in
      let k : weight c.plan ≤ 2 * lines c.plan = weight_twice c.plan in
      omega arith

  liness_handled : (w : Operator) (n k : ℕ) (ts : Plans) (fs : List ChildFacts) (ds : List ChildState)
      → Alls Bounded (children_from k ts fs) ds → liness (handled s f w n ds) ≤ 2 * liness ts + 3 * trees ts
  unfolding liness handled children_from
  liness_handled w n k none fs [] h = omega arith
  liness_handled w n k none fs (d ∷ ds) h = absurd h
  liness_handled w n k (t ∷ᶠ ts) [] [] h = absurd h
  liness_handled w n k (t ∷ᶠ ts) [] (d ∷ ds) h =
      let a : lines (handle_order s f.node w n d) ≤ 2 * lines t + 3 = lines_child w n _ d h.0 in
      let b : liness (handled s f w n ds) ≤ 2 * liness ts + 3 * trees ts = liness_handled w n (suc k) ts [] ds h.1 in
      omega arith
  liness_handled w n k (t ∷ᶠ ts) (g ∷ fs) [] h = absurd h
  liness_handled w n k (t ∷ᶠ ts) (g ∷ fs) (d ∷ ds) h =
      let a : lines (handle_order s f.node w n d) ≤ 2 * lines t + 3 = lines_child w n _ d h.0 in
      let b : liness (handled s f w n ds) ≤ 2 * liness ts + 3 * trees ts = liness_handled w n (suc k) ts fs ds h.1 in
      omega arith

  lines_finished : (u : Plan) (a : Answer) → Finished s f Bounded (root u) (below u) a → lines a.plan ≤ 2 * lines u + 3 * trees (below u)
  unfolding finished lines
  lines_finished (node w ts) a h =
      let k : lines a.plan ≡ suc (liness (handled s f w (length h.states) h.states)) = ap (λ (x : Answer). lines x.plan) h.is in
      let l : liness (handled s f w (length h.states) h.states) ≤ 2 * liness ts + 3 * trees ts =
      liness_handled w (length h.states) 1 ts f.children h.states h.each in
      omega arith

  lines_came : (t : Plan) (a : Answer) → Came s f Bounded t a → lines a.plan ≤ 2 * lines t + 3 * trees (below (worked_of t))
  lines_came t a (leaf e h) =
      let k : lines a.plan ≡ lines t = ap lines h ∙ lines_updates t in
      omega arith
  lines_came t a (worked h) =
      let k : lines a.plan ≤ 2 * lines (worked_of t) + 3 * trees (below (worked_of t)) = lines_finished (worked_of t) a h in
      let l : lines (worked_of t) ≤ lines (update_children t) = lines_removed (update_children t) in
      let m : lines (update_children t) ≡ lines t = lines_updates t in
      omega arith

  pub answer_lines : (t : Plan) (a : Answer) → ensured s f t ≡ answered a → lines a.plan ≤ 2 * lines t + 3 * trees (below (worked_of t))
  answer_lines t a e =
      lines_came t a
      (of_answer (Came s f Bounded t) (ensured s f t) a e
      (came_always s f Bounded (λ w. steps f.rows s w f.node) (λ w. relates f.rows s w f.node) t))

  -- at most 256 lines and 8 children: at most 536 lines
  pub answer_536 : (t : Plan) (a : Answer) → lines t ≤ 256 → trees (below (worked_of t)) ≤ 8 → ensured s f t ≡ answered a → lines a.plan ≤ 536
  answer_536 t a l n e = let h : lines a.plan ≤ 2 * lines t + 3 * trees (below (worked_of t)) = answer_lines t a e in omega arith
