-- Demand 3, partitioning: where the facts fit and no child whose mark `gains` is 0 is split at its source, each child of an answer has what it needs.
use Prim.Native.Nat.{ℕ}
use mathlib.Core.Path.{◌≡◌, refl, sym, ap, ◌∙◌}
use mathlib.Core.Bool.{Bool, true, false, cond, not, ◌||◌}
use mathlib.Core.List.{List, [], ◌∷◌}
use lib.ListN.{length}
use borrow.Author.Tests.{not-true}
use Rattle.std.proofs.lemmas.Bool.{or_left, or_right}
use Rattle.keys.proofs.Truths.{true_false, and_first, and_second}
use Rattle.exchange.specs.Trees.{node, root, Operator, Plan}
use Rattle.exchange.specs.declared.settings.Settings.{Settings}
use Rattle.exchange.specs.Settings.{is_set}
use Rattle.exchange.specs.Facts.{NodeFacts, Facts, Row}
use Rattle.exchange.specs.Operators.{is_single, is_keyed}
use Rattle.exchange.specs.Children.{is_leaf, remove_dist_changing_operators}
use Rattle.exchange.specs.States.{Child, ChildState, need_of, children_from}
use Rattle.exchange.specs.Status.{asks_alignment, needs_alignment}
use Rattle.exchange.specs.Step.{allow_subset_satisfy_partitioning}
use Rattle.exchange.specs.Order.{handle_order}
use Rattle.exchange.specs.Ensure.{Answer, answered, child_states, finished, ensured}
use Rattle.exchange.specs.Fit.{none_repeated, rows_fit, all_within_bits, worked_fits, facts_fit}
use Rattle.exchange.specs.Skeleton.{below, is_added_sort}
use Rattle.exchange.specs.Partitioning.{is_had, beneath_sorts, is_split, splits_gain, none_added, worked_of, children_of, EachHas, Partitioned}
use Rattle.exchange.proofs.Passing.{Alls, EachSteps}
use Rattle.exchange.proofs.Answered.{Came, leaf, worked, came}
use Rattle.exchange.proofs.OperatorsKept.{of_answer}
use Rattle.exchange.proofs.Beneath.{Top, top_of, beneath_handled}
use Rattle.exchange.proofs.ChildHad.{Has, step_has, related_has}

-- "not p, or q" is "p gives q"
implied : (p q : Bool) → (not p || q) ≡ true → p ≡ true → q ≡ true
implied true q e h = e
implied false q e h = absurd (true_false h refl)

-- ---- the steps of all children

module _ (s : Settings) (w : Operator) (b : NodeFacts) (rows : List Row) (ds : List Child) (fit : rows_fit s ds rows ≡ true) (aligned : Bool) where
  steps_have : (cs : List Child) → (needs_alignment s cs ≡ true → aligned ≡ true) → splits_gain s cs ≡ true → none_added cs ≡ true
      → EachSteps s w b rows (Has s w b rows) aligned cs
  unfolding needs_alignment splits_gain none_added
  steps_have [] asks gains fresh = tt
  steps_have (c ∷ cs) asks gains fresh = (
    step_has s w b rows ds fit c aligned
        (not-true (is_added_sort (root c.plan)) (and_first (not (is_added_sort (root c.plan))) (none_added cs) fresh))
        (implied (is_split s c) (is_set c.facts.gains) (and_first (not (is_split s c) || is_set c.facts.gains) (splits_gain s cs) gains))
        (λ e. asks (or_left (asks_alignment s c) (needs_alignment s cs) e)),
    steps_have cs (λ e. asks (or_right (asks_alignment s c) (needs_alignment s cs) e))
        (and_second (not (is_split s c) || is_set c.facts.gains) (splits_gain s cs) gains)
        (and_second (not (is_added_sort (root c.plan))) (none_added cs) fresh),
  )

-- ---- the trees of an answer

module _ (s : Settings) (f : Facts) (w : Operator) (n : ℕ) where
  -- what is had by an operator is had by one that counts alike
  alike : (c : Child) (x : Row) (o p : Operator) → top_of p ≡ top_of o → is_had s w c x o ≡ true → is_had s w c x p ≡ true
  alike c x o p e h = ap by e ∙ h
    where
      by : Top → Bool
      by t =
          cond (is_single (need_of c)) t.few
          (cond (is_keyed (need_of c)) (t.few || (t.keyed || is_set (cond (allow_subset_satisfy_partitioning s w c) x.subset x.exact))) true)

  each_had : (cs : List Child) (ds : List ChildState) → Alls (Has s w f.node f.rows) cs ds → EachHas s f w n cs ds
  each_had [] [] h = tt
  each_had [] (d ∷ ds) h = absurd h
  each_had (c ∷ cs) [] h = absurd h
  each_had (c ∷ cs) (d ∷ ds) h = (
    record {
      row = h.0.row;
      had =
          alike c d.row (root d.plan) (beneath_sorts (handle_order s f.node w n d)) (beneath_handled s f.node w n d h.0.fresh) h.0.had;
    },
    each_had cs ds h.1,
  )

pub whole : (u : Plan) → node (root u) (below u) ≡ u
whole (node o ts) = refl

module _ (s : Settings) (f : Facts) where
  had_came : (t : Plan) (a : Answer) → is_leaf (below t) ≡ false → Came s f (Has s (root (worked_of t)) f.node f.rows) t a → Partitioned s f t a
  unfolding finished
  had_came t a n (leaf e h) = absurd (true_false e n)
  had_came t a n (worked h) = record {
    states = h.states;
    reached = ap (child_states s f) (sym (whole (worked_of t))) ∙ h.reached;
    made = ap (λ (x : Answer). below x.plan) h.is;
    each = each_had s f (root (worked_of t)) (length h.states) (children_of f t) h.states h.each;
  }

  fit_rows : (u : Plan) → worked_fits s f u ≡ true → rows_fit s (children_from 1 (below u) f.children) f.rows ≡ true
  fit_rows (node o ts) h =
      let cs : List Child = children_from 1 ts f.children in
      and_first (rows_fit s cs f.rows) (all_within_bits (length cs) f.masks) (and_second (none_repeated f.rows) _ h)

  pub partitioning_had : (t : Plan) (a : Answer)
      → is_leaf (below t) ≡ false
      → facts_fit s f t ≡ true
      → splits_gain s (children_of f t) ≡ true
      → none_added (children_of f t) ≡ true
      → ensured s f t ≡ answered a
      → Partitioned s f t a
  unfolding facts_fit
  partitioning_had t a more fit gains fresh e =
      let w : Operator = root (worked_of t) in
      let ds : List Child = children_from 1 (below (remove_dist_changing_operators t)) f.children in
      let rows : rows_fit s ds f.rows ≡ true = fit_rows (remove_dist_changing_operators t) fit in
      had_came t a more
      (of_answer (Came s f (Has s w f.node f.rows) t) (ensured s f t) a e
      (came s f (Has s w f.node f.rows) t
      (steps_have s w f.node f.rows ds rows (needs_alignment s (children_of f t)) (children_of f t) (λ q. q) gains fresh)
      (related_has s w f.node f.rows ds rows)))
