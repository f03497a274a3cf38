-- The numbers of an answer of `ensured` are within the sheet's.
-- Assumes nothing.
use mathlib.Core.Path.{◌≡◌, refl, ap}
use mathlib.Core.Bool.{Bool, cond, ◌&&◌}
use mathlib.Core.Option.{Option, some, none as nothing}
use mathlib.Core.List.{List, [], ◌∷◌}
use Prim.Native.Nat.{ℕ, suc, ◌≤◌}
use native.Mathlib.Omega.{arith}
use lib.Dec.{eqb}
use lib.ListN.{length}
use Rattle.sheet.specs.Sizes.{Each}
use Rattle.exchange.specs.Trees.{node, none, ◌∷ᶠ◌, root, Operator, Plan, Plans}
use Rattle.exchange.specs.declared.settings.Settings.{Settings}
use Rattle.exchange.specs.Settings.{is_set}
use Rattle.exchange.specs.Forms.{Form, form_number, plain_form, split_form, with_top, with_relationship}
use Rattle.exchange.specs.Facts.{NodeFacts, ChildFacts, Facts, Row, row_of}
use Rattle.exchange.specs.Operators.{is_window}
use Rattle.exchange.specs.Children.{update_each, update_children}
use Rattle.exchange.specs.States.{Child, ChildState, children_from, with_form, pass, started_by}
use Rattle.exchange.specs.Status.{RepartitionRequirementStatus}
use Rattle.exchange.specs.Step.{split_plan, merge_on, keyed_on, roundrobin_on, split_at_source, satisfy_distribution}
use Rattle.exchange.specs.Ensure.{Answer, Ensured, missing_row, unenforceable, answered, handled, finished, becomes_interleave, ensured}
use Rattle.exchange.specs.Skeleton.{below}
use Rattle.exchange.specs.Partitioning.{worked_of}
use Rattle.exchange.proofs.StepWays.{holds_satisfied, holds_stepped}
use Rattle.exchange.proofs.Passing.{Holds, HoldsEnsured, holds_cond, Alls, Steps, Relates}
use Rattle.exchange.proofs.Answered.{Finished, Came, leaf, worked, came_always}
use Rattle.exchange.proofs.OperatorsKept.{of_answer}
use Rattle.plananswer.specs.Sizes.{OperatorWithin, RowWithin, EntriesWithin, SizedFacts, SizedAnswer}
use Rattle.plananswer.proofs.SizedPlans.{Fine, Fines, mark_within, fine_updates, fine_removed, fine_split, fine_merge, fine_exchange, fine_handled, interleaved_within}

-- ---- rows

row_within : (m : ℕ) (rows : List Row) (child : ℕ) (f : Form) → Each (RowWithin m) rows → Holds (RowWithin m) (row_of rows child f)
unfolding row_of
row_within m [] child f h = tt
row_within m (x ∷ xs) child f h =
    holds_cond (RowWithin m) (eqb x.child child && eqb x.form (form_number f)) (some x) (row_of xs child f) (λ e. h.0) (λ e. row_within m xs child f h.1)

module _ (m l : ℕ) (kinds : 255 ≤ m) where
  -- a child's tree stays within its bounds, and its facts are its own
  record Kept (c : Child) (d : ChildState) : Type 0 where
    plan : Fine m l kinds c.plan → Fine m l kinds d.plan
    facts : d.facts ≡ c.facts

  module _ (rows : List Row) (within : Each (RowWithin m) rows) where
    passed : (c : Child) (d : ChildState) (f : Form) (change : Row → Plan → Plan)
        → ((x : Row) → RowWithin m x → (t : Plan) → Fine m l kinds t → Fine m l kinds (change x t)) → Kept c d → Holds (Kept c) (pass rows f change d)
    passed c d f change h k = go (row_of rows d.number f) (row_within m rows d.number f within)
      where
        go : (o : Option Row) → Holds (RowWithin m) o → Holds (Kept c) (with_form d f change o)
        go nothing r = tt
        go (some x) r = record { plan = λ p. h x r d.plan (k.plan p); facts = k.facts }

    starts : (c : Child) (o : Option Row) → Holds (Kept c) (started_by c o)
    starts c nothing = tt
    starts c (some x) = record { plan = λ p. p; facts = refl }

    keyed : (x : Row) → RowWithin m x → (t : Plan) → Fine m l kinds t → Fine m l kinds (keyed_on x t)
    keyed x r t h = fine_exchange m l kinds x r 12 t (omega arith) h

    module _ (s : Settings) (w : Operator) (b : NodeFacts) where
      splits : (t : RepartitionRequirementStatus) (c : Child) (d : ChildState) → Kept c d → Holds (Kept c) (split_at_source s rows t d)
      splits t c d k =
          holds_cond (Kept c) (is_set s.split && (t.roundrobin_beneficial_stats && is_set d.facts.splits)) (pass rows split_form split_plan d) (some d)
          (λ e. passed c d split_form split_plan (λ x r. fine_split m l kinds x r) k)
          (λ e. k)

      satisfies : (t : RepartitionRequirementStatus) (c : Child) (d : ChildState) → Kept c d → Holds (Kept c) (satisfy_distribution s w b rows t d)
      satisfies t c d k =
          holds_satisfied s w b rows (Kept c) t d k
          (passed c d (with_top 1 d.form) merge_on (λ x r. fine_merge m l kinds x r) k)
          (passed c d (with_top 2 d.form) keyed_on keyed k)
          (passed c d (with_top 3 d.form) roundrobin_on (λ x r t h. fine_exchange m l kinds x r 13 t (omega arith) h) k)

      steps : Steps s w b rows Kept
      steps t =
          holds_stepped s w b rows (Kept t.child) (Kept t.child) (Kept t.child) t (starts t.child (row_of rows t.child.number plain_form))
          (splits t t.child)
          (satisfies t t.child)

      relates : Relates s w b rows Kept
      relates c d g k = passed c d (with_relationship d.form) keyed_on keyed k

  -- ---- the answer

  module _ (s : Settings) (f : Facts) where
    entries_within : (c : Child) (d : ChildState) → Kept c d → EntriesWithin c.facts → EntriesWithin d.facts
    entries_within c d k h = rw k.facts h

    fines_handled : (w : Operator) (n k : ℕ) (ts : Plans) (fs : List ChildFacts) (ds : List ChildState)
        → OperatorWithin m l w → Fines m l kinds ts → Each EntriesWithin fs → Alls Kept (children_from k ts fs) ds → Fines m l kinds (handled s f w n ds)
    unfolding handled children_from
    fines_handled w n k none fs [] h p q a = tt
    fines_handled w n k none fs (d ∷ ds) h p q a = absurd a
    fines_handled w n k (t ∷ᶠ ts) [] [] h p q a = absurd a
    fines_handled w n k (t ∷ᶠ ts) [] (d ∷ ds) h p q a =
        (fine_handled m l kinds s f.node w n d h (entries_within _ d a.0 (omega arith)) (a.0.plan p.0), fines_handled w n (suc k) ts [] ds h p.1 q a.1)
    fines_handled w n k (t ∷ᶠ ts) (g ∷ fs) [] h p q a = absurd a
    fines_handled w n k (t ∷ᶠ ts) (g ∷ fs) (d ∷ ds) h p q a =
        (fine_handled m l kinds s f.node w n d h (entries_within _ d a.0 q.0) (a.0.plan p.0), fines_handled w n (suc k) ts fs ds h p.1 q.1 a.1)

    finished_sized : (u : Plan) (a : Answer) → Fine m l kinds u → Each EntriesWithin f.children → Finished s f Kept (root u) (below u) a → SizedAnswer m l a
    unfolding finished
    finished_sized (node w ts) a p q h = rw h.is (go h.states h.each)
      where
        go : (ds : List ChildState) → Alls Kept (children_from 1 ts f.children) ds → SizedAnswer m l (finished s f w ds)
        go ds e = record {
          changed = omega arith;
          window = mark_within m l kinds (is_window w && is_set f.node.window);
          interleave = mark_within m l kinds (becomes_interleave s w ds);
          tracked = p.0.tracked;
          plan = (interleaved_within m l kinds (becomes_interleave s w ds) w p.0, fines_handled w (length ds) 1 ts f.children ds p.0 p.1 q e);
        }

    -- of the answer that was given, if any
    every : (P Q : Answer → Type 0) (e : Ensured) → ((a : Answer) → P a → Q a) → HoldsEnsured P e → HoldsEnsured Q e
    every P Q missing_row g h = tt
    every P Q unenforceable g h = tt
    every P Q (answered a) g h = g a h

    sized : (t : Plan) → SizedFacts m l f t → HoldsEnsured (SizedAnswer m l) (ensured s f t)
    unfolding ensured update_each
    sized (node o none) h = record {
      changed = omega arith;
      window = omega arith;
      interleave = omega arith;
      tracked = omega arith;
      plan = fine_updates m l kinds (node o none) h.plan;
    }
    sized (node o (u ∷ᶠ us)) h =
        let t : Plan = node o (u ∷ᶠ us) in
        every (Came s f Kept t) (SizedAnswer m l) (ensured s f t) go
        (came_always s f Kept (λ w. steps f.rows h.rows s w f.node) (λ w. relates f.rows h.rows s w f.node) t)
      where
        go : (a : Answer) → Came s f Kept (node o (u ∷ᶠ us)) a → SizedAnswer m l a
        go a (leaf e k) = let z : ◌≡◌ {A = ℕ} 0 1 = ap (λ (b : Bool). cond b 1 0) e in absurd (omega arith)
        go a (worked k) =
            finished_sized (worked_of (node o (u ∷ᶠ us))) a
            (fine_removed m l kinds (update_children (node o (u ∷ᶠ us))) (fine_updates m l kinds (node o (u ∷ᶠ us)) h.plan)) h.children k

    -- the numbers of an answer are within m, its limits within l
    pub plan_answer_sized : (t : Plan) (a : Answer) → SizedFacts m l f t → ensured s f t ≡ answered a → SizedAnswer m l a
    plan_answer_sized t a h e = of_answer (SizedAnswer m l) (ensured s f t) a e (sized t h)
