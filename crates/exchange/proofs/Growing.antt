-- A relation of trees that a split, a merge and the two exchanges keep holds between each child and its state.
use Prim.Native.Nat.{ℕ}
use mathlib.Core.Bool.{◌&&◌}
use mathlib.Core.Option.{Option, some, none as nothing}
use mathlib.Core.List.{List}
use Rattle.exchange.specs.Trees.{Operator, Plan}
use Rattle.exchange.specs.declared.settings.Settings.{Settings}
use Rattle.exchange.specs.Settings.{is_set}
use Rattle.exchange.specs.Forms.{Form, plain_form, split_form, with_top, with_relationship}
use Rattle.exchange.specs.Facts.{NodeFacts, Row, row_of}
use Rattle.exchange.specs.States.{Child, ChildState, with_form, pass, started_by}
use Rattle.exchange.specs.Status.{RepartitionRequirementStatus}
use Rattle.exchange.specs.Step.{split_plan, merge_on, keyed_on, roundrobin_on, split_at_source, satisfy_distribution}
use Rattle.exchange.proofs.StepWays.{holds_satisfied, holds_stepped}
use Rattle.exchange.proofs.Passing.{Holds, holds_cond, Steps, Relates}

-- what a relation of a tree and what it became must do
pub record Grows (Rel : Plan → Plan → Type 0) : Type 0 where
  pub same : (t : Plan) → Rel t t
  pub split : (t u : Plan) (x : Row) → Rel t u → Rel t (split_plan x u)
  pub merged : (t u : Plan) (x : Row) → Rel t u → Rel t (merge_on x u)
  pub keyed : (t u : Plan) (x : Row) → Rel t u → Rel t (keyed_on x u)
  pub dealt : (t u : Plan) (x : Row) → Rel t u → Rel t (roundrobin_on x u)

-- of a child and its state
abbrev pub OfPlans : (Plan → Plan → Type 0) → Child → ChildState → Type 0
OfPlans Rel c d = Rel c.plan d.plan

module _ (Rel : Plan → Plan → Type 0) (grows : Grows Rel) where
  grown_form : (c : Child) (d : ChildState) (f : Form) (change : Row → Plan → Plan)
      → ((x : Row) → Rel c.plan (change x d.plan)) → (o : Option Row) → Holds (OfPlans Rel c) (with_form d f change o)
  grown_form c d f change h nothing = tt
  grown_form c d f change h (some x) = h x

  grown_start : (c : Child) (o : Option Row) → Holds (OfPlans Rel c) (started_by c o)
  grown_start c nothing = tt
  grown_start c (some x) = grows.same c.plan

  module _ (s : Settings) (w : Operator) (b : NodeFacts) (rows : List Row) where
    grown_split : (t : RepartitionRequirementStatus) (c : Child) (d : ChildState)
        → OfPlans Rel c d → Holds (OfPlans Rel c) (split_at_source s rows t d)
    grown_split t c d p =
        holds_cond (OfPlans Rel c) (is_set s.split && (t.roundrobin_beneficial_stats && is_set d.facts.splits)) (pass rows split_form split_plan d) (some d)
        (λ e. grown_form c d split_form split_plan (λ x. grows.split c.plan d.plan x p) (row_of rows d.number split_form))
        (λ e. p)

    grown_top : (c : Child) (d : ChildState) (k : ℕ) (change : Row → Plan → Plan)
        → ((x : Row) → Rel c.plan (change x d.plan)) → Holds (OfPlans Rel c) (pass rows (with_top k d.form) change d)
    grown_top c d k change h = grown_form c d (with_top k d.form) change h (row_of rows d.number (with_top k d.form))

    grown_satisfy : (t : RepartitionRequirementStatus) (c : Child) (d : ChildState)
        → OfPlans Rel c d → Holds (OfPlans Rel c) (satisfy_distribution s w b rows t d)
    grown_satisfy t c d p =
        holds_satisfied s w b rows (OfPlans Rel c) t d p
        (grown_top c d 1 merge_on (λ x. grows.merged c.plan d.plan x p))
        (grown_top c d 2 keyed_on (λ x. grows.keyed c.plan d.plan x p))
        (grown_top c d 3 roundrobin_on (λ x. grows.dealt c.plan d.plan x p))

    pub grown_steps : Steps s w b rows (OfPlans Rel)
    grown_steps t =
        holds_stepped s w b rows (OfPlans Rel t.child) (OfPlans Rel t.child) (OfPlans Rel t.child) t
        (grown_start t.child (row_of rows t.child.number plain_form)) (grown_split t t.child) (grown_satisfy t t.child)

    pub grown_relates : Relates s w b rows (OfPlans Rel)
    grown_relates c d g p =
        grown_form c d (with_relationship d.form) keyed_on (λ x. grows.keyed c.plan d.plan x p) (row_of rows d.number (with_relationship d.form))
