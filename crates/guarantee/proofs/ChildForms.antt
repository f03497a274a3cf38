-- What is new on top of a child of an answer is what the child's last form says, and that form is split exactly where the sheet says so.
use Prim.Native.Nat.{ℕ, ◌≤◌}
use mathlib.Core.Path.{◌≡◌, refl, sym, ap, ◌∙◌}
use mathlib.Core.Bool.{Bool, true, false, cond, not, ◌&&◌}
use mathlib.Core.Option.{Option, some, none as nothing}
use mathlib.Core.List.{List, [], ◌∷◌, ◌++◌}
use native.Mathlib.Omega.{arith}
use lib.Dec.{eqb}
use borrow.Author.Tests.{not-true}
use Rattle.keys.proofs.Truths.{and_first}
use Rattle.exchange.specs.Trees.{node, root, Operator, Plan}
use Rattle.exchange.specs.declared.settings.Settings.{Settings}
use Rattle.exchange.specs.Settings.{is_set}
use Rattle.exchange.specs.Forms.{Form, plain_form, split_form, with_top, with_relationship}
use Rattle.exchange.specs.Facts.{NodeFacts, Row, row_of}
use Rattle.exchange.specs.Operators.{is_keyed, mark, has_order}
use Rattle.exchange.specs.States.{Child, ChildState, pass, started_by, started}
use Rattle.exchange.specs.Status.{rows_gain, status_of}
use Rattle.exchange.specs.Step.{split_plan, merge_on, keyed_on, roundrobin_on, split_at_source, satisfy_distribution, ensure_child}
use Rattle.exchange.specs.Relationships.{is_given, already_target_hash}
use Rattle.exchange.specs.Partitioning.{is_split}
use Rattle.exchange.proofs.StepWays.{holds_satisfied, holds_stepped}
use Rattle.exchange.proofs.Passing.{Holds, holds_cond, holds_pass, EachSteps, Relates}
use Rattle.guarantee.specs.Partitioning.{new_on_top}

-- the tops of a form: its relationship exchange, and what is under that
abbrev pub form_tops : Form → List ℕ
form_tops f = cond (is_set f.relationship) (2 ∷ []) [] ++ cond (eqb f.top 0) [] (f.top ∷ [])

-- ---- a new operator on top

tops_split : (x : Row) (t : Plan) → new_on_top (split_plan x t) ≡ new_on_top t
unfolding new_on_top
tops_split x (node o ts) = refl

tops_merge : (x : Row) (t : Plan) → new_on_top (merge_on x t) ≡ 1 ∷ new_on_top t
unfolding new_on_top
tops_merge x t = go (has_order (root t))
  where
    go : (b : Bool) → cond (eqb (cond b 1 2) 11) [] (cond (eqb (cond b 1 2) 12) 2 (cond (eqb (cond b 1 2) 13) 3 1) ∷ []) ++ new_on_top t ≡ 1 ∷ new_on_top t
    go true = refl
    go false = refl

tops_keyed : (x : Row) (t : Plan) → new_on_top (keyed_on x t) ≡ 2 ∷ new_on_top t
unfolding new_on_top
tops_keyed x t = refl

tops_dealt : (x : Row) (t : Plan) → new_on_top (roundrobin_on x t) ≡ 3 ∷ new_on_top t
unfolding new_on_top
tops_dealt x t = refl

-- ---- the steps of a child on which nothing new stands

module _ (s : Settings) (w : Operator) (b : NodeFacts) (rows : List Row) where
  pub record Formed (c : Child) (d : ChildState) : Type 0 where
    pub split : d.form.split ≡ mark (is_split s c)
    pub tops : new_on_top d.plan ≡ form_tops d.form
    pub bit : d.form.relationship ≤ 1

  record Begun (c : Child) (d : ChildState) : Type 0 where
    form : d.form ≡ plain_form
    facts : d.facts ≡ c.facts
    tops : new_on_top d.plan ≡ []

  record Bare (c : Child) (d : ChildState) : Type 0 where
    split : d.form.split ≡ mark (is_split s c)
    top : d.form.top ≡ 0
    relationship : d.form.relationship ≡ 0
    tops : new_on_top d.plan ≡ []

  begins : (c : Child) → new_on_top c.plan ≡ [] → Holds (Begun c) (started rows c)
  begins c e = go (row_of rows c.number plain_form)
    where
      go : (o : Option Row) → Holds (Begun c) (started_by c o)
      go nothing = tt
      go (some x) = record { form = refl; facts = refl; tops = e }

  splits : (c : Child) (aligned : Bool) (d : ChildState) → Begun c d → Holds (Bare c) (split_at_source s rows (status_of s aligned c) d)
  splits c aligned d h =
      holds_cond (Bare c) (is_set s.split && (rows_gain s c.facts && is_set d.facts.splits)) (pass rows split_form split_plan d) (some d)
      (λ e. holds_pass (Bare c) rows d split_form split_plan (λ x r. record {
        split = ap mark (sym (told e));
        top = refl;
        relationship = refl;
        tops = tops_split x d.plan ∙ h.tops;
      }))
      (λ e. record { split = ap (λ (f : Form). f.split) h.form ∙ ap mark (sym (told e)); top = ap (λ (f : Form). f.top) h.form; relationship = ap (λ (f : Form). f.relationship) h.form; tops = h.tops })
    where
      told : {x : Bool} → (is_set s.split && (rows_gain s c.facts && is_set d.facts.splits)) ≡ x → is_split s c ≡ x
      told e = rw h.facts at e

  -- a top put on a bare child
  topped : (c : Child) (d : ChildState) (k : ℕ) (x : Row) (t : Plan) → eqb k 0 ≡ false → new_on_top t ≡ k ∷ new_on_top d.plan → Bare c d
      → Formed c (record { number = d.number; facts = d.facts; need = d.need; form = with_top k d.form; row = x; plan = t })
  topped c d k x t z e h = record {
    split = h.split;
    tops = e ∙ ap (λ (ks : List ℕ). k ∷ ks) h.tops ∙ rw (h.relationship, z);
    bit = rw h.relationship (omega arith);
  }

  stays : (c : Child) (d : ChildState) → Bare c d → Formed c d
  stays c d h = record { split = h.split; tops = h.tops ∙ rw (h.relationship, h.top); bit = rw h.relationship (omega arith) }

  satisfies : (c : Child) (aligned : Bool) (d : ChildState) → Bare c d → Holds (Formed c) (satisfy_distribution s w b rows (status_of s aligned c) d)
  satisfies c aligned d h =
      let put : (k : ℕ) (on : Row → Plan → Plan) → eqb k 0 ≡ false → ((x : Row) (t : Plan) → new_on_top (on x t) ≡ k ∷ new_on_top t) → Holds (Formed c) (pass rows (with_top k d.form) on d) =
      λ k on z e. holds_pass (Formed c) rows d (with_top k d.form) on (λ x r. topped c d k x (on x d.plan) z (e x d.plan) h) in
      holds_satisfied s w b rows (Formed c) (status_of s aligned c) d (stays c d h) (put 1 merge_on refl tops_merge) (put 2 keyed_on refl tops_keyed) (put 3 roundrobin_on refl tops_dealt)

  step_formed : (c : Child) (aligned : Bool) → new_on_top c.plan ≡ [] → Holds (Formed c) (ensure_child s w b rows (status_of s aligned c))
  step_formed c aligned e = holds_stepped s w b rows (Begun c) (Bare c) (Formed c) (status_of s aligned c) (begins c e) (splits c aligned) (satisfies c aligned)

  -- nothing new stands on the children of a sheet
  abbrev pub Unnew : List Child → Type 0
  Unnew [] = Unit {0}
  Unnew (c ∷ cs) = (new_on_top c.plan ≡ []) × Unnew cs

  pub steps_formed : (aligned : Bool) (cs : List Child) → Unnew cs → EachSteps s w b rows Formed aligned cs
  steps_formed aligned [] h = tt
  steps_formed aligned (c ∷ cs) h = (step_formed c aligned h.0, steps_formed aligned cs h.1)

  -- ---- a relationship exchange

  pub related_formed : Relates s w b rows Formed
  related_formed c d g h =
      holds_pass (Formed c) rows d (with_relationship d.form) keyed_on (λ x r. record {
        split = h.split;
        tops = tops_keyed x d.plan ∙ ap (λ (ks : List ℕ). 2 ∷ ks) (h.tops ∙ rw ungiven);
        bit = omega arith;
      })
    where
      ungiven : is_set d.form.relationship ≡ false
      ungiven = not-true (is_given d) (and_first (not (is_given d)) (is_keyed d.need && not (already_target_hash d)) g)
