-- The states after the relationship rounds are reached from the children they began with (`all_reached`), and so built by their forms (`children_finished`):
-- a child's step gives a state that is reached, and an exchange is given only where there is none yet (`exchange_reached`).
-- Assumes nothing.
use Prim.Native.Nat.{ℕ, zero, suc, ◌≤◌}
use mathlib.Core.Path.{◌≡◌, refl, sym, ap, subst, ◌∙◌}
use mathlib.Core.Bool.{Bool, true, false, cond, not, ◌&&◌}
use mathlib.Core.Option.{Option, none, some}
use mathlib.Core.List.{List, [], ◌∷◌}
use native.Mathlib.Omega.{arith}
use lib.Dec.{eqb}
use lib.ListN.{length}
use Rattle.exchange.specs.declared.settings.Settings.{Settings}
use Rattle.exchange.specs.Trees.{node, Operator, Plan, Plans}
use Rattle.exchange.specs.Settings.{is_set}
use Rattle.exchange.specs.Operators.{is_keyed}
use Rattle.exchange.specs.Forms.{Form, plain_form, split_form, with_top, with_relationship}
use Rattle.exchange.specs.Facts.{NodeFacts, Row, Facts, row_of}
use Rattle.exchange.specs.States.{Child, ChildState, started_by, with_form, children_from}
use Rattle.exchange.specs.Status.{RepartitionRequirementStatus, needs_alignment, get_repartition_requirement_status}
use Rattle.exchange.specs.Step.{split_plan, merge_on, keyed_on, roundrobin_on, ensure_child, ensure_children}
use Rattle.exchange.specs.Relationships.{enforced, already_target_hash, round, rounds, enforce_distribution_relationships}
use Rattle.exchange.specs.Ensure.{relate, child_states}
use Rattle.exchange.specs.Built.{built}
use Rattle.exchange.proofs.FinishedStates.{From, End, Finished, over, beside}
use Rattle.exchange.proofs.Forms.{form_apart, form_small}
use Rattle.exchange.proofs.Passing.{Holds, HoldsEnforced, Alls, Steps, Relates, each_steps, each_step, each_round, all_rounds, holds_pass}
use Rattle.exchange.proofs.StepWays.{holds_satisfied, holds_stepped}
use Rattle.exchange.proofs.Reached.{reached_related}
use Rattle.exchange.proofs.Ensured.{Fresh, ensured_after}
use Rattle.exchange.proofs.BuiltReached.{reached_built}

-- ---- the child's facts stay through its step

module _ (k : Child) where
  abbrev SameFacts : ChildState → Type 0
  SameFacts c = c.facts ≡ k.facts

  -- it passes into a form, or stays
  facts_may : (c : ChildState) (t : Bool) (f : Form) (change : Row → Plan → Plan) (o : Option Row) → SameFacts c → Holds SameFacts (cond t (with_form c f change o) (some c))
  facts_may c true f change none h = tt
  facts_may c true f change (some x) h = h
  facts_may c false f change o h = h

  facts_begun : (o : Option Row) → Holds SameFacts (started_by k o)
  facts_begun none = tt
  facts_begun (some x) = refl

module _ (s : Settings) (worked : Operator) (b : NodeFacts) (rows : List Row) where
  facts_kept : (t : RepartitionRequirementStatus) → Holds (SameFacts t.child) (ensure_child s worked b rows t)
  facts_kept t =
      let k = t.child in
      holds_stepped s worked b rows (SameFacts k) (SameFacts k) (SameFacts k) t (facts_begun k (row_of rows k.number plain_form))
      (λ c h. facts_may k c (is_set s.split && (t.roundrobin_beneficial_stats && is_set c.facts.splits)) split_form split_plan (row_of rows c.number split_form) h)
      (λ c h. holds_satisfied s worked b rows (SameFacts k) t c h
      (holds_pass (SameFacts k) rows c (with_top 1 c.form) merge_on (λ x e. h))
      (holds_pass (SameFacts k) rows c (with_top 2 c.form) keyed_on (λ x e. h))
      (holds_pass (SameFacts k) rows c (with_top 3 c.form) roundrobin_on (λ x e. h)))

  -- ---- a step, and a relationship exchange

  step_reached : Steps s worked b rows (From rows)
  step_reached t = go (ensure_child s worked b rows t) (facts_kept t) (ensured_after s worked b rows t)
    where
      go : (o : Option ChildState) → Holds (SameFacts t.child) o → ((c : ChildState) → o ≡ some c → Fresh rows t.child c) → Holds (From rows t.child) o
      go none h g = tt
      go (some c) h g = let p = g c refl in record { number = p.number; facts = h; need = p.need; reached = p.reached }

  ungiven : (m : ℕ) (x : Bool) → m ≤ 1 → (not (eqb m 1) && x) ≡ true → m ≡ 0
  ungiven zero x h e = refl
  ungiven (suc zero) x h e = absurd (cc)
  ungiven (suc (suc m)) x h e = absurd (omega arith)

  exchange_reached : Relates s worked b rows (From rows)
  exchange_reached k c e h = go (row_of rows c.number (with_relationship c.form)) refl
    where
      bare : c.form ≡ record { split = c.form.split; top = c.form.top; relationship = 0 }
      bare =
          let z = ungiven c.form.relationship (is_keyed c.need && not (already_target_hash c)) h.reached.relationship e in
          λ j. record { split = c.form.split; top = c.form.top; relationship = z j }

      go : (o : Option Row) → row_of rows c.number (with_relationship c.form) ≡ o → Holds (From rows k) (with_form c (with_relationship c.form) keyed_on o)
      go none r = tt
      go (some x) r =
          record {
            number = h.number;
            facts = h.facts;
            need = h.need;
            reached =
                reached_related rows k.plan c h.reached c.form.split c.form.top h.reached.split h.reached.top bare x r;
          }

  -- ---- the rounds

  pub round_reached : (mask : ℕ) (ks : List Child) (cs ds : List ChildState) → Alls (From rows) ks cs → round rows mask cs ≡ some ds → Alls (From rows) ks ds
  round_reached mask ks cs ds h e = subst (Holds (Alls (From rows) ks)) e (each_round s worked b rows (From rows) exchange_reached mask ks cs h)

  pub rounds_reached : (masks : List ℕ) (n : ℕ) (ks : List Child) (cs ds : List ChildState) → Alls (From rows) ks cs → rounds rows masks n cs ≡ enforced ds
      → Alls (From rows) ks ds
  rounds_reached masks n ks cs ds h e =
      subst (HoldsEnforced (Alls (From rows) ks)) e (all_rounds s worked b rows (From rows) exchange_reached masks n ks cs h)

  pub steps_reached : (ks : List Child) (cs : List ChildState) → ensure_children s worked b rows (get_repartition_requirement_status s ks) ≡ some cs → Alls (From rows) ks cs
  steps_reached ks cs e =
      let aligned = needs_alignment s ks in
      subst (Holds (Alls (From rows) ks)) e (each_step s worked b rows (From rows) aligned ks (each_steps s worked b rows (From rows) step_reached aligned ks))

  pub all_reached : (masks : List ℕ) (ks : List Child) (cs ds : List ChildState) → ensure_children s worked b rows (get_repartition_requirement_status s ks) ≡ some cs
      → enforce_distribution_relationships rows masks cs ≡ enforced ds → Alls (From rows) ks ds
  all_reached masks ks cs ds e g = rounds_reached masks (length cs) ks cs ds (steps_reached ks cs e) g

-- ---- by the form alone

module _ (rows : List Row) where
  pub from_end : (k : Child) (c : ChildState) → From rows k c → End rows k c
  from_end k c h =
      let r = h.reached in
      record {
        number = h.number;
        facts = h.facts;
        need = h.need;
        small = omega (arith, form_small c.form r.split r.top r.relationship);
        whole = form_apart c.form r.split r.top r.relationship;
        row = ap (λ (n : ℕ). row_of rows n c.form) (sym h.number) ∙ r.row;
        plan = reached_built rows k.plan c r ∙ ap (λ (n : ℕ). built rows n c.form k.plan) h.number;
      }

  pub all_end : (ks : List Child) (cs : List ChildState) → Alls (From rows) ks cs → Finished rows ks cs
  all_end [] [] h = over
  all_end [] (c ∷ cs) h = absurd h
  all_end (k ∷ ks) [] h = absurd h
  all_end (k ∷ ks) (c ∷ cs) h = beside (from_end k c h.0) (all_end ks cs h.1)

pub children_finished : (s : Settings) (worked : Operator) (b : NodeFacts) (rows : List Row) (masks : List ℕ) (ks : List Child) (cs ds : List ChildState)
    → ensure_children s worked b rows (get_repartition_requirement_status s ks) ≡ some cs → enforce_distribution_relationships rows masks cs ≡ enforced ds → Finished rows ks ds
children_finished s worked b rows masks ks cs ds e g = all_end rows ks ds (all_reached s worked b rows masks ks cs ds e g)

-- the same of a worked node's children
pub states_finished : (s : Settings) (f : Facts) (worked : Operator) (ts : Plans) (ds : List ChildState) → child_states s f (node worked ts) ≡ enforced ds
    → Finished f.rows (children_from 1 ts f.children) ds
unfolding child_states
states_finished s f worked ts ds = go (ensure_children s worked f.node f.rows (get_repartition_requirement_status s ks)) refl
  where
    ks : List Child
    ks = children_from 1 ts f.children

    go : (o : Option (List ChildState)) → ensure_children s worked f.node f.rows (get_repartition_requirement_status s ks) ≡ o → relate s f o ≡ enforced ds → Finished f.rows ks ds
    go none h g = absurd (cc)
    go (some cs) h g = children_finished s worked f.node f.rows f.masks ks cs ds h g
