-- A child's step ends in a state that is reached by its form's steps, with the child's number and need and no relationship exchange (`ensured_after`).
-- Assumes nothing.
use mathlib.Core.Path.{◌≡◌, refl, sym, subst}
use mathlib.Core.Bool.{Bool, true, false, cond, ◌&&◌}
use mathlib.Core.Option.{Option, none, some}
use mathlib.Core.List.{List}
use Prim.Native.Nat.{ℕ, ◌≤◌}
use native.Mathlib.Omega.{arith}
use lib.Dec.{eqb, ltb}
use Rattle.exchange.specs.declared.settings.Settings.{Settings}
use Rattle.exchange.specs.Trees.{Operator, Plan}
use Rattle.exchange.specs.Settings.{is_set}
use Rattle.exchange.specs.Operators.{is_single, is_keyed}
use Rattle.exchange.specs.Forms.{Form, plain_form, split_form, with_top}
use Rattle.exchange.specs.Facts.{NodeFacts, Row, row_of}
use Rattle.exchange.specs.States.{Child, ChildState, need_of, started_by, with_form, and_then}
use Rattle.exchange.specs.Status.{RepartitionRequirementStatus}
use Rattle.exchange.specs.Step.{split_plan, partitions, add_roundrobin, needs_hash_repartition, split_at_source, satisfy_distribution, ensure_child}
use Rattle.exchange.specs.Standings.{begun}
use Rattle.exchange.proofs.ReachedStates.{top_on, Reached, passed_into}
use Rattle.exchange.proofs.Reached.{reached_started, reached_split, reached_top}

-- what holds of every state that an outcome may be
module _ (P : ChildState → Type 0) where
  abbrev Of : Option ChildState → Type 0
  Of o = (c : ChildState) → o ≡ some c → P c

  of_some : (c : ChildState) → P c → Of (some c)
  of_some c p d e = let same : c ≡ d = cc in subst P same p

  of_cond : (t : Bool) (x y : Option ChildState) → Of x → Of y → Of (cond t x y)
  of_cond true x y p q = p
  of_cond false x y p q = q

  of_pass : (c : ChildState) (f : Form) (change : Row → Plan → Plan) (o : Option Row) → ((x : Row) → o ≡ some x → P (passed_into c f change x)) → Of (with_form c f change o)
  of_pass c f change none h = λ d e. absurd (cc)
  of_pass c f change (some x) h = of_some (passed_into c f change x) (h x refl)

  of_then : (o : Option ChildState) (f : ChildState → Option ChildState) → ((c : ChildState) → o ≡ some c → Of (f c)) → Of (and_then o f)
  of_then none f h = λ d e. absurd (cc)
  of_then (some c) f h = h c refl

module _ (rows : List Row) (k : Child) where
  -- a state with no relationship exchange
  pub record Fresh (c : ChildState) : Type 0 where
    pub number : c.number ≡ k.number
    pub need : c.need ≡ need_of k
    pub unrelated : c.form.relationship ≡ 0
    pub reached : Reached rows k.plan c

  -- and with none on top
  record Bare (c : ChildState) : Type 0 where
    fresh : Fresh c
    bare : c.form.top ≡ 0

  begun_bare : (x : Row) → row_of rows k.number plain_form ≡ some x → Bare (begun k x)
  begun_bare x e = record { fresh = record { number = refl; need = refl; unrelated = refl; reached = reached_started rows k x e }; bare = refl }

  split_bare : (x y : Row) → row_of rows k.number plain_form ≡ some x → row_of rows k.number split_form ≡ some y → Bare (passed_into (begun k x) split_form split_plan y)
  split_bare x y d e =
      record {
        fresh = record { number = refl; need = refl; unrelated = refl; reached = reached_split rows k.plan (begun k x) (reached_started rows k x d) y refl e };
        bare = refl;
      }

  module _ (c : ChildState) (p : Bare c) where
    plainly : c.form ≡ record { split = c.form.split; top = 0; relationship = 0 }
    plainly = let a = p.bare in let b = p.fresh.unrelated in λ j. record { split = c.form.split; top = a j; relationship = b j }

    abbrev topped_form : ℕ → ℕ → Form
    topped_form top r = record { split = c.form.split; top = top; relationship = r }

    top_fresh : (top : ℕ) (x : Row) → top ≤ 3 → eqb top 0 ≡ false → row_of rows c.number (with_top top c.form) ≡ some x → Fresh (passed_into c (with_top top c.form) (top_on top) x)
    top_fresh top x h z e =
        let q = p.fresh.unrelated in
        record {
          number = p.fresh.number;
          need = p.fresh.need;
          unrelated = q;
          reached =
              subst (λ (r : ℕ). Reached rows k.plan (passed_into c (topped_form top r) (top_on top) x)) (sym q)
              (reached_top rows k.plan c p.fresh.reached c.form.split p.fresh.reached.split plainly top x h z (subst (λ (r : ℕ). row_of rows c.number (topped_form top r) ≡ some x) q e));
        }

  module _ (s : Settings) (o : Operator) (b : NodeFacts) (t : RepartitionRequirementStatus) where
    satisfied_fresh : (c : ChildState) → Bare c → Of Fresh (satisfy_distribution s o b rows t c)
    satisfied_fresh c p =
        let stay = of_some Fresh c p.fresh in
        let put : (top : ℕ) → top ≤ 3 → eqb top 0 ≡ false → Of Fresh (with_form c (with_top top c.form) (top_on top) (row_of rows c.number (with_top top c.form))) =
        λ top h z. of_pass Fresh c (with_top top c.form) (top_on top) (row_of rows c.number (with_top top c.form)) (λ x e. top_fresh c p top x h z e) in
        of_cond Fresh (is_single c.need) _ _ (of_cond Fresh (ltb 1 (partitions c)) _ _ (put 1 (omega arith) refl) stay)
        (of_cond Fresh (is_keyed c.need) _ _ (of_cond Fresh (t.hash_necessary && needs_hash_repartition s o t c) _ _ (put 2 (omega arith) refl) stay)
        (of_cond Fresh (add_roundrobin s o b t) _ _ (of_cond Fresh (ltb (partitions c) s.target) _ _ (put 3 (omega arith) refl) stay) stay))

    begun_then : (r : Option Row) → row_of rows k.number plain_form ≡ r → Of Bare (and_then (started_by k r) (split_at_source s rows t))
    begun_then none e = λ d z. absurd (cc)
    begun_then (some x) e =
        of_cond Bare (is_set s.split && (t.roundrobin_beneficial_stats && is_set k.facts.splits)) _ _ (of_pass Bare (begun k x) split_form split_plan (row_of rows k.number split_form) (λ y f. split_bare x y e f))
        (of_some Bare (begun k x) (begun_bare x e))

pub ensured_after : (s : Settings) (o : Operator) (b : NodeFacts) (rows : List Row) (t : RepartitionRequirementStatus) (c : ChildState)
    → ensure_child s o b rows t ≡ some c → Fresh rows t.child c
unfolding ensure_child
ensured_after s o b rows t =
    of_then (Fresh rows t.child) (and_then (started_by t.child (row_of rows t.child.number plain_form)) (split_at_source s rows t)) (satisfy_distribution s o b rows t)
    (λ c e. satisfied_fresh rows t.child s o b t c (begun_then rows t.child s o b t (row_of rows t.child.number plain_form) refl c e))
