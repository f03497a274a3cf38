-- Whatever holds of each child after its own step, and stays when a relationship round gives it an exchange, holds of every child of an answer.
use Prim.Native.Nat.{ℕ, zero, suc, ◌/◌, ◌%◌}
use mathlib.Core.Path.{◌≡◌, refl}
use mathlib.Core.Bool.{Bool, true, false, cond, ◌&&◌}
use mathlib.Core.Option.{Option, some, none as nothing}
use mathlib.Core.List.{List, [], ◌∷◌, map}
use lib.Dec.{eqb}
use Rattle.exchange.specs.Trees.{Operator, Plan}
use Rattle.exchange.specs.declared.settings.Settings.{Settings}
use Rattle.exchange.specs.Forms.{Form}
use Rattle.exchange.specs.Facts.{NodeFacts, Row, row_of, unsatisfied_at}
use Rattle.exchange.specs.States.{Child, ChildState, with_form, pass, and_then, each_of}
use Rattle.exchange.specs.Status.{RepartitionRequirementStatus, status_of}
use Rattle.exchange.specs.Step.{ensure_child}
use Rattle.exchange.specs.Relationships.{Enforced, row_missing, stuck, enforced, is_givable, any_givable, given_set, add_relationship_on_top, round, next_round, rounds}
use Rattle.exchange.proofs.ReachedStates.{passed_into}
use Rattle.exchange.specs.Ensure.{Answer, Ensured, missing_row, unenforceable, answered}

-- P of what is there
abbrev pub Holds : {A : Type 0} → (A → Type 0) → Option A → Type 0
Holds P nothing = Unit {0}
Holds P (some a) = P a

abbrev pub HoldsEnforced : (List ChildState → Type 0) → Enforced → Type 0
HoldsEnforced P row_missing = Unit {0}
HoldsEnforced P stuck = Unit {0}
HoldsEnforced P (enforced cs) = P cs

abbrev pub HoldsEnsured : (Answer → Type 0) → Ensured → Type 0
HoldsEnsured P missing_row = Unit {0}
HoldsEnsured P unenforceable = Unit {0}
HoldsEnsured P (answered a) = P a

pub holds_then : {A B : Type 0} (P : A → Type 0) (Q : B → Type 0) (o : Option A) (f : A → Option B)
    → Holds P o → ((a : A) → P a → Holds Q (f a)) → Holds Q (and_then o f)
holds_then P Q nothing f h g = tt
holds_then P Q (some a) f h g = g a h

pub holds_cond : {A : Type 0} (P : A → Type 0) (b : Bool) (x y : Option A) → (b ≡ true → Holds P x) → (b ≡ false → Holds P y) → Holds P (cond b x y)
holds_cond P true x y h k = h refl
holds_cond P false x y h k = k refl

-- P of a child that passes into a form, by the row of that form
pub holds_pass : (P : ChildState → Type 0) (rows : List Row) (d : ChildState) (f : Form) (change : Row → Plan → Plan)
    → ((x : Row) → row_of rows d.number f ≡ some x → P (passed_into d f change x)) → Holds P (pass rows f change d)
holds_pass P rows d f change h = go (row_of rows d.number f) refl
  where
    go : (o : Option Row) → row_of rows d.number f ≡ o → Holds P (with_form d f change o)
    go nothing e = tt
    go (some x) e = h x e

-- P of each child and its state, in order
abbrev pub Alls : (Child → ChildState → Type 0) → List Child → List ChildState → Type 0
Alls P [] [] = Unit {0}
Alls P [] (d ∷ ds) = ⊥
Alls P (c ∷ cs) [] = ⊥
Alls P (c ∷ cs) (d ∷ ds) = P c d × Alls P cs ds

module _ (s : Settings) (worked : Operator) (b : NodeFacts) (rows : List Row) (P : Child → ChildState → Type 0) where
  -- the step of one child gives P
  abbrev pub Steps : Type 0
  Steps = (t : RepartitionRequirementStatus) → Holds (P t.child) (ensure_child s worked b rows t)

  -- an exchange that a round gives leaves P
  abbrev pub Relates : Type 0
  Relates = (c : Child) (d : ChildState) → is_givable d ≡ true → P c d → Holds (P c) (add_relationship_on_top rows d)

  -- the steps of these children give P
  abbrev pub EachSteps : Bool → List Child → Type 0
  EachSteps aligned [] = Unit {0}
  EachSteps aligned (c ∷ cs) = Holds (P c) (ensure_child s worked b rows (status_of s aligned c)) × EachSteps aligned cs

  pub each_steps : Steps → (aligned : Bool) (cs : List Child) → EachSteps aligned cs
  each_steps h aligned [] = tt
  each_steps h aligned (c ∷ cs) = (h (status_of s aligned c), each_steps h aligned cs)

  pub each_step : (aligned : Bool) (cs : List Child)
      → EachSteps aligned cs → Holds (Alls P cs) (each_of (ensure_child s worked b rows) (map (status_of s aligned) cs))
  unfolding each_of
  each_step aligned [] h = tt
  each_step aligned (c ∷ cs) h =
      holds_then (P c) (Alls P (c ∷ cs)) (ensure_child s worked b rows (status_of s aligned c)) _ h.0
      (λ d p. holds_then (Alls P cs) (Alls P (c ∷ cs)) (each_of (ensure_child s worked b rows) (map (status_of s aligned) cs)) _ (each_step aligned cs h.1)
      (λ ds ps. (p, ps)))

  pub each_round : Relates → (mask : ℕ) (cs : List Child) (ds : List ChildState) → Alls P cs ds → Holds (Alls P cs) (round rows mask ds)
  unfolding round
  each_round h mask [] [] ps = tt
  each_round h mask [] (d ∷ ds) ps = absurd ps
  each_round h mask (c ∷ cs) [] ps = absurd ps
  each_round h mask (c ∷ cs) (d ∷ ds) ps =
      holds_then (P c) (Alls P (c ∷ cs)) (cond (eqb (mask % 2) 1 && is_givable d) (add_relationship_on_top rows d) (some d)) _
      (holds_cond (P c) (eqb (mask % 2) 1 && is_givable d) (add_relationship_on_top rows d) (some d)
      (λ e. h c d (second (eqb (mask % 2) 1) (is_givable d) e) ps.0)
      (λ e. ps.0))
      (λ e p. holds_then (Alls P cs) (Alls P (c ∷ cs)) (round rows (mask / 2) ds) _ (each_round h (mask / 2) cs ds ps.1) (λ es qs. (p, qs)))
    where
      second : (x y : Bool) → (x && y) ≡ true → y ≡ true
      second true y e = e
      second false true e = refl
      second false false e = e

  pub all_rounds : Relates → (masks : List ℕ) (n : ℕ) (cs : List Child) (ds : List ChildState)
      → Alls P cs ds → HoldsEnforced (Alls P cs) (rounds rows masks n ds)
  unfolding rounds
  all_rounds h masks zero cs ds ps = go (eqb (unsatisfied_at masks (given_set ds)) 0)
    where
      go : (x : Bool) → HoldsEnforced (Alls P cs) (cond x (enforced ds) stuck)
      go true = ps
      go false = tt
  all_rounds h masks (suc n) cs ds ps =
      go (eqb (unsatisfied_at masks (given_set ds)) 0) (any_givable (unsatisfied_at masks (given_set ds)) ds)
      (round rows (unsatisfied_at masks (given_set ds)) ds) (each_round h (unsatisfied_at masks (given_set ds)) cs ds ps) (λ es qs. all_rounds h masks n cs es qs)
    where
      go : (x y : Bool) (o : Option (List ChildState)) → Holds (Alls P cs) o
          → ((es : List ChildState) → Alls P cs es → HoldsEnforced (Alls P cs) (rounds rows masks n es))
          → HoldsEnforced (Alls P cs) (cond x (enforced ds) (cond y (next_round o (λ es. rounds rows masks n es)) stuck))
      go true y o q k = ps
      go false true nothing q k = tt
      go false true (some es) q k = k es q
      go false false o q k = tt
