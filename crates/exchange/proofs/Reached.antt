-- Each step keeps what a state looks like (`Reached`): its row is found by its new form, and its tree is the old one with one step more.
-- Assumes nothing.
use mathlib.Core.Path.{◌≡◌, refl, sym, ap, ◌∙◌}
use mathlib.Core.Bool.{Bool, true, false, cond}
use mathlib.Core.Option.{Option, none, some}
use mathlib.Core.List.{List}
use Prim.Native.Nat.{ℕ, ◌≤◌}
use native.Mathlib.Omega.{arith}
use lib.Dec.{eqb}
use Rattle.exchange.specs.Trees.{node, root, Plan}
use Rattle.exchange.specs.Forms.{Form, plain_form, split_form}
use Rattle.exchange.specs.Facts.{Row, row_of}
use Rattle.exchange.specs.States.{Child, ChildState, count_of, and_then}
use Rattle.exchange.specs.Step.{merge_on, keyed_on, roundrobin_on, split_plan, partitions}
use Rattle.exchange.specs.Standings.{begun}
use Rattle.exchange.proofs.ReachedStates.{with_row, top_on, split_by, top_by, plan_of, Reached, passed_into}

pub reached_started : (rows : List Row) (k : Child) (x : Row) → row_of rows k.number plain_form ≡ some x → Reached rows k.plan (begun k x)
reached_started rows k x e = record { split = omega arith; top = omega arith; relationship = omega arith; row = e; plan = refl }

-- a split, a merge, a keyed exchange, a round robin: the child has no exchange on top before
module _ (rows : List Row) (base : Plan) (c : ChildState) (r : Reached rows base c) where
  pub reached_split : (x : Row) → c.form ≡ plain_form → row_of rows c.number split_form ≡ some x → Reached rows base (passed_into c split_form split_plan x)
  reached_split x p e =
      let stands : some base ≡ some c.plan = ap (λ (f : Form). plan_of rows c.number f base) (sym p) ∙ r.plan in
      let same : base ≡ c.plan = cc in
      record { split = omega arith; top = omega arith; relationship = omega arith; row = e; plan = rw e (ap (λ (t : Plan). some (split_plan x t)) same) }

  split_only : (o : Option Plan) (p : Plan) → and_then o (λ u. some u) ≡ some p → o ≡ some p
  split_only none p e = e
  split_only (some u) p e = e

  module _ (s : ℕ) (small : s ≤ 1) (p : c.form ≡ record { split = s; top = 0; relationship = 0 }) where
    untopped : split_by rows c.number s base ≡ some c.plan
    untopped =
        split_only (split_by rows c.number s base) c.plan (ap (λ (f : Form). plan_of rows c.number f base) (sym p) ∙ r.plan)

    pub reached_top : (top : ℕ) (x : Row) → top ≤ 3 → eqb top 0 ≡ false → row_of rows c.number (record { split = s; top = top; relationship = 0 }) ≡ some x
        → Reached rows base (passed_into c (record { split = s; top = top; relationship = 0 }) (top_on top) x)
    reached_top top x h z e = record { split = small; top = h; relationship = omega arith; row = e; plan = rw (untopped, z, e) }

  -- a relationship exchange
  related : (x : Row) (a : Option Plan) (b : Plan → Option Plan) → and_then a (λ u. and_then (b u) (λ v. some v)) ≡ some c.plan
      → and_then a (λ u. and_then (b u) (λ v. some (keyed_on x v))) ≡ some (keyed_on x c.plan)
  related x none b e = absurd (cc)
  related x (some u) b e = go (b u) e
    where
      go : (o : Option Plan) → and_then o (λ v. some v) ≡ some c.plan → and_then o (λ v. some (keyed_on x v)) ≡ some (keyed_on x c.plan)
      go none e = absurd (cc)
      go (some v) e = let same : v ≡ c.plan = cc in ap (λ (t : Plan). some (keyed_on x t)) same

  module _ (s t : ℕ) (small : s ≤ 1) (few : t ≤ 3) (p : c.form ≡ record { split = s; top = t; relationship = 0 }) where
    pub reached_related : (x : Row) → row_of rows c.number (record { split = s; top = t; relationship = 1 }) ≡ some x
        → Reached rows base (passed_into c (record { split = s; top = t; relationship = 1 }) keyed_on x)
    reached_related x e =
        record {
          split = small;
          top = few;
          relationship = omega arith;
          row = e;
          plan = ap (λ (o : Option Row). and_then (split_by rows c.number s base) (λ u. and_then (top_by rows c.number s t u) (λ v. with_row o keyed_on v))) e ∙ related x (split_by rows c.number s base) (top_by rows c.number s t) (ap (λ (f : Form). plan_of rows c.number f base) (sym p) ∙ r.plan);
        }

-- ---- the count: the row's after a step, the child's own before any

pub count_begun : (k : Child) (x : Row) → partitions (begun k x) ≡ count_of k
count_begun k x = refl

pub count_split : (c : ChildState) (x : Row) → partitions (passed_into c split_form split_plan x) ≡ x.count
count_split c x = go c.plan
  where
    go : (t : Plan) → (root (split_plan x t)).count ≡ x.count
    go (node o ts) = refl

pub count_top : (c : ChildState) (f : Form) (top : ℕ) (x : Row) → partitions (passed_into c f (top_on top) x) ≡ x.count
count_top c f top x = go (eqb top 1) (eqb top 2)
  where
    go : (a b : Bool) → (root (cond a (merge_on x c.plan) (cond b (keyed_on x c.plan) (roundrobin_on x c.plan)))).count ≡ x.count
    go true b = refl
    go false true = refl
    go false false = refl

pub count_related : (c : ChildState) (f : Form) (x : Row) → partitions (passed_into c f keyed_on x) ≡ x.count
count_related c f x = refl
