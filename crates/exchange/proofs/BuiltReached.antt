-- The tree that is reached by a form's steps is the one built of its rows (`plan_built`): where every row is there, none is taken as zeros.
-- Assumes nothing.
use Prim.Native.Nat.{ℕ}
use mathlib.Core.Path.{◌≡◌, refl, sym, ap, ◌∙◌}
use mathlib.Core.Bool.{Bool, true, false, cond}
use mathlib.Core.Option.{Option, none, some}
use mathlib.Core.List.{List}
use lib.Dec.{eqb}
use Rattle.exchange.specs.Trees.{node, root, Operator, Plan, Plans}
use Rattle.exchange.specs.Settings.{is_set}
use Rattle.exchange.specs.Forms.{Form, split_form}
use Rattle.exchange.specs.Facts.{Row, row_of}
use Rattle.exchange.specs.Operators.{above, new_merge, new_exchange}
use Rattle.exchange.specs.States.{ChildState, and_then}
use Rattle.exchange.specs.Step.{merge_on, keyed_on, roundrobin_on, split_operator, split_plan}
use Rattle.exchange.proofs.ReachedStates.{with_row, split_by, top_by, relationship_by, plan_of, Reached}
use Rattle.exchange.specs.Built.{or_blank, row_in, before_relationship, built_root, built_top, under_relationship, built_relationship, topped, related, built}

module _ (rows : List Row) (number : ℕ) (f : Form) where
  -- the root, split or not
  split_built : (o : Operator) (ts : Plans) (u : Plan) → split_by rows number f.split (node o ts) ≡ some u → u ≡ node (built_root rows number f o) ts
  unfolding built_root row_in
  split_built o ts u = go (is_set f.split) (row_of rows number split_form)
    where
      go : (b : Bool) (r : Option Row) → cond b (with_row r split_plan (node o ts)) (some (node o ts)) ≡ some u → u ≡ node (cond b (split_operator (or_blank r) o) o) ts
      go true none e = absurd (cc)
      go true (some x) e = cc
      go false r e = cc

  -- the merge or the exchange on top, if any
  top_built : (t u : Plan) → top_by rows number f.split f.top t ≡ some u → u ≡ topped rows number f t
  unfolding built_top row_in
  top_built t u = go (eqb f.top 0) (eqb f.top 1) (eqb f.top 2) (row_of rows number (before_relationship f))
    where
      go : (a b c : Bool) (r : Option Row) → cond a (some t) (with_row r (λ x v. cond b (merge_on x v) (cond c (keyed_on x v) (roundrobin_on x v))) t) ≡ some u
          → u ≡ cond a t (above (cond b (new_merge (or_blank r) (root t)) (new_exchange (cond c 12 13) (or_blank r) (root t))) t)
      go true b c r e = cc
      go false b c none e = absurd (cc)
      go false true c (some x) e = cc
      go false false true (some x) e = cc
      go false false false (some x) e = cc

  -- what stands topmost then
  root_topped : (t : Plan) → root (topped rows number f t) ≡ under_relationship rows number f (root t)
  unfolding under_relationship
  root_topped t = go (eqb f.top 0)
    where
      go : (a : Bool) → root (cond a t (above (built_top rows number f (root t)) t)) ≡ cond a (root t) (built_top rows number f (root t))
      go true = refl
      go false = refl

  -- the exchange of a relationship round, if any
  relationship_built : (t u : Plan) → relationship_by rows number f (topped rows number f t) ≡ some u → u ≡ related rows number f t
  unfolding built_relationship row_in
  relationship_built t u = go (is_set f.relationship) (row_of rows number f)
    where
      go : (b : Bool) (r : Option Row) → cond b (with_row r keyed_on (topped rows number f t)) (some (topped rows number f t)) ≡ some u
          → u ≡ cond b (above (new_exchange 12 (or_blank r) (under_relationship rows number f (root t))) (topped rows number f t)) (topped rows number f t)
      go true none e = absurd (cc)
      go true (some x) e = (cc) ∙ ap (λ (o : Operator). above (new_exchange 12 x o) (topped rows number f t)) (root_topped t)
      go false r e = cc

  pub plan_built : (base u : Plan) → plan_of rows number f base ≡ some u → u ≡ built rows number f base
  unfolding built
  plan_built (node o ts) u = go (split_by rows number f.split (node o ts)) (split_built o ts)
    where
      finish : (t : Plan) (r : Option Plan) → ((v : Plan) → r ≡ some v → v ≡ topped rows number f t) → and_then r (relationship_by rows number f) ≡ some u → u ≡ related rows number f t
      finish t none h e = absurd (cc)
      finish t (some v) h e = relationship_built t u (ap (relationship_by rows number f) (sym (h v refl)) ∙ e)

      go : (r : Option Plan) → ((v : Plan) → r ≡ some v → v ≡ node (built_root rows number f o) ts)
          → and_then r (λ t. and_then (top_by rows number f.split f.top t) (relationship_by rows number f)) ≡ some u → u ≡ related rows number f (node (built_root rows number f o) ts)
      go none h e = absurd (cc)
      go (some t) h e =
          finish t (top_by rows number f.split f.top t) (top_built t) e ∙ ap (related rows number f) (h t refl)

pub reached_built : (rows : List Row) (base : Plan) (c : ChildState) → Reached rows base c → c.plan ≡ built rows c.number c.form base
reached_built rows base c r = plan_built rows c.number c.form base c.plan r.plan
