-- Beyond demand 3: the set of the children that the rounds gave an exchange, as the answer shows it, is one for which Y is 0.
use Prim.Native.Nat.{ℕ, ◌+◌, ◌*◌, ◌/◌, ◌%◌, ◌≤◌}
use mathlib.Core.Path.{◌≡◌, refl}
use mathlib.Core.Bool.{Bool, true, false, cond}
use mathlib.Core.List.{List, [], ◌∷◌}
use lib.ListN.{length}
use lib.Dec.{eqb}
use native.Mathlib.Omega.{arith}
use borrow.Author.Tests.{eqb-true, eq-eqb}
use Rattle.keys.proofs.Truths.{and_first, and_second}
use Rattle.exchange.specs.Trees.{node, none, ◌∷ᶠ◌, root, Operator, Plan}
use Rattle.exchange.specs.Forms.{Form}
use Rattle.exchange.specs.Facts.{unsatisfied_at}
use Rattle.exchange.specs.Children.{is_leaf, update_each, update_children, is_removed, remove_dist_changing_operators}
use Rattle.exchange.specs.States.{Child, ChildState, children_from}
use Rattle.exchange.specs.Relationships.{given_set}
use Rattle.exchange.specs.Ensure.{Answer, handled, finished}
use Rattle.exchange.specs.Fit.{within_bits, all_within_bits, none_repeated, rows_fit, worked_fits, facts_fit}
use Rattle.exchange.specs.Skeleton.{below}
use Rattle.exchange.specs.Partitioning.{worked_of, children_of}
use Rattle.exchange.proofs.Passing.{Alls}
use Rattle.plansheet.specs.PlanSheets.{PlanSheet}
use Rattle.guarantee.specs.Together.{Shows, ShowSet, Together}
use Rattle.guarantee.proofs.Tops.{tops_handled}
use Rattle.guarantee.proofs.ChildForms.{form_tops, Formed}
use Rattle.guarantee.proofs.ChildNeeds.{topmost_given}
use Rattle.guarantee.proofs.PlanAnswered.{Answered, only, over}

-- ---- one child

tops_few : (f : Form) → f.relationship ≡ 0 → length (form_tops f) ≤ 1
tops_few f e = rw e (go (eqb f.top 0))
  where
    go : (b : Bool) → length (cond b [] (f.top ∷ [])) ≤ 1
    go true = omega arith
    go false = omega arith

form_shows : (f : Form) → Shows f.relationship (form_tops f)
form_shows f = record { given = λ e. topmost_given f (eq-eqb f.relationship 1 e); not_given = λ e. tops_few f e }

low_bit : (b n : ℕ) → b ≤ 1 → (b + 2 * n) % 2 ≡ b
low_bit b n h = omega arith

high_bits : (b n : ℕ) → b ≤ 1 → (b + 2 * n) / 2 ≡ n
high_bits b n h = omega arith

-- ---- all of them

module _ (x : PlanSheet) (w : Operator) (n : ℕ) where
  set_shown : (ks : List Child) (ds : List ChildState) → Alls (Formed x.settings w x.facts.node x.facts.rows) ks ds
      → ShowSet (given_set ds) (handled x.settings x.facts w n ds)
  unfolding given_set handled
  set_shown [] [] h = refl
  set_shown [] (d ∷ ds) h = absurd h
  set_shown (k ∷ ks) [] h = absurd h
  set_shown (k ∷ ks) (d ∷ ds) h = (
    rw (low_bit d.form.relationship (given_set ds) h.0.bit, tops_handled x.settings x.facts.node w n d, h.0.tops) (form_shows d.form),
    rw (high_bits d.form.relationship (given_set ds) h.0.bit) (set_shown ks ds h.1),
  )

-- ---- an only line: no children, and no bit of its mask

first_within : (ms : List ℕ) → all_within_bits 0 ms ≡ true → unsatisfied_at ms 0 ≡ 0
unfolding within_bits all_within_bits
first_within [] h = refl
first_within (m ∷ ms) h = eqb-true m 0 (and_first (eqb m 0) (all_within_bits 0 ms) h)

only_together : (x : PlanSheet) (t : Plan) → is_leaf (below t) ≡ true → facts_fit x.settings x.facts t ≡ true → Together x (update_children t)
unfolding facts_fit remove_dist_changing_operators update_each children_from
only_together x (node o none) l fit = record { set = 0; shown = refl; satisfied = first_within x.facts.masks (by (is_removed o) fit) }
  where
    by : (b : Bool) → worked_fits x.settings x.facts (cond b (node o none) (node o none)) ≡ true → all_within_bits 0 x.facts.masks ≡ true
    by true h = and_second (rows_fit x.settings [] x.facts.rows) _ (and_second (none_repeated x.facts.rows) _ h)
    by false h = and_second (rows_fit x.settings [] x.facts.rows) _ (and_second (none_repeated x.facts.rows) _ h)
only_together x (node o (t ∷ᶠ ts)) l fit = absurd (cc)

pub plan_together : (x : PlanSheet) (r : Answer) → facts_fit x.settings x.facts x.plan ≡ true → Answered x r → Together x r.plan
unfolding finished
plan_together x r fit (only l h) = rw h (only_together x x.plan l fit)
plan_together x r fit (over l w) =
    rw w.is
    (record {
      set = given_set w.states;
      shown = set_shown x (root (worked_of x.plan)) (length w.states) (children_of x.facts x.plan) w.states w.formed;
      satisfied = w.satisfied;
    })
