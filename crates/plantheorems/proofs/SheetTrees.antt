-- What demand 3's theorems ask of a tree, every sheet that was read has: ids from 1, one child under a merge, a coalesce and a repartition.
-- Assumes nothing.
use mathlib.Core.Path.{◌≡◌, refl, sym, subst}
use Prim.Native.Nat.{ℕ, zero, suc, ◌≤◌}
use native.Mathlib.Omega.{arith}
use mathlib.Core.List.{List, [], ◌∷◌}
use mathlib.Core.Bool.{true, false, cond, ◌||◌}
use lib.Dec.{eqb, leb}
use Rattle.std.proofs.lemmas.Bool.{and_right}
use borrow.Author.Tests.{eqb-true, ne_eqb, leb-true}
use Rattle.std.proofs.lemmas.Bool.{and_parts as both}
use Rattle.exchange.specs.Trees.{node, none, ◌∷ᶠ◌, trees, root, Operator, Plan, Plans}
use Rattle.exchange.specs.Facts.{ChildFacts}
use Rattle.exchange.specs.Sizes.{lines}
use Rattle.exchange.specs.Skeleton.{below, is_added_sort}
use Rattle.exchange.specs.Limits.{OwnsLimit, Owned, Owneds, is_dist_changing, OneBelow, OneBelows}
use Rattle.exchange.specs.States.{children_from}
use Rattle.exchange.specs.Partitioning.{worked_of, children_of, none_added}
use Rattle.sheet.specs.KeySheets.{sheet}
use Rattle.sheet.specs.Sizes.{Each}
use Rattle.plansheet.specs.PlanSheets.{PlanSheet, read_plan}
use Rattle.plantheorems.specs.Everywhere.{Every, Everys, places_from}
use Rattle.plantheorems.specs.LegalPlans.{LegalOperator, LegalPlan}
use Rattle.plantheorems.proofs.TreeRows.{every_gives, every_worked_on}
use Rattle.plantheorems.proofs.PlanSizes.{every_id}
use Rattle.plantheorems.proofs.PlanRoundTrip.{plan_read_legal}

-- ---- ids

places_from_lem : (m n k : ℕ) → m ≤ n → Each (λ i. m ≤ i) (places_from n k)
unfolding places_from
places_from_lem m n zero h = tt
places_from_lem m n (suc k) h = (h, places_from_lem m (suc n) k (omega arith))

abbrev pub Placed : Operator → ℕ → Type 0
Placed o n = 1 ≤ o.id

legal_placed : (x : PlanSheet) → LegalPlan x → Every Placed x.plan
legal_placed x l = every_id (λ i. 1 ≤ i) x.plan (subst (Each (λ i. 1 ≤ i)) (sym l.numbered) (places_from_lem 1 1 (lines x.plan) (omega arith)))

-- ---- whose limits they are

owns : (o : Operator) → 1 ≤ o.id → OwnsLimit o
owns o h e = ne_eqb o.id 0 (λ z. omega arith)

owned : (t : Plan) → Every Placed t → Owned t
owned = every_gives Placed Owned Owneds (λ o ts h k. (owns o h, k)) tt (λ t ts h k. (h, k))

-- ---- one child

one_at :
    (kind n : ℕ) → 1 ≤ kind → kind ≤ 4 → cond (eqb kind 5 || eqb kind 6) (eqb n 2) (cond (eqb kind 0 || eqb kind 9) (leb n 8) (eqb n 1)) ≡ true → n ≡ 1
one_at kind n low high e = eqb-true n 1 (rw (ne_eqb kind 5 (λ z. omega arith), ne_eqb kind 6 (λ z. omega arith), ne_eqb kind 0 (λ z. omega arith), ne_eqb kind 9 (λ z. omega arith)) at e)

suits_one : (o : Operator) (n : ℕ) → LegalOperator o n → is_dist_changing o ≡ true → n ≡ 1
suits_one o n l e =
    let p = both (leb 1 o.kind) (leb o.kind 4) e in
    one_at o.kind n (leb-true 1 o.kind p.0) (leb-true o.kind 4 p.1) l.children

one_below : (t : Plan) → Every LegalOperator t → OneBelow t
one_below = every_gives LegalOperator OneBelow OneBelows (λ o ts h k. (suits_one o (trees ts) h, k)) tt (λ t ts h k. (h, k))

-- ---- no sort on the sheet counts as one that was put in

root_placed : (t : Plan) → Every Placed t → is_added_sort (root t) ≡ false
root_placed (node o ts) h = and_right (eqb o.kind 11) (eqb o.id 0) (ne_eqb o.id 0 (λ z. omega (arith, h.0)))

none_added_lem : (n : ℕ) (ts : Plans) (fs : List ChildFacts) → Everys Placed ts → none_added (children_from n ts fs) ≡ true
unfolding children_from none_added
none_added_lem n none fs h = refl
none_added_lem n (t ∷ᶠ ts) [] h = rw (root_placed t h.0) (none_added_lem (suc n) ts [] h.1)
none_added_lem n (t ∷ᶠ ts) (f ∷ fs) h = rw (root_placed t h.0) (none_added_lem (suc n) ts fs h.1)

below_placed : (t : Plan) → Every Placed t → Everys Placed (below t)
below_placed (node o ts) h = h.1

-- ---- a sheet that was read

module _ (s : List ℕ) (x : PlanSheet) (e : read_plan s ≡ sheet x) where
  placed : Every Placed x.plan
  placed = legal_placed x (plan_read_legal s x e)

  pub read_owned : Owned x.plan
  read_owned = owned x.plan placed

  pub read_one_below : OneBelow x.plan
  read_one_below = one_below x.plan (plan_read_legal s x e).operators

  pub read_placed : Everys Placed (below (worked_of x.plan))
  read_placed = below_placed (worked_of x.plan) (every_worked_on Placed (λ m o n h. h) x.plan placed)

  pub read_none_added : none_added (children_of x.facts x.plan) ≡ true
  read_none_added = none_added_lem 1 (below (worked_of x.plan)) x.facts.children read_placed
