-- Demand 3, "Each child of the worked node has the partitioning it needs", as document 01 measures it: "Measured beneath new sorts,
-- a single need is had by at most one partition; a keyed one by that, by a new exchange on its keys, or by the row of its last form:
-- its `exact`, or `subset` where the step allows subsets".
use Rattle.std.specs.Prelude.{ℕ, ◌≡◌, Bool, true, false, cond, ◌&&◌, ◌||◌, List, [], ◌∷◌, ◌++◌, eqb, leb}
use Rattle.std.proofs.Math.Option.{Option, some, none as nothing}
use Rattle.exchange.specs.Trees.{node, none, ◌∷ᶠ◌, root, Plan, Plans}
use Rattle.exchange.specs.Settings.{is_set}
use Rattle.exchange.specs.Forms.{Form}
use Rattle.exchange.specs.Facts.{Row, row_of}
use Rattle.exchange.specs.Operators.{is_single, is_keyed, mark}
use Rattle.exchange.specs.States.{Child, children_from, need_of}
use Rattle.exchange.specs.Step.{allow_subset_satisfy_partitioning}
use Rattle.exchange.specs.Skeleton.{below}
use Rattle.exchange.specs.Partitioning.{is_new_keyed, beneath_sorts, is_split}
use Rattle.plansheet.specs.PlanSheets.{PlanSheet}
use Rattle.guarantee.specs.Operators.{worked}

-- the worked node's children on the sheet, each with its number and its F line
abbrev pub children : PlanSheet → List Child
children x = children_from 1 (below (worked x)) x.facts.children

-- ---- the form that an answer shows

-- a form's top: 1 a merge, 2 a keyed exchange, 3 a round robin; a sort has none
abbrev pub top_code : ℕ → List ℕ
top_code kind = cond (eqb kind 11) [] (cond (eqb kind 12) 2 (cond (eqb kind 13) 3 1) ∷ [])

-- the tops of what is new (id 0) above a child's own operator, the topmost first
unfoldable mutual
  pub new_on_top : Plan → List ℕ
  new_on_top (node o ts) = cond (eqb o.id 0) (top_code o.kind ++ new_on_first ts) []

  pub new_on_first : Plans → List ℕ
  new_on_first none = []
  new_on_first (t ∷ᶠ ts) = new_on_top t

abbrev pub topmost : List ℕ → ℕ
topmost [] = 0
topmost (k ∷ ks) = k

module _ (x : PlanSheet) (c : Child) where
  -- the last form of a child that has no relationship exchange
  abbrev pub last_form : Plan → Form
  last_form u = record { split = mark (is_split x.settings c); top = topmost (new_on_top u); relationship = 0 }

  -- a row's answer to the keyed need
  abbrev pub says : Option Row → Bool
  says nothing = false
  says (some r) = is_set (cond (allow_subset_satisfy_partitioning x.settings (root (worked x)) c) r.subset r.exact)

  -- ---- what is had by the tree u that the answer has for the child

  abbrev pub single_had : Plan → Bool
  single_had u = leb (beneath_sorts u).count 1

  abbrev pub keyed_had : Plan → Bool
  keyed_had u = single_had u || (is_new_keyed (beneath_sorts u) || says (row_of x.facts.rows c.number (last_form u)))

  abbrev pub need_had : Plan → Bool
  need_had u = cond (is_single (need_of c)) (single_had u) (cond (is_keyed (need_of c)) (keyed_had u) true)

-- each child in turn
unfoldable pub needs_had : PlanSheet → List Child → Plans → Bool
needs_had x [] none = true
needs_had x [] (u ∷ᶠ us) = false
needs_had x (c ∷ cs) none = false
needs_had x (c ∷ cs) (u ∷ᶠ us) = need_had x c u && needs_had x cs us

-- the trees under the answer's root have what the children need
abbrev pub PartitioningHad : PlanSheet → Plan → Type 0
PartitioningHad x after = needs_had x (children x) (below after) ≡ true
