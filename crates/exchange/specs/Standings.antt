-- The worked node and a child on its way, by their numbers, and a step's answer as a form.
-- Renders the loop over the children in `ensure_distribution` of 000.
use Rattle.std.specs.Prelude.{ℕ, suc, ◌≡◌, List, [], ◌∷◌, map, get_or, ⊤, Option as Answer, Some, None}
use Rattle.std.proofs.Math.Option.{Option, some, none as nothing}
use Rattle.exchange.specs.declared.status.Asked.{Asked}
use Rattle.exchange.specs.declared.status.RepartitionRequirementStatus.{RepartitionRequirementStatus as Told}
use Rattle.exchange.specs.Status.{RepartitionRequirementStatus}
use Rattle.exchange.specs.declared.partitioning.Worked.{Worked}
use Rattle.exchange.specs.declared.partitioning.Standing.{Standing}
use Rattle.exchange.specs.Trees.{node, none, Operator, Plan}
use Rattle.exchange.specs.Forms.{Form, form_number, form_of, plain_form}
use Rattle.exchange.specs.Facts.{NodeFacts, Row}
use Rattle.exchange.specs.States.{Child, ChildState, need_of, count_of, pass}
use Rattle.exchange.specs.FactRows.{node_facts, child_facts, fact_row, operator_by}

abbrev pub worked_for : Worked → Operator
worked_for w = operator_by w.kind 0 0

abbrev pub node_for : Worked → NodeFacts
node_for w = node_facts w.facts

-- a child on its way of those numbers, a leaf
abbrev pub state_for : ℕ → Asked → Standing → ChildState
state_for n a c =
    record {
      number = n;
      facts = child_facts a.facts;
      need = a.need;
      form = form_of c.form;
      row = fact_row c.row;
      plan = node (operator_by 0 c.count a.need) none;
    }

-- the status of a child that a struct stands for
abbrev pub status_by : Child → Told → RepartitionRequirementStatus
status_by k t = record {
  child = k;
  roundrobin_beneficial = t.roundrobin_beneficial;
  roundrobin_beneficial_stats = t.roundrobin_beneficial_stats;
  hash_necessary = t.hash_necessary;
}

-- a child in the form of that number, by the row at a place: its count is the row's
abbrev pub standing_at : List (List ℕ) → ℕ → Option ℕ → Answer Standing
standing_at xs form nothing = None
standing_at xs form (some p) = Some (record { form = form; count = get_or (get_or xs p []) 2 0; row = get_or xs p [] })

-- the form that a step leaves
abbrev pub formed : Option ChildState → Answer ℕ
formed nothing = None
formed (some c) = Some (form_number c.form)

-- the form of that number, where its row is there
abbrev pub form_by : ℕ → Option Row → Answer ℕ
form_by n nothing = None
form_by n (some x) = Some n

-- what passing into the form of that number leaves, of any child with the number
abbrev pub Passed : ℕ → ℕ → List Row → Answer ℕ → Type 0
Passed child number rows r =
    (c : ChildState) (f : Form) (change : Row → Plan → Plan) → c.number ≡ child → form_number f ≡ number → r ≡ formed (pass rows f change c)

-- a child as its step begins, with the row of form 0
abbrev pub begun : Child → Row → ChildState
begun k x = record { number = k.number; facts = k.facts; need = need_of k; form = plain_form; row = x; plan = k.plan }

-- a worked node of those numbers
pub record SameNode (w : Worked) (o : Operator) (b : NodeFacts) : Type 0 where
  pub kind : o.kind ≡ w.kind
  pub facts : b ≡ node_facts w.facts

-- the child at a place, of those numbers
pub record SameChild (n : ℕ) (a : Asked) (k : Child) : Type 0 where
  pub number : k.number ≡ n
  pub need : need_of k ≡ a.need
  pub count : count_of k ≡ a.count
  pub facts : k.facts ≡ child_facts a.facts

-- the children from a place on: each has the numbers at its place
pub data SameChildren : ℕ → List Asked → List Child → Type 0 where
  done : {n : ℕ} → SameChildren n [] []
  also : {n : ℕ} {a : Asked} {asks : List Asked} {k : Child} {ks : List Child} → SameChild n a k → SameChildren (suc n) asks ks
      → SameChildren n (a ∷ asks) (k ∷ ks)

abbrev pub no_child : Asked
no_child = record { need = 0; count = 0; facts = [] }

abbrev pub asked_needs : List Asked → List ℕ
asked_needs asks = map (λ a. a.need) asks

-- ---- the forms of all children, none where a row is missing

abbrev pub form_numbers : List ChildState → List ℕ
form_numbers cs = map (λ c. form_number c.form) cs

abbrev pub form_list : Option (List ChildState) → Option (List ℕ)
form_list nothing = nothing
form_list (some cs) = some (form_numbers cs)

abbrev pub resulting : Answer ⊤ → List ℕ → Option (List ℕ)
resulting (Some _) fs = some fs
resulting None fs = nothing

abbrev pub with_forms : Answer ℕ → Option (List ℕ) → Option (List ℕ)
with_forms None rest = nothing
with_forms (Some n) nothing = nothing
with_forms (Some n) (some ns) = some (n ∷ ns)

unfoldable pub each_form : {A : Type 0} → (A → Answer ℕ) → List A → Option (List ℕ)
each_form f [] = some []
each_form f (x ∷ xs) = with_forms (f x) (each_form f xs)
