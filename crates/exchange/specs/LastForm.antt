-- A child in its last form, with the tree that the form makes of it and the order handling of that.
-- Renders the end of `ensure_distribution` of 000, of one child.
use Rattle.std.specs.Prelude.{ℕ, ◌+◌, ◌-◌, ◌≤◌, ◌<◌, List, [], length, get_or}
use Rattle.exchange.specs.Trees.{none, ◌∷ᶠ◌, root, Operator, Plan, Plans}
use Rattle.exchange.specs.declared.settings.Settings.{Settings}
use Rattle.exchange.specs.declared.order.Known.{Known}
use Rattle.exchange.specs.Forms.{Form, form_of}
use Rattle.exchange.specs.Facts.{NodeFacts, ChildFacts, Row}
use Rattle.exchange.specs.FactRows.{child_facts}
use Rattle.exchange.specs.States.{ChildState}
use Rattle.exchange.specs.Built.{row_in, built}
use Rattle.exchange.specs.Order.{handle_order}

module _ (rows : List Row) (child : ℕ) (f : Form) (need : ℕ) (facts : ChildFacts) where
  abbrev pub in_form : Plan → ChildState
  in_form t = record { number = child; facts = facts; need = need; form = f; row = row_in rows child f; plan = built rows child f t }

  module _ (s : Settings) (b : NodeFacts) (worked : Operator) (children : ℕ) where
    unfoldable pub finished_child : Plan → Plan
    finished_child t = handle_order s b worked children (in_form t)

-- what is known of a child, by its numbers
abbrev pub known_by : Settings → NodeFacts → ℕ → ℕ → ℕ → ℕ → ChildFacts → Row → Known
known_by s b kind children need tracked facts x = record {
  sort = s.sort;
  friendly = b.friendly;
  kind = kind;
  children = children;
  need = need;
  tracked = tracked;
  maintains = facts.maintains;
  entries = facts.entries;
  met = x.met;
  aftermet = x.aftermet;
  constants = x.const;
  ford = x.ford;
  fplain = x.fplain;
}

-- the children from a number on, each by its form and its F row
module _ (rows : List Row) (forms : List ℕ) (facts : List (List ℕ)) (s : Settings) (b : NodeFacts) (worked : Operator) (children : ℕ) where
  unfoldable pub finished_each : ℕ → Plans → Plans
  finished_each child none = none
  finished_each child (t ∷ᶠ ts) =
      finished_child rows child (form_of (get_or forms (child - 1) 0)) (root t).need (child_facts (get_or facts (child - 1) [])) s b worked children t
      ∷ᶠ finished_each (child + 1) ts

-- what finishing children asks of their forms and F rows and of a room: children from a number on, at most 8, each with an F row,
-- forms and entries within their bounds, and a room for the largest of the children
pub record EachFinished (forms : List ℕ) (facts : List (List ℕ)) (child left src mid : ℕ) : Type 0 where
  pub first : 1 ≤ child
  pub last : child + left ≤ length forms + 1
  pub most : length forms ≤ 8
  pub small : (k : ℕ) → k < length forms → get_or forms k 0 ≤ 15
  pub told : length forms ≤ length facts
  pub few : (k : ℕ) → k < length facts → (child_facts (get_or facts k [])).entries ≤ 8
  pub roomy : src + 2 ≤ mid
