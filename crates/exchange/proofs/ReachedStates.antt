-- What a state of a child looks like on its way (`Reached`): its row is the row of its form, and its tree is made of the child's by the form's steps.
use Rattle.std.specs.Prelude.{ℕ, ◌≤◌, ◌≡◌, cond, List, eqb}
use Rattle.std.proofs.Math.Option.{Option, some, none as nothing}
use Rattle.exchange.specs.Trees.{Plan}
use Rattle.exchange.specs.Settings.{is_set}
use Rattle.exchange.specs.Forms.{Form, split_form}
use Rattle.exchange.specs.Facts.{Row, row_of}
use Rattle.exchange.specs.States.{ChildState, and_then}
use Rattle.exchange.specs.Step.{merge_on, keyed_on, roundrobin_on, split_plan}

abbrev pub with_row : Option Row → (Row → Plan → Plan) → Plan → Option Plan
with_row nothing change t = nothing
with_row (some x) change t = some (change x t)

-- a merge (1), a keyed exchange (2) or a round robin (3)
abbrev pub top_on : ℕ → Row → Plan → Plan
top_on top x t = cond (eqb top 1) (merge_on x t) (cond (eqb top 2) (keyed_on x t) (roundrobin_on x t))

-- each step with the row of its own form
module _ (rows : List Row) (number : ℕ) where
  abbrev pub split_by : ℕ → Plan → Option Plan
  split_by split t = cond (is_set split) (with_row (row_of rows number split_form) split_plan t) (some t)

  abbrev pub top_by : ℕ → ℕ → Plan → Option Plan
  top_by split top t = cond (eqb top 0) (some t) (with_row (row_of rows number (record { split = split; top = top; relationship = 0 })) (top_on top) t)

  abbrev pub relationship_by : Form → Plan → Option Plan
  relationship_by f t = cond (is_set f.relationship) (with_row (row_of rows number f) keyed_on t) (some t)

  -- the tree of a form: split, then top, then relationship
  abbrev pub plan_of : Form → Plan → Option Plan
  plan_of f t = and_then (split_by f.split t) (λ u. and_then (top_by f.split f.top u) (relationship_by f))

pub record Reached (rows : List Row) (base : Plan) (c : ChildState) : Type 0 where
  pub split : c.form.split ≤ 1
  pub top : c.form.top ≤ 3
  pub relationship : c.form.relationship ≤ 1
  pub row : row_of rows c.number c.form ≡ some c.row
  pub plan : plan_of rows c.number c.form base ≡ some c.plan

-- the child passed into a form, given its row
abbrev pub passed_into : ChildState → Form → (Row → Plan → Plan) → Row → ChildState
passed_into c f change x = record { number = c.number; facts = c.facts; need = c.need; form = f; row = x; plan = change x c.plan }
