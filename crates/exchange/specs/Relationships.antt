-- The relationship rounds: while children are unsatisfied together, those that can be are given a keyed exchange.
-- Renders `enforce_distribution_relationships` of 000; document 01, "relationship rounds", refusal 11.
use Rattle.std.specs.Prelude.{ℕ, zero, suc, ◌+◌, ◌*◌, ◌/◌, ◌%◌, Bool, false, cond, not, ◌&&◌, ◌||◌, List, [], ◌∷◌, eqb, length}
use Rattle.std.proofs.Math.Option.{Option, some, none as nothing}
use Rattle.exchange.specs.Settings.{is_set}
use Rattle.exchange.specs.Forms.{with_relationship}
use Rattle.exchange.specs.Facts.{Row, unsatisfied_at}
use Rattle.exchange.specs.Operators.{is_keyed}
use Rattle.exchange.specs.States.{ChildState, pass, and_then}
use Rattle.exchange.specs.Step.{keyed_on}

-- a row is missing (refusal 9), a round changes nothing (11), or no child is left unsatisfied
pub data Enforced : Type 0 where
  row_missing : Enforced
  stuck : Enforced
  enforced : List ChildState → Enforced

-- `repartitioned_for_relationship`
abbrev pub is_given : ChildState → Bool
is_given c = is_set c.form.relationship

-- the set of children that were given one, as its own mask: bit n for child n+1
unfoldable pub given_set : List ChildState → ℕ
given_set [] = 0
given_set (c ∷ cs) = c.form.relationship + 2 * given_set cs

-- by a row, hashed into target partitions by exactly its keys
abbrev pub is_target_hash : Row → Bool
is_target_hash x = is_set x.athash && is_set x.exact

-- by the row of its form
abbrev pub already_target_hash : ChildState → Bool
already_target_hash c = is_target_hash c.row

-- a child that is asked is given one, unless it has it, its need is not keyed, or nothing would change
abbrev pub is_givable : ChildState → Bool
is_givable c = not (is_given c) && (is_keyed c.need && not (already_target_hash c))

-- the lowest bit of the mask is the first child's
unfoldable pub any_givable : ℕ → List ChildState → Bool
any_givable mask [] = false
any_givable mask (c ∷ cs) = (eqb (mask % 2) 1 && is_givable c) || any_givable (mask / 2) cs

-- go on with the children that a round leaves
abbrev pub next_round : Option (List ChildState) → (List ChildState → Enforced) → Enforced
next_round nothing go = row_missing
next_round (some cs) go = go cs

module _ (rows : List Row) where
  -- a keyed exchange whatever stands on top already
  --   keyed exchange       to      keyed exchange
  --     leaf                         keyed exchange
  --                                    leaf
  abbrev pub add_relationship_on_top : ChildState → Option ChildState
  add_relationship_on_top c = pass rows (with_relationship c.form) keyed_on c

  -- each child of the mask that can be is given one
  unfoldable pub round : ℕ → List ChildState → Option (List ChildState)
  round mask [] = some []
  round mask (c ∷ cs) =
      let rest = round (mask / 2) cs in
      and_then (cond (eqb (mask % 2) 1 && is_givable c) (add_relationship_on_top c) (some c)) (λ d. and_then rest (λ ds. some (d ∷ ds)))

  -- n more rounds may change something: each gives a child its exchange, and none has two
  unfoldable pub rounds : List ℕ → ℕ → List ChildState → Enforced
  rounds masks zero cs = cond (eqb (unsatisfied_at masks (given_set cs)) 0) (enforced cs) stuck
  rounds masks (suc n) cs =
      let mask = unsatisfied_at masks (given_set cs) in
      cond (eqb mask 0) (enforced cs)
      (cond (any_givable mask cs) (next_round (round mask cs) (λ ds. rounds masks n ds)) stuck)

  -- as many rounds as there are children are enough
  abbrev pub enforce_distribution_relationships : List ℕ → List ChildState → Enforced
  enforce_distribution_relationships masks cs = rounds masks (length cs) cs
