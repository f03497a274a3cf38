-- The relationship rounds by the children's numbers: a child's turn in a round is its number, its need, its form and its bit of the mask.
-- Renders `enforce_distribution_relationships` of 000.
use Rattle.std.specs.Prelude.{ℕ, zero, suc, ◌+◌, ◌*◌, ◌/◌, ◌%◌, ◌≤◌, ◌≡◌, Bool, true, false, cond, not, ◌&&◌, ◌||◌, List, [], ◌∷◌, eqb, ⊤, Option as Answer, Some, Result, Ok, Err}
use Rattle.std.proofs.Math.Option.{Option, some, none as nothing}
use Rattle.exchange.specs.declared.relationship.Turn.{Turn}
use Rattle.exchange.specs.declared.relationship.Unenforced.{Unenforced}
use Rattle.exchange.specs.declared.relationship.Unenforced.TheVariants.{Stuck, Missing}
use Rattle.exchange.specs.Settings.{is_set}
use Rattle.exchange.specs.Forms.{form_number, form_of, with_relationship}
use Rattle.exchange.specs.Facts.{Row, row_of, unsatisfied_at}
use Rattle.exchange.specs.Operators.{is_keyed}
use Rattle.exchange.specs.States.{ChildState}
use Rattle.exchange.specs.Relationships.{Enforced as Outcome, row_missing, stuck, enforced, is_target_hash}
use Rattle.exchange.specs.Standings.{form_by, form_numbers, each_form}

-- `already_target_hash` of the row; a child on its way has its row
abbrev pub row_already : Option Row → Bool
row_already nothing = true
row_already (some x) = is_target_hash x

module _ (rows : List Row) where
  abbrev pub turn_givable : Turn → Bool
  turn_givable x =
      eqb x.bit 1
      && (not (is_set (form_of x.form).relationship) && (is_keyed x.need && not (row_already (row_of rows x.number (form_of x.form)))))

  -- the form after the turn
  abbrev pub turn_form : Turn → Answer ℕ
  turn_form x =
      cond (turn_givable x) (form_by (form_number (with_relationship (form_of x.form))) (row_of rows x.number (with_relationship (form_of x.form)))) (Some x.form)

  unfoldable pub any_turn : List Turn → Bool
  any_turn [] = false
  any_turn (x ∷ xs) = turn_givable x || any_turn xs

-- the turns of a round, the lowest bit of the mask for the first
unfoldable pub turns_by : ℕ → ℕ → List ℕ → List ℕ → List Turn
turns_by n mask [] forms = []
turns_by n mask (need ∷ needs) [] = []
turns_by n mask (need ∷ needs) (f ∷ forms) = record { number = n; need = need; form = f; bit = mask % 2 } ∷ turns_by (suc n) (mask / 2) needs forms

-- the set of the forms with a relationship exchange
unfoldable pub set_of : List ℕ → ℕ
set_of [] = 0
set_of (f ∷ fs) = (form_of f).relationship + 2 * set_of fs

-- states that have these needs and forms, each with the row of its form
pub data Stand (rows : List Row) : ℕ → List ℕ → List ℕ → List ChildState → Type 0 where
  nobody : {n : ℕ} → Stand rows n [] [] []
  next : {n need f : ℕ} {needs forms : List ℕ} {c : ChildState} {cs : List ChildState} → c.number ≡ n → c.need ≡ need → c.form ≡ form_of f → f ≤ 15
      → row_of rows n (form_of f) ≡ some c.row → Stand rows (suc n) needs forms cs → Stand rows n (need ∷ needs) (f ∷ forms) (c ∷ cs)

-- ---- the rounds, as forms

-- a row is missing, a round changes nothing, or the forms
pub data Told : Type 0 where
  lacking : Told
  unable : Told
  given : List ℕ → Told

abbrev pub answer : Result ⊤ Unenforced → List ℕ → Told
answer (Ok _) fs = given fs
answer (Err Stuck) fs = unable
answer (Err Missing) fs = lacking

abbrev pub told : Outcome → Told
told row_missing = lacking
told stuck = unable
told (enforced cs) = given (form_numbers cs)

abbrev pub next_told : Option (List ℕ) → (List ℕ → Told) → Told
next_told nothing go = lacking
next_told (some fs) go = go fs

module _ (rows : List Row) (masks needs : List ℕ) where
  unfoldable pub rounds_by : ℕ → List ℕ → Told
  rounds_by zero fs = cond (eqb (unsatisfied_at masks (set_of fs)) 0) (given fs) unable
  rounds_by (suc n) fs =
      let mask = unsatisfied_at masks (set_of fs) in
      cond (eqb mask 0) (given fs)
      (cond (any_turn rows (turns_by 1 mask needs fs)) (next_told (each_form (turn_form rows) (turns_by 1 mask needs fs)) (λ gs. rounds_by n gs)) unable)
