-- The rounds are the loop of 000, however long that runs: as many as there are children are enough, since each gives one its exchange.
use Prim.Native.Nat.{ℕ, zero, suc, ◌+◌, ◌≤◌, ◌/◌, ◌%◌}
use mathlib.Core.Path.{◌≡◌, refl}
use mathlib.Core.Bool.{Bool, true, false, cond, not, ◌&&◌, ◌||◌}
use mathlib.Core.Option.{Option, some, none as nothing}
use mathlib.Core.List.{List, [], ◌∷◌}
use lib.Dec.{eqb}
use lib.ListN.{length}
use native.Mathlib.Omega.{arith}
use borrow.Author.Tests.{eqb-true}
use Rattle.exchange.specs.Forms.{with_relationship}
use Rattle.exchange.specs.Facts.{Row, row_of, unsatisfied_at}
use Rattle.exchange.specs.Operators.{is_keyed, mark}
use Rattle.exchange.specs.States.{ChildState, with_form}
use Rattle.exchange.specs.Step.{keyed_on}
use Rattle.exchange.specs.Relationships.{Enforced, row_missing, stuck, enforced, is_given, is_givable, already_target_hash, any_givable, given_set, add_relationship_on_top, round, next_round, rounds, enforce_distribution_relationships}
use Rattle.exchange.proofs.Passing.{Holds, HoldsEnforced, holds_then}

module _ (rows : List Row) (masks : List ℕ) where
  abbrev pub asked : List ChildState → ℕ
  asked cs = unsatisfied_at masks (given_set cs)

  -- the loop of `enforce_distribution_relationships`, from some children to its end
  pub data Loop : List ChildState → Enforced → Type 0 where
    satisfied : {cs : List ChildState} → asked cs ≡ 0 → Loop cs (enforced cs)
    unchanged : {cs : List ChildState} → eqb (asked cs) 0 ≡ false → any_givable (asked cs) cs ≡ false → Loop cs stuck
    missed : {cs : List ChildState} → eqb (asked cs) 0 ≡ false → any_givable (asked cs) cs ≡ true → round rows (asked cs) cs ≡ nothing → Loop cs row_missing
    again : {cs ds : List ChildState} {e : Enforced}
        → eqb (asked cs) 0 ≡ false → any_givable (asked cs) cs ≡ true → round rows (asked cs) cs ≡ some ds → Loop ds e → Loop cs e

-- how many have no relationship exchange yet
ungiven : List ChildState → ℕ
ungiven [] = 0
ungiven (c ∷ cs) = mark (not (is_given c)) + ungiven cs

ungiven_length : (cs : List ChildState) → ungiven cs ≤ length cs
unfolding ungiven
ungiven_length [] = omega arith
ungiven_length (c ∷ cs) = let h : ungiven cs ≤ length cs = ungiven_length cs in go (not (is_given c)) h
  where
    go : (b : Bool) → ungiven cs ≤ length cs → mark b + ungiven cs ≤ suc (length cs)
    go true h = omega arith
    go false h = omega arith

-- a round leaves one fewer, if it gives any
module _ (rows : List Row) where
  abbrev Falls : ℕ → List ChildState → List ChildState → Type 0
  Falls mask cs ds = ungiven ds + mark (any_givable mask cs) ≤ ungiven cs

  given_form : (c : ChildState) (o : Option Row) → Holds (λ d. is_given d ≡ true) (with_form c (with_relationship c.form) keyed_on o)
  given_form c nothing = tt
  given_form c (some x) = refl

  -- a child in a round: as it was, or ungiven before and given after
  Turn : Bool → ChildState → ChildState → Type 0
  Turn b c d = mark (not (is_given d)) + mark b ≤ mark (not (is_given c))

  shut : (b : Bool) (c d : ChildState) → Turn b c d → mark (not (is_given d)) + mark b ≤ mark (not (is_given c))
  unfolding Turn
  shut b c d h = h

  turn : (b : Bool) (c : ChildState) → Holds (Turn (b && is_givable c) c) (cond (b && is_givable c) (add_relationship_on_top rows c) (some c))
  unfolding Turn
  turn b c = go (b && is_givable c) refl
    where
      ungiven_givable : (b g k : Bool) → (b && (not g && k)) ≡ true → not g ≡ true
      ungiven_givable true false k e = refl
      ungiven_givable true true k e = e
      ungiven_givable false false k e = refl
      ungiven_givable false true k e = e

      go : (x : Bool) → (b && is_givable c) ≡ x → Holds (Turn x c) (cond x (add_relationship_on_top rows c) (some c))
      go false e = let l : mark (not (is_given c)) + 0 ≤ mark (not (is_given c)) = omega arith in l
      go true e = given (row_of rows c.number (with_relationship c.form))
        where
          given : (o : Option Row) → Holds (Turn true c) (with_form c (with_relationship c.form) keyed_on o)
          given nothing = tt
          given (some x) = rw (ungiven_givable b (is_given c) (is_keyed c.need && not (already_target_hash c)) e) (omega arith)

  falls : (mask : ℕ) (cs : List ChildState) → Holds (Falls mask cs) (round rows mask cs)
  unfolding round any_givable ungiven
  falls mask [] = omega arith
  falls mask (c ∷ cs) =
      holds_then (Turn (eqb (mask % 2) 1 && is_givable c) c) (Falls mask (c ∷ cs))
      (cond (eqb (mask % 2) 1 && is_givable c) (add_relationship_on_top rows c) (some c)) _ (turn (eqb (mask % 2) 1) c)
      (λ d p. holds_then (Falls (mask / 2) cs) (Falls mask (c ∷ cs)) (round rows (mask / 2) cs) _ (falls (mask / 2) cs)
      (λ ds ps. both (eqb (mask % 2) 1 && is_givable c) (any_givable (mask / 2) cs) (mark (not (is_given c))) (mark (not (is_given d))) (ungiven cs) (ungiven ds) (shut (eqb (mask % 2) 1 && is_givable c) c d p) ps))
    where
      both : (x y : Bool) (a b k l : ℕ) → b + mark x ≤ a → l + mark y ≤ k → (b + l) + mark (x || y) ≤ a + k
      both true true a b k l p q = omega arith
      both true false a b k l p q = omega arith
      both false true a b k l p q = omega arith
      both false false a b k l p q = omega arith

givable_ungiven : (mask : ℕ) (cs : List ChildState) → mark (any_givable mask cs) ≤ ungiven cs
unfolding any_givable ungiven
givable_ungiven mask [] = omega arith
givable_ungiven mask (c ∷ cs) = go (eqb (mask % 2) 1) (is_given c) (is_keyed c.need && not (already_target_hash c)) (any_givable (mask / 2) cs) (givable_ungiven (mask / 2) cs)
  where
    go : (b g k y : Bool) → mark y ≤ ungiven cs → mark ((b && (not g && k)) || y) ≤ mark (not g) + ungiven cs
    go true true k y h = omega arith
    go true false true y h = omega arith
    go true false false true h = omega arith
    go true false false false h = omega arith
    go false true k y h = omega arith
    go false false k true h = omega arith
    go false false k false h = omega arith

module _ (rows : List Row) (masks : List ℕ) where
  -- none is left to be given one
  none_left : (mask : ℕ) (cs : List ChildState) → ungiven cs ≤ 0 → any_givable mask cs ≡ false
  none_left mask cs h = go (any_givable mask cs) (givable_ungiven mask cs)
    where
      go : (b : Bool) → mark b ≤ ungiven cs → b ≡ false
      go true p = absurd (omega arith)
      go false p = refl

  loops : (n : ℕ) (cs : List ChildState) → ungiven cs ≤ n → Loop rows masks cs (rounds rows masks n cs)
  unfolding rounds
  loops zero cs h = go (eqb (asked rows masks cs) 0) refl
    where
      go : (x : Bool) → eqb (asked rows masks cs) 0 ≡ x → Loop rows masks cs (cond x (enforced cs) stuck)
      go true e = satisfied (eqb-true (asked rows masks cs) 0 e)
      go false e = unchanged e (none_left (asked rows masks cs) cs h)
  loops (suc n) cs h =
      go (eqb (asked rows masks cs) 0) refl (any_givable (asked rows masks cs) cs) refl (round rows (asked rows masks cs) cs) refl
      (falls rows (asked rows masks cs) cs) (λ ds q. loops n ds q)
    where
      go : (x : Bool) → eqb (asked rows masks cs) 0 ≡ x → (y : Bool) → any_givable (asked rows masks cs) cs ≡ y
          → (o : Option (List ChildState)) → round rows (asked rows masks cs) cs ≡ o
          → Holds (λ ds. ungiven ds + mark (any_givable (asked rows masks cs) cs) ≤ ungiven cs) o
          → ((ds : List ChildState) → ungiven ds ≤ n → Loop rows masks ds (rounds rows masks n ds))
          → Loop rows masks cs (cond x (enforced cs) (cond y (next_round o (λ ds. rounds rows masks n ds)) stuck))
      go true e y g o r p k = satisfied (eqb-true (asked rows masks cs) 0 e)
      go false e false g o r p k = unchanged e g
      go false e true g nothing r p k = missed e g r
      go false e true g (some ds) r p k =
          let q : ungiven ds + 1 ≤ ungiven cs = rw g at p in
          again e g r (k ds (omega arith))

  -- what the definition gives is what the loop ends in
  pub rounds_loop : (cs : List ChildState) → Loop rows masks cs (enforce_distribution_relationships rows masks cs)
  rounds_loop cs = loops (length cs) cs (ungiven_length cs)

  -- where it ends without an error, Y at the set of children that were given an exchange is 0
  pub loop_ends : {cs : List ChildState} {e : Enforced} → Loop rows masks cs e → HoldsEnforced (λ ds. asked rows masks ds ≡ 0) e
  loop_ends (satisfied q) = q
  loop_ends (unchanged e g) = tt
  loop_ends (missed e g r) = tt
  loop_ends (again e g r l) = loop_ends l
