-- The relationship rounds on forms, case by case (`rounds_by`).
-- Assumes nothing.
use mathlib.Core.Path.{◌≡◌, refl, sym, ap, ◌∙◌}
use mathlib.Core.Bool.{true, false}
use mathlib.Core.Option.{Option, none, some}
use mathlib.Core.List.{List}
use Prim.Native.Nat.{ℕ, zero, suc, ◌-◌}
use native.Mathlib.Omega.{arith}
use borrow.Author.Tests.{eq-eqb, ne_eqb}
use Rattle.std.specs.Prelude.{⊤, Option as Answer, Some, None, Ok, Err, ok_or}
use Rattle.exchange.specs.declared.relationship.Unenforced.{Unenforced}
use Rattle.exchange.specs.Facts.{Row, unsatisfied_at}
use Rattle.exchange.specs.Standings.{resulting, each_form}
use Rattle.exchange.specs.Turns.{any_turn, turn_form, turns_by, set_of, lacking, unable, given, rounds_by}

module _ (rows : List Row) (masks needs fs : List ℕ) (m : ℕ) (e : m ≡ unsatisfied_at masks (set_of fs)) where
  pub rounds_done : (k : ℕ) → m ≡ 0 → given fs ≡ rounds_by rows masks needs k fs
  unfolding rounds_by
  rounds_done zero z = rw (← e, eq-eqb m 0 z)
  rounds_done (suc k) z = rw (← e, eq-eqb m 0 z)

  module _ (k : ℕ) (more : m ≡ 0 → ⊥) where
    pub rounds_spent : k ≡ 0 → unable ≡ rounds_by rows masks needs k fs
    unfolding rounds_by
    rounds_spent z = rw z (rw (← e, ne_eqb m 0 more))

  pub rounds_stuck : (k : ℕ) → (m ≡ 0 → ⊥) → any_turn rows (turns_by 1 m needs fs) ≡ false → unable ≡ rounds_by rows masks needs k fs
  unfolding rounds_by
  rounds_stuck zero more a = rw (← e, ne_eqb m 0 more)
  rounds_stuck (suc k) more a = rw (← e, ne_eqb m 0 more, a)

  pub rounds_lacking : (k : ℕ) → (m ≡ 0 → ⊥) → (k ≡ 0 → ⊥) → any_turn rows (turns_by 1 m needs fs) ≡ true → none ≡ each_form (turn_form rows) (turns_by 1 m needs fs)
      → lacking ≡ rounds_by rows masks needs k fs
  unfolding rounds_by
  rounds_lacking zero more left a r = absurd (left refl)
  rounds_lacking (suc k) more left a r = rw (← e, ne_eqb m 0 more, a, sym r)

  pub rounds_turn : (k : ℕ) (gs : List ℕ) → (m ≡ 0 → ⊥) → (k ≡ 0 → ⊥) → any_turn rows (turns_by 1 m needs fs) ≡ true
      → some gs ≡ each_form (turn_form rows) (turns_by 1 m needs fs) → rounds_by rows masks needs k fs ≡ rounds_by rows masks needs (k - 1) gs
  unfolding rounds_by
  rounds_turn zero gs more left a r = absurd (left refl)
  rounds_turn (suc k) gs more left a r =
      let back : suc k - 1 ≡ k = omega arith in
      rw (← e, ne_eqb m 0 more, a, sym r, back)

-- what a round's answer says of the forms
pub round_lacking : (r : Answer ⊤) (fs : List ℕ) (o : Option (List ℕ)) → r ≡ None → resulting r fs ≡ o → none ≡ o
round_lacking r fs o e h = ap (λ (t : Answer ⊤). resulting t fs) (sym e) ∙ h

pub round_done : (r : Answer ⊤) (u : ⊤) (fs : List ℕ) (o : Option (List ℕ)) → r ≡ Some u → resulting r fs ≡ o → some fs ≡ o
round_done r u fs o e h = ap (λ (t : Answer ⊤). resulting t fs) (sym e) ∙ h

-- what is left where a missing row ends the rounds, and where they go on
pub ok_or_missing : (r : Answer ⊤) (e f : Unenforced) → ok_or r f ≡ Err e → (r ≡ None) × (e ≡ f)
ok_or_missing None e f h = (refl, cc)
ok_or_missing (Some u) e f h = (cc, cc)

pub ok_or_done : (r : Answer ⊤) (u : ⊤) (f : Unenforced) → ok_or r f ≡ Ok u → r ≡ Some u
ok_or_done None u f h = cc
ok_or_done (Some v) u f h = cc
