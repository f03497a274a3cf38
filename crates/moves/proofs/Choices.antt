-- The list that was chosen is the one that stands on the answer.
-- Assumes nothing.
use Prim.Native.Nat.{ℕ, ◌≤◌}
use mathlib.Core.Path.{◌≡◌}
use mathlib.Core.Bool.{Bool, true, false, cond}
use mathlib.Core.List.{List, []}
use Rattle.keys.specs.Expressions.{expressions}
use Rattle.keys.specs.Adjust.{moved_directions, shift_right_required}
use native.Mathlib.Omega.{arith}
use lib.ListN.{length, get_or, take, length-map, length-take}
use Rattle.std.specs.Prelude.{IfSome}
use Rattle.keys.specs.Lists.{permute}
use Rattle.keys.specs.declared.inputs.Attempt.{Attempt}
use Rattle.keys.specs.declared.inputs.Attempt.TheVariants.{Untried, Followed, Failed}
use Rattle.keys.specs.Answers.{moved_or}
use Rattle.keys.specs.declared.reorder.Reordered.{Reordered}
use Rattle.keys.specs.declared.reorder.Reordered.TheVariants.{Met, Moved, Impossible}
use Rattle.keys.specs.declared.answer.Handed.{Handed}
use Rattle.keys.specs.declared.answer.Handed.TheVariants.{Kept, Cleared, Required, Keys, Shifted, Mapped}
use Rattle.keys.specs.declared.answer.Outcome.{Outcome}
use Rattle.keys.specs.declared.answer.Outcome.TheVariants.{Unchanged, Passed, Tried, Regrouped}
use Rattle.std.proofs.lemmas.Bool.{or_left, or_right}
use Rattle.keys.specs.Values.{tried_or}
use Rattle.moves.specs.Chosen.{followed_or, handed_list, shifts_by, shifted_for}

-- where a child is handed R shifted, k is that, packed
abbrev pub ShiftedBy : Handed → ℕ → List ℕ → List ℕ → Type 0
ShiftedBy h columns r k = shifts_by h ≡ true → expressions k ≡ shift_right_required columns (expressions r)

module _ (first others : Handed) (columns : ℕ) (r k : List ℕ) (e : expressions k ≡ shifted_for first others columns (expressions r)) where
  pub shifted_first : ShiftedBy first columns r k
  shifted_first h = rw (or_left (shifts_by first) (shifts_by others) h) at e

  pub shifted_others : ShiftedBy others columns r k
  shifted_others h = rw (or_right (shifts_by first) (shifts_by others) h) at e

-- a list that a line has room for
abbrev pub Short : List ℕ → Type 0
Short xs = length xs ≤ 32

-- what stands at positions is as short as these
pub moved_short : (gone : ℕ) (xs ps : List ℕ) → Short ps → Short (permute gone xs ps)
moved_short gone xs ps h = rw (length-map ps (λ p. get_or xs p gone)) h

pub turned_short : (s ps : List ℕ) → Short ps → Short (moved_directions s ps)
turned_short s ps h = moved_short 0 s (take (length s) ps) (rw (length-take (length s) ps) (omega (arith, h)))

-- what holds of each list holds of the one that is chosen
module _ (P : List ℕ → Type 0) where
  pub cleared_any : (b : Bool) (r : List ℕ) → P [] → P r → P (cond b [] r)
  cleared_any true r n h = n
  cleared_any false r n h = h

  pub tried_any : (o : Reordered) (moved stood : List ℕ) → P moved → P stood → P (tried_or o moved stood)
  tried_any Met moved stood m s = s
  tried_any (Moved at) moved stood m s = m
  tried_any Impossible moved stood m s = s

  pub moved_any : (o : Outcome) (moved stood : List ℕ) → P moved → P stood → P (moved_or o moved stood)
  moved_any Unchanged moved stood m s = s
  moved_any Passed moved stood m s = s
  moved_any (Tried o) moved stood m s = tried_any o moved stood m s
  moved_any (Regrouped at places) moved stood m s = s

  pub handed_any : (h : Handed) (r side k m : List ℕ) → P [] → P r → P side → P k → P m → IfSome (handed_list h r side k m) P
  handed_any Kept r side k m n p q t u = tt
  handed_any Cleared r side k m n p q t u = n
  handed_any Required r side k m n p q t u = p
  handed_any Keys r side k m n p q t u = q
  handed_any Shifted r side k m n p q t u = t
  handed_any Mapped r side k m n p q t u = u

  pub followed_any : (o : Attempt) (moved stood : List ℕ) → P moved → P stood → P (followed_or o moved stood)
  followed_any Untried moved stood m s = s
  followed_any (Followed side o) moved stood m s = tried_any o moved stood m s
  followed_any Failed moved stood m s = s
