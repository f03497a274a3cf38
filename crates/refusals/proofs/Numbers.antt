-- Refusals and their numbers, each by the other.
use Rattle.std.proofs.Common.{arith}
use Rattle.std.specs.Prelude.{◌≡◌, ◌≤◌}
use mathlib.Core.Path.{refl, sym}
use mathlib.Core.Bool.{true, false, true≢false}
use denote.Enum.Bare.{sameb}
use Rattle.refusals.specs.contracts.Refusal as R
use Rattle.refusals.specs.declared.Refusal.{Refusal}
use Rattle.refusals.specs.declared.Refusal.TheVariants.{WrongLine, MalformedField, BeyondSize, UndefinedCode, UnfitLists, UnfitChildren, SettingsOutOfRange, UnfitFacts, MissingRow, NameNotFound, Unenforceable, OutputTooShort}
use Rattle.refusals.specs.Refusals.{refusal_number, refusal_of}

pub refusal_of-refusal_number : (r : Refusal) → refusal_of (refusal_number r) ≡ r
refusal_of-refusal_number WrongLine = refl
refusal_of-refusal_number MalformedField = refl
refusal_of-refusal_number BeyondSize = refl
refusal_of-refusal_number UndefinedCode = refl
refusal_of-refusal_number UnfitLists = refl
refusal_of-refusal_number UnfitChildren = refl
refusal_of-refusal_number SettingsOutOfRange = refl
refusal_of-refusal_number UnfitFacts = refl
refusal_of-refusal_number MissingRow = refl
refusal_of-refusal_number NameNotFound = refl
refusal_of-refusal_number Unenforceable = refl
refusal_of-refusal_number OutputTooShort = refl

pub refusal_number-≤ : (r : Refusal) → refusal_number r ≤ 12
refusal_number-≤ WrongLine = omega arith
refusal_number-≤ MalformedField = omega arith
refusal_number-≤ BeyondSize = omega arith
refusal_number-≤ UndefinedCode = omega arith
refusal_number-≤ UnfitLists = omega arith
refusal_number-≤ UnfitChildren = omega arith
refusal_number-≤ SettingsOutOfRange = omega arith
refusal_number-≤ UnfitFacts = omega arith
refusal_number-≤ MissingRow = omega arith
refusal_number-≤ NameNotFound = omega arith
refusal_number-≤ Unenforceable = omega arith
refusal_number-≤ OutputTooShort = omega arith

-- the comparison with the refusal of a wrong line
pub same_wrong : (r : Refusal) → sameb R.the_type r WrongLine ≡ true → r ≡ WrongLine
same_wrong WrongLine e = refl
same_wrong MalformedField e = absurd (true≢false (sym e))
same_wrong BeyondSize e = absurd (true≢false (sym e))
same_wrong UndefinedCode e = absurd (true≢false (sym e))
same_wrong UnfitLists e = absurd (true≢false (sym e))
same_wrong UnfitChildren e = absurd (true≢false (sym e))
same_wrong SettingsOutOfRange e = absurd (true≢false (sym e))
same_wrong UnfitFacts e = absurd (true≢false (sym e))
same_wrong MissingRow e = absurd (true≢false (sym e))
same_wrong NameNotFound e = absurd (true≢false (sym e))
same_wrong Unenforceable e = absurd (true≢false (sym e))
same_wrong OutputTooShort e = absurd (true≢false (sym e))

pub other_wrong : (r : Refusal) → sameb R.the_type r WrongLine ≡ false → r ≡ WrongLine → ⊥
other_wrong r e z = true≢false (rw z at e)
