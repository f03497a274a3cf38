-- The numbers of refusals.
-- Renders document 01, "Where a sheet is turned back".
use Rattle.std.specs.Prelude.{ℕ, ◌+◌, ◌*◌, Result, Ok, Err, cond, eqb}
use Rattle.refusals.specs.declared.Refusal.{Refusal}
use Rattle.refusals.specs.declared.Refusal.TheVariants.{WrongLine, MalformedField, BeyondSize, UndefinedCode, UnfitLists, UnfitChildren, SettingsOutOfRange, UnfitFacts, MissingRow, NameNotFound, Unenforceable, OutputTooShort}
use Rattle.refusals.specs.declared.Refused.{Refused}

abbrev pub refusal_number : Refusal → ℕ
refusal_number WrongLine = 1
refusal_number MalformedField = 2
refusal_number BeyondSize = 3
refusal_number UndefinedCode = 4
refusal_number UnfitLists = 5
refusal_number UnfitChildren = 6
refusal_number SettingsOutOfRange = 7
refusal_number UnfitFacts = 8
refusal_number MissingRow = 9
refusal_number NameNotFound = 10
refusal_number Unenforceable = 11
refusal_number OutputTooShort = 12

-- the refusal of a number from 1 to 12
abbrev pub refusal_of : ℕ → Refusal
refusal_of n = cond (eqb n 1) WrongLine (cond (eqb n 2) MalformedField (cond (eqb n 3) BeyondSize (cond (eqb n 4) UndefinedCode (cond (eqb n 5) UnfitLists (cond (eqb n 6) UnfitChildren (cond (eqb n 7) SettingsOutOfRange (cond (eqb n 8) UnfitFacts (cond (eqb n 9) MissingRow (cond (eqb n 10) NameNotFound (cond (eqb n 11) Unenforceable OutputTooShort))))))))))

-- what a judge answers by the number that it finds: 0 where nothing is turned back
abbrev pub judged_by : ℕ → Result (Unit {0}) Refusal
judged_by n = cond (eqb n 0) (Ok tt) (Err (refusal_of n))

-- a refusal as the word that an entry point answers
abbrev pub refused_word : Refused → ℕ
refused_word r = refusal_number r.refusal * 4294967296 + r.line

-- how many bytes were written, or the word of a refusal
abbrev pub written_word : Result ℕ Refused → ℕ
written_word (Ok n) = n
written_word (Err r) = refused_word r
