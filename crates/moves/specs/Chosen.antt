-- Which list goes on an answer, by what was decided.
-- Renders document 01, "Answer: `k,changed,report` .., then P positions, R, L, G, S, J, C".
use Rattle.std.specs.Prelude.{ℕ, Bool, true, false, cond, ◌||◌, List, [], Option, Some, None}
use Rattle.keys.specs.Expressions.{Expression}
use Rattle.keys.specs.Adjust.{shift_right_required}
use Rattle.keys.specs.Values.{tried_or}
use Rattle.keys.specs.declared.answer.Handed.{Handed}
use Rattle.keys.specs.declared.answer.Handed.TheVariants.{Kept, Cleared, Required, Keys, Shifted, Mapped}
use Rattle.keys.specs.declared.inputs.Attempt.{Attempt}
use Rattle.keys.specs.declared.inputs.Attempt.TheVariants.{Untried, Followed, Failed}

-- what the pairs' move leaves, or what stood, by the outcome of the inputs
abbrev pub followed_or : {A : Type 0} → Attempt → A → A → A
followed_or Untried moved stood = stood
followed_or (Followed side o) moved stood = tried_or o moved stood
followed_or Failed moved stood = stood

-- the list that a child is handed; none where it keeps its own
abbrev pub handed_list : Handed → List ℕ → List ℕ → List ℕ → List ℕ → Option (List ℕ)
handed_list Kept required side shifted mapped = None
handed_list Cleared required side shifted mapped = Some []
handed_list Required required side shifted mapped = Some required
handed_list Keys required side shifted mapped = Some side
handed_list Shifted required side shifted mapped = Some shifted
handed_list Mapped required side shifted mapped = Some mapped

-- the child is handed R shifted
abbrev pub shifts_by : Handed → Bool
shifts_by Kept = false
shifts_by Cleared = false
shifts_by Required = false
shifts_by Keys = false
shifts_by Shifted = true
shifts_by Mapped = false

-- R shifted, where the first child or the others are handed it; else nothing
abbrev pub shifted_for : Handed → Handed → ℕ → List Expression → List Expression
shifted_for first others columns r = cond (shifts_by first || shifts_by others) (shift_right_required columns r) []
